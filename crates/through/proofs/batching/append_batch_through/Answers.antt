-- `through::batching::append_batch_through` meets its contract: refused by 26 or 27, or the appends in turn from the record's numbers. Assumes nothing.
use Rattle.std.proofs.Common.{sym, ap, ◌∙◌}
use Rattle.outcome.proofs.Refusals.{number-positive}
use Rattle.batch.specs.Batch.{Batch, laid_in, batch_in}
use Rattle.through.specs.declared.batching.BatchedThrough.{BatchedThrough}
use Rattle.through.proofs.Outcomes.{batch-refused, batch-counted}
use Rattle.through.proofs.Given.{given-staying, passed, numbers-there, batch-grown, batch-given}
use Rattle.through.proofs.batching.append_batch_through.Goals as goal
use Rattle.through.proofs.batching.append_batch_through.Goals.{Start}

abbrev over : Start → Batch
over s = let a = s.args in batch_in a.versions.now a.counts.now (laid_in a.index.now a.ids.now a.lengths.now a.sections.now a.values.now)

pub returns-in-Err : goal.returns-in-Err
returns-in-Err c =
    let counted = c.number.ensures ∙ c.in-Err.ensures in
    let e = given-staying
    (batch-counted c.args.file.now c.args.held (over (goal.at.returns-in-Err c).Start) counted (λ q. number-positive c.in-Err.counted (sym c.number.ensures ∙ q))) in
    let r = c.refused.ensures in
    (ap (λ (x : BatchedThrough). x.answer) r ∙ e.0, ap (λ (x : BatchedThrough). x.held) r ∙ e.1, e.2)

pub returns-then-refusal-ne0 : goal.returns-then-refusal-ne0
returns-then-refusal-ne0 c =
    let e = given-staying
    (batch-refused c.args.file.now c.args.held c.held_refusal-refusal.ensures c.if-refusal-ne0.true (over (goal.at.returns-then-refusal-ne0 c).Start) (sym c.in_default.ensures)) in
    let r = c.refused-then-refusal-ne0.ensures in
    (ap (λ (x : BatchedThrough). x.answer) r ∙ e.0, ap (λ (x : BatchedThrough). x.held) r ∙ e.1, e.2)

pub append_in_turn-answer-requires : goal.append_in_turn-answer-requires
append_in_turn-answer-requires c =
    let z = sym c.held_refusal-refusal.ensures ∙ c.if-refusal-ne0.false in
    (passed c.args.file.now c.args.held z, numbers-there c.args.file.now c.args.held z, sym c.in_default.ensures)

pub kept_true-after-requires : goal.kept_true-after-requires
kept_true-after-requires c =
    let z = sym c.held_refusal-refusal.ensures ∙ c.if-refusal-ne0.false in
    batch-grown c.args.file.now c.args.held z (over (goal.at.kept_true-after-requires c).Start) (sym c.in_default.ensures) _ _ c.append_in_turn-answer.ensures

pub returns : goal.returns
returns c =
    let z = sym c.held_refusal-refusal.ensures ∙ c.if-refusal-ne0.false in
    batch-given c.args.file.now c.args.held z (over (goal.at.returns c).Start) (sym c.in_default.ensures) _ _ c.append_in_turn-answer.ensures c.kept_true-after.ensures
