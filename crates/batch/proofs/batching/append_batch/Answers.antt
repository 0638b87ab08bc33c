-- `batch::batching::append_batch` meets its contract: it refuses the batch, or the file with the first entry, or appends the entries in turn. Assumes nothing.
use Rattle.std.proofs.Common.{ℕ, sym, ap, ◌∙◌}
use Rattle.descriptor.specs.declared.validating.Validation.{Validation}
use Rattle.descriptor.proofs.Answered.{refusal-told, told}
use Rattle.batch.specs.Batch.{Batch, laid_in, batch_in}
use Rattle.batch.proofs.Whole.{refused, none, file-refused, in-turn, file-in-turn}
use Rattle.batch.proofs.batching.append_batch.Goals as goal
use Rattle.batch.proofs.batching.append_batch.Goals.{Start}

-- the batch
abbrev given : Start → Batch
given s = let a = s.args in batch_in a.versions.now a.counts.now (laid_in a.index.now a.ids.now a.lengths.now a.sections.now a.values.now)

pub returns-in-Err : goal.returns-in-Err
returns-in-Err c = rw c.number.ensures (refused c.args.file.now (given (goal.at.returns-in-Err c).Start) c.in-Err.refusal c.in-Err.ensures)

pub returns-then-versions-eq0 : goal.returns-then-versions-eq0
returns-then-versions-eq0 c = none c.args.file.now (given (goal.at.returns-then-versions-eq0 c).Start) (sym c.in_default.ensures) c.if-versions-eq0.true

pub returns-in_default-case : goal.returns-in_default-case
returns-in_default-case c =
    let t = c.in_default-case.is in
    let f = file-refused c.args.file.now (given (goal.at.returns-in_default-case c).Start) (sym c.in_default.ensures) c.if-versions-eq0.false _
    (ap (λ (x : Validation). x.numbers) (sym c.validate-validation.ensures) ∙ t) in
    (ap (λ (n : ℕ). record { refusal = n; accepted = 0 }) (refusal-told c.refusal_of.ensures t) ∙ f.0, f.1)

pub append_in_turn-requires : goal.append_in_turn-requires
append_in_turn-requires c =
    let t = told c.args.file.now c.validate-validation.result _ c.validate-validation.ensures c.in-Numbers.is in
    (t.refusal, t.numbers, sym c.in_default.ensures)

pub returns : goal.returns
returns c =
    let file = c.args.file.now in
    let s = given (goal.at.returns c).Start in
    let holds = sym c.in_default.ensures in
    let a = c.append_in_turn.ensures in
    (a.0 ∙ sym (in-turn file s holds), a.1 ∙ sym (file-in-turn file s holds))
