-- `through::appending::append_through` meets its contract: refused by 27, or an append from the record's numbers. Assumes nothing.
use Rattle.std.proofs.Common.{sym, ap, ◌∙◌}
use mir.Facts.{to_z-of_z}
use mir.Syntax.{w32}
use Rattle.storing.specs.Handed.{Handed, handed_in}
use Rattle.writer.specs.declared.answers.Appended.{Appended}
use Rattle.writer.specs.Answers.{AppendsFrom}
use Rattle.through.proofs.Outcomes.{append-refused}
use Rattle.through.proofs.Given.{given-staying, admitted-there, totals-there, append-grown, append-given, append-undone}
use Rattle.through.proofs.appending.append_through.Goals as goal
use Rattle.through.proofs.appending.append_through.Goals.{After-from-answer}

abbrev over : After-from-answer → Handed
over c = let a = c.args in handed_in a.version a.index.now a.ids.now a.lengths.now a.sections.now a.values.now

-- what the append from the record did
appends : (c : After-from-answer) → AppendsFrom c.args.file.now c.args.held.numbers (over c) c.append_from.result c.append_from.new.file
appends c = rw (to_z-of_z {w = w32} c.ranges.version) at c.append_from.ensures

pub returns-then-refusal-ne0 : goal.returns-then-refusal-ne0
returns-then-refusal-ne0 c = given-staying (append-refused c.args.file.now c.args.held c.held_refusal-refusal.ensures c.if-refusal-ne0.true _)

pub append_from-requires : goal.append_from-requires
append_from-requires c =
    let z = sym c.held_refusal-refusal.ensures ∙ c.if-refusal-ne0.false in
    (admitted-there c.args.file.now c.args.held z, totals-there c.args.file.now c.args.held z)

pub returns-then-answer-ne0 : goal.returns-then-answer-ne0
returns-then-answer-ne0 c =
    let p = (goal.at.returns-then-answer-ne0 c).After-from-answer in
    let z = sym c.held_refusal-refusal.ensures ∙ c.if-refusal-ne0.false in
    rw c.from-answer.ensures
    (append-undone c.args.file.now c.args.held z (over p) _ _ (appends p) (λ q. c.if-answer-ne0.true (ap (λ (r : Appended). r.refusal) c.from-answer.ensures ∙ q)))

pub kept_true-after-requires : goal.kept_true-after-requires
kept_true-after-requires c =
    let p = (goal.at.kept_true-after-requires c).After-from-answer in
    append-grown c.args.file.now c.args.held (sym c.held_refusal-refusal.ensures ∙ c.if-refusal-ne0.false) (over p) _ _ (appends p)

pub returns : goal.returns
returns c =
    let p = (goal.at.returns c).After-from-answer in
    let z = sym c.held_refusal-refusal.ensures ∙ c.if-refusal-ne0.false in
    rw c.from-answer.ensures (append-given c.args.file.now c.args.held z (over p) _ _ (appends p) c.kept_true-after.ensures)
