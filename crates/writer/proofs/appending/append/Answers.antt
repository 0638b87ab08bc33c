-- `writer::appending::append` meets its contract: it validates, and appends from what that shows. Assumes nothing.
use Rattle.std.proofs.Common.{refl, sym, ◌∙◌}
use mir.Facts.{to_z-of_z}
use mir.Syntax.{w32}
use Rattle.descriptor.specs.declared.validating.Validated.TheVariants.{Numbers, Refused}
use Rattle.descriptor.specs.Answers.{no_validation}
use Rattle.descriptor.proofs.Answered.{Admits, case-told, case-left}
use Rattle.writer.specs.Answers.{append_in, file_in}
use Rattle.writer.proofs.ByRefusal.{given-answer}
use Rattle.writer.proofs.Answering.{append-by, file-by}
use Rattle.writer.proofs.appending.append.Goals as goal
use Rattle.writer.proofs.appending.append.Goals.{In-Numbers}

-- what the numbers that validating gave show
shown : (c : In-Numbers) → Admits c.args.file.now c.in-Numbers.d c.admit-case.new.totals
shown c = case-told _ c.admit-case.result c.admit-case.ensures.0 c.admit-case.ensures.1 c.in-Numbers.is

pub returns-in_default : goal.returns-in_default
unfolding append_in file_in
returns-in_default c =
    let n = c.refusal_of.result in
    let file = c.args.file.now in
    let left = sym (case-left file c.admit-case.result c.admit-case.ensures.0 c.refusal_of.ensures c.in_default.is).validation in
    (sym (append-by file (no_validation n) (Refused n) left refl _), sym (file-by file (no_validation n) (Refused n) left refl _))

pub append_from-requires : goal.append_from-requires
append_from-requires c = let p = shown (goal.at.append_from-requires c).In-Numbers in (p.admitted, p.table)

pub returns : goal.returns
unfolding append_in file_in
returns c =
    let file = c.args.file.now in
    let told = sym (shown (goal.at.returns c).In-Numbers).validation in
    let a = rw (to_z-of_z {w = w32} c.ranges.version) at c.append_from.ensures in
    (c.from.ensures ∙ given-answer file c.in-Numbers.d _ c.append_from.result a.0 ∙ sym (append-by file _ (Numbers c.in-Numbers.d) told refl _), a.1 ∙ sym (file-by file _ (Numbers c.in-Numbers.d) told refl _))
