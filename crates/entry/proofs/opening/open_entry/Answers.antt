-- `entry::opening::open_entry` meets its contract: the file is validated, and the entry is entered. Assumes nothing.
use Rattle.std.proofs.Common.{◌≡◌, refl, sym, ap, ◌∙◌}
use borrow.Author.Tests.{ne_eqb}
use borrow.Author.Rules.{rules, sfits_of}
use mir.Syntax.{w32, w64}
use mir.Val.{to_z, of_z}
use mir.Facts.{to_z-of_z}
use Rattle.descriptor.proofs.Answered.{Admits, case-told, case-left}
use Rattle.pieces.proofs.Pieces.{described-in}
use Rattle.entry.specs.Answers.{opened_as, open_of}
use Rattle.descriptor.specs.FirstRecord.{addresses_of}
use Rattle.outcome.proofs.Refusals.{number-positive}
use Rattle.entry.specs.Entered.{Entered, given}
use Rattle.entry.specs.Opening.{entered_of}
use Rattle.entry.proofs.Entering.{entered-given, entered-not}
use Rattle.entry.proofs.OpenedEntry.{known, open-refused, open-numbers}
use Rattle.entry.proofs.opening.open_entry.Goals as goal
use Rattle.entry.proofs.opening.open_entry.Goals.{In-Numbers, After-enter, In-Ok}

-- what the numbers that the call gave show
shown : (c : In-Numbers) → Admits c.args.file.now c.in-Numbers.d c.admit-case.new.totals
shown c = case-told _ c.admit-case.result c.admit-case.ensures.0 c.admit-case.ensures.1 c.in-Numbers.is

pub returns-in_default : goal.returns-in_default
returns-in_default c =
    let left = case-left _ c.admit-case.result c.admit-case.ensures.0 c.refusal_of.ensures c.in_default.is in
    c.refused.ensures ∙ sym (open-refused _ _ left.validation left.broken)

pub enter-requires : goal.enter-requires
enter-requires c = let p = shown (goal.at.enter-requires c).In-Numbers in (p.admitted, p.table)

-- the answer is made of what was entered
answer : (c : After-enter) → Admits c.args.file.now c.in-Numbers.d c.admit-case.new.totals
    → {x : Entered} → x ≡ entered_of c.args.file.now c.in-Numbers.d (addresses_of c.args.file.now c.in-Numbers.d.nex) c.args.number → open_of c.args.file.now c.args.number ≡ opened_as c.args.file.now x
answer c p q = open-numbers _ _ p.validation ∙ ap (opened_as _) (sym q)

pub returns-in-Err : goal.returns-in-Err
unfolding opened_as
returns-in-Err c =
    let at = goal.at.returns-in-Err c in
    c.refused-in-Err.ensures ∙ rw (c.number.ensures) (sym (answer at.After-enter (shown at.In-Numbers) (entered-not _ _ _ _ _ c.in-Err.ensures) ∙ rw (ne_eqb _ 0 (number-positive c.in-Err.refusal))))

-- what was entered, with no refusal
entered : (c : In-Ok) → given c.in-Ok.entered ≡ entered_of c.args.file.now c.in-Numbers.d (addresses_of c.args.file.now c.in-Numbers.d.nex) c.args.number
entered c = entered-given _ _ _ _ c.in-Ok.ensures

pub invariant_of-entry : goal.invariant_of-entry
invariant_of-entry c =
    let at = goal.at.invariant_of-entry c in
    let p = shown at.In-Numbers in
    record { described = described-in p.admitted.order (known _ _ _ _ _ p.admitted.admitted (entered at.In-Ok) refl).described }

pub returns : goal.returns
unfolding opened_as
returns c =
    let at = goal.at.returns c in
    let version : to_z w32 (of_z w32 c.in-Ok.entered.version) ≡ c.in-Ok.entered.version = search rules in
    rw (c.tables.ensures, version, to_z-of_z {w = w64} (sfits_of c.cast_signed.type_inv), c.cast_signed.ensures, answer at.After-enter (shown at.In-Numbers) (entered at.In-Ok))
