-- `handing::inner::index_part` meets its contract: the number is tested, then the slot is found, and then the entry is entered. Assumes nothing.
use Rattle.std.proofs.Common.{◌≡◌, refl, ◌+◌, ◌^◌, ◌≤◌, length, arith, ◌∙◌}
use borrow.Author.Tests.{ne_eqb}
use Rattle.outcome.proofs.Refusals.{number-positive}
use Rattle.descriptor.specs.FirstRecord.{addresses_of}
use Rattle.entry.specs.Opening.{entry_refusal}
use Rattle.entry.proofs.Entering.{slot_lent, entered-given, entered-not, entered-refused, number_low, number_high}
use Rattle.handing.specs.Parts.{index_part}
use Rattle.handing.proofs.inner.index_part.Goals as goal
use Rattle.handing.proofs.inner.index_part.Goals.{In_default, then-number-lt1-via-then-number-lt1, then-number-lt1-via-else-number-lt1+then-entries_before-number}

-- the slot ends within the file
ends : (c : In_default) → c.slot_position-slot.result + c.args.d.lind ≤ 2 ^ 28
ends c =
    let inside = slot_lent (length c.args.file.now) c.args.d _ c.requires.0.admitted c.args.number c.if-number-lt1.false (omega (arith, c.entries_before.ensures, c.if-entries_before-number.false)) in
    omega (arith, c.slot_position-slot.ensures, inside, c.requires.0.admitted.lent.high)

pub returns-then-number-lt1 : goal.returns-then-number-lt1
unfolding index_part
returns-then-number-lt1 c =
    let file = c.args.file.now in
    let d = c.args.d in
    let refused =
    elim c.then-number-lt1.branch as (λ _. entry_refusal file d (addresses_of file d.nex) c.args.number ≡ 12) [
      | then-number-lt1-via-then-number-lt1 w ↦ number_low _ _ _ _ w.if-number-lt1.true
      | then-number-lt1-via-else-number-lt1+then-entries_before-number w ↦
          number_high _ _ _ _ w.if-number-lt1.false (omega (arith, w.entries_before.ensures, w.if-entries_before-number.true))
    ]
    in
    c.no_part.ensures ∙ rw (c.number.ensures, entered-refused _ _ _ _ 12 refused refl)

pub returns-in-Err : goal.returns-in-Err
unfolding index_part
returns-in-Err c = c.no_part-in-Err.ensures ∙ rw (c.number-in-Err.ensures, ← entered-not _ _ _ _ _ c.in-Err.ensures, ne_eqb _ 0 (number-positive c.in-Err.refusal))

pub overflow_add-slot : goal.overflow_add-slot
overflow_add-slot c = omega (arith, ends (goal.at.overflow_add-slot c).In_default)

pub words_from-requires : goal.words_from-requires
words_from-requires c = omega (arith, ends (goal.at.words_from-requires c).In_default)

pub returns : goal.returns
unfolding index_part
returns c =
    c.words_from.ensures ∙ rw (c.slot_position-slot.ensures, ← entered-given _ _ _ _ c.in_default.ensures)
