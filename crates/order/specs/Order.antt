-- The order check (01, "Order check"): rule 25 for one entry, and the first entry that fails.
use Rattle.std.specs.Prelude.{ℕ, zero, suc, ◌+◌, Bool, true, cond, ◌&&◌, List, [], ◌∷◌, leb, ltb, eqb}
use Rattle.geometry.specs.declared.units.RecordNumber.{RecordNumber}
use Rattle.geometry.specs.declared.units.EntryNumber.{EntryNumber}
use Rattle.geometry.specs.declared.area.Slot.{Slot}
use Rattle.geometry.specs.Units.{entries_before}
use Rattle.geometry.specs.Growth.{capacity_of}
use Rattle.geometry.specs.Area.{slot_of}
use Rattle.descriptor.specs.declared.numbers.DescriptorNumbers.{DescriptorNumbers}
use Rattle.descriptor.specs.declared.validating.Validated.{Validated}
use Rattle.descriptor.specs.declared.validating.Validated.TheVariants.{Numbers, Refused}
use Rattle.descriptor.specs.Refusal.{Rule, row, refusal_in}
use Rattle.descriptor.specs.FirstRecord.{growth_in}
use Rattle.descriptor.specs.Areas.{area_start_of, area_end_of}
use Rattle.descriptor.specs.Answers.{validation_of}
use Rattle.entry.specs.Opening.{entered_of, end_of}
use Rattle.order.specs.declared.answers.Checked.{Checked}

-- an entry starts at or after the end of its extension's index area (the first of an extension) or of the entry before it (others)
unfoldable pub starts_in_order : DescriptorNumbers → List RecordNumber → Slot → ℕ → ℕ → Bool
starts_in_order d addresses slot before start =
    cond (eqb slot.place 1) (leb (area_end_of d addresses slot.extension.0) start) (leb before start)

-- the last entry of an extension, where another follows, ends at or before that one's index area's start
unfoldable pub ends_in_order : DescriptorNumbers → List RecordNumber → Slot → ℕ → Bool
ends_in_order d addresses slot end =
    let k = slot.extension.0 in
    cond (eqb slot.place (capacity_of (growth_in d) k) && ltb k d.nex) (leb end (area_start_of d addresses (k + 1))) true

-- rule 25 for entry e
abbrev pub order_rules : List ℕ → DescriptorNumbers → List RecordNumber → EntryNumber → List Rule
order_rules file d addresses e =
    let slot = slot_of (growth_in d) d.nex d.lind e in
    let this = entered_of file d addresses e in
    let before = entered_of file d addresses (record { 0 = entries_before e }) in
    row 25 (starts_in_order d addresses slot (end_of before) this.start) ∷
    row 25 (ends_in_order d addresses slot (end_of this)) ∷
    []

-- the refusal of entry e in the check: its own, or 25
unfoldable pub order_refusal : List ℕ → DescriptorNumbers → List RecordNumber → EntryNumber → ℕ
order_refusal file d addresses e =
    let opening = (entered_of file d addresses e).refusal in
    cond (eqb opening 0) (refusal_in (order_rules file d addresses e)) opening

-- all entries passed
abbrev pub all_pass : Checked
all_pass = record { entry = record { 0 = 0 }; refusal = 0 }

-- the first entry from number k on, of as many as are left, that fails, with its refusal
unfoldable pub checked_from : List ℕ → DescriptorNumbers → List RecordNumber → ℕ → ℕ → Checked
checked_from file d addresses k zero = all_pass
checked_from file d addresses k (suc left) =
    let n = order_refusal file d addresses (record { 0 = k }) in
    let later = checked_from file d addresses (k + 1) left in
    cond (eqb n 0) later (record { entry = record { 0 = k }; refusal = n })

-- all entries of validated numbers in turn
abbrev pub checked_all : List ℕ → DescriptorNumbers → List RecordNumber → Checked
checked_all file d addresses = checked_from file d addresses 1 (entries_before d.xnext)

-- the check by the validation's case: a refused descriptor gives entry 0 and its number
unfoldable pub checked_in : List ℕ → Validated → List RecordNumber → Checked
checked_in file (Refused n) addresses = record { entry = record { 0 = 0 }; refusal = n }
checked_in file (Numbers d) addresses = checked_all file d addresses

-- the check of a file
unfoldable pub check_of : List ℕ → Checked
check_of file = checked_in file (validation_of file).numbers (validation_of file).addresses
