-- Where an entry stands in the index, and what the code asks of a standing.
use Rattle.std.specs.Prelude.{ℕ, ◌-◌, ◌≤◌, ◌≡◌, cond, List, eqb}
use Rattle.geometry.specs.declared.units.RecordNumber.{RecordNumber}
use Rattle.geometry.specs.declared.units.EntryNumber.{EntryNumber}
use Rattle.geometry.specs.Units.{entries_before}
use Rattle.geometry.specs.Growth.{total_of}
use Rattle.geometry.specs.Area.{slot_of}
use Rattle.descriptor.specs.declared.numbers.DescriptorNumbers.{DescriptorNumbers}
use Rattle.descriptor.specs.FirstRecord.{addresses_of, growth_in}
use Rattle.descriptor.specs.Bounds.{AdmittedIn}
use Rattle.entry.specs.Opening.{slot_position_of}
use Rattle.order.specs.declared.standing.Standing.{Standing}

-- before the first entry all is 0
abbrev pub no_standing : Standing
no_standing = record { extension = record { 0 = 0 }; before = 0; total = 0; slot = 0 }

-- in extension k with its slot at a position: what the extensions before k and up to k hold together
abbrev pub standing_at : DescriptorNumbers → ℕ → ℕ → Standing
standing_at d k slot = record { extension = record { 0 = k }; before = total_of (growth_in d) (k - 1); total = total_of (growth_in d) k; slot = slot }

-- the standing of entry e, by its slot; there is no entry 0
unfoldable pub standing_of : DescriptorNumbers → List RecordNumber → EntryNumber → Standing
standing_of d addresses e =
    cond (eqb e.0 0) no_standing (standing_at d (slot_of (growth_in d) d.nex d.lind e).extension.0 (slot_position_of d addresses e))

-- entry e is in use in a file of admitted numbers
pub record InUse (file : List ℕ) (d : DescriptorNumbers) (e : EntryNumber) : Type 0 where
  pub admitted : AdmittedIn file d (addresses_of file d.nex)
  pub low : 1 ≤ e.0
  pub high : e.0 ≤ entries_before d.xnext

-- and that is its standing
pub record StandsIn (file : List ℕ) (d : DescriptorNumbers) (e : EntryNumber) (at : Standing) : Type 0 where
  pub used : InUse file d e
  pub stands : at ≡ standing_of d (addresses_of file d.nex) e

-- or that of the entry before it
pub record Follows (file : List ℕ) (d : DescriptorNumbers) (e : EntryNumber) (at : Standing) : Type 0 where
  pub used : InUse file d e
  pub stands : at ≡ standing_of d (addresses_of file d.nex) (record { 0 = entries_before e })
