-- The slot of an entry of admitted numbers stands within the index area of its extension. Assumes nothing.
use Prim.Native.Nat.{ℕ, ◌+◌, ◌≤◌}
use mathlib.Core.List.{List}
use native.Mathlib.Omega.{arith}
use Rattle.geometry.specs.declared.units.RecordNumber.{RecordNumber}
use Rattle.geometry.specs.declared.units.EntryNumber.{EntryNumber}
use Rattle.geometry.specs.Units.{entries_before}
use Rattle.geometry.specs.Area.{slot_of}
use Rattle.geometry.proofs.Slots.{slot-within}
use Rattle.descriptor.specs.declared.numbers.DescriptorNumbers.{DescriptorNumbers}
use Rattle.descriptor.specs.FirstRecord.{growth_in}
use Rattle.descriptor.specs.Areas.{area_start_of, area_end_of}
use Rattle.descriptor.specs.Bounds.{Admitted}
use Rattle.entry.specs.Opening.{slot_position_of}
use Rattle.entry.proofs.Entering.{slot-in-use}
use Rattle.promises.proofs.Areas.{area-holds}

module _ (bytes : ℕ) (d : DescriptorNumbers) (addresses : List RecordNumber) (a : Admitted bytes d addresses) (e : EntryNumber)
    (low : 1 ≤ e.0) (high : e.0 ≤ entries_before d.xnext) where
  -- its extension is in use, and it starts and ends within the area of that
  pub slot_in_area : let k = (slot_of (growth_in d) d.nex d.lind e).extension.0 in
      (1 ≤ k) × (k ≤ d.nex) × (area_start_of d addresses k ≤ slot_position_of d addresses e) × (slot_position_of d addresses e + d.lind ≤ area_end_of d addresses k)
  unfolding slot_position_of
  slot_in_area =
      let s = slot_of (growth_in d) d.nex d.lind e in
      let u = slot-in-use bytes d addresses a e low high in
      let ends = slot-within (growth_in d) d.nex d.lind e.0 s u in
      (u.held.counted, u.used, omega arith, omega (arith, area-holds bytes d addresses a s.extension.0 u.held.counted u.used))
