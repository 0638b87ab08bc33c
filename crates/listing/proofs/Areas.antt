-- How many entries a file can have for its bytes: the index areas stand apart, and hold a slot for each entry. Assumes nothing.
use Prim.Native.Nat.{ℕ, zero, suc, ◌+◌, ◌*◌, ◌-◌, ◌/◌, ◌≤◌}
use mathlib.Core.Path.{◌≡◌}
use mathlib.Core.List.{List}
use native.Mathlib.Omega.{arith}
use native.Mathlib.Nat.{mul-le-mul, mul-le-mul_right}
use Rattle.geometry.specs.declared.units.RecordNumber.{RecordNumber}
use Rattle.geometry.specs.Units.{position_of, entries_before}
use Rattle.geometry.specs.Growth.{capacity_of, total_of}
use Rattle.geometry.proofs.Capacities.{total-none, total-next}
use Rattle.geometry.proofs.Slots.{records-hold}
use Rattle.descriptor.specs.declared.numbers.DescriptorNumbers.{DescriptorNumbers}
use Rattle.descriptor.specs.FirstRecord.{growth_in, aex_of}
use Rattle.descriptor.specs.Areas.{area_after}
use Rattle.descriptor.specs.Bounds.{Admitted}
use Rattle.descriptor.proofs.Fitting.{fit-reach}
use Rattle.descriptor.proofs.AreaOrder.{after_none, area-low, area-words, area-ends}

module _ (bytes : ℕ) (d : DescriptorNumbers) (addresses : List RecordNumber) (a : Admitted bytes d addresses) where
  -- the first record and the slots of the first k extensions stand before the end of area k
  areas-hold : (k : ℕ) → k ≤ d.nex → d.reclen + total_of (growth_in d) k * d.lind ≤ ((area_after d addresses k).0 - 1) * d.reclen
  unfolding position_of
  areas-hold zero h = rw (after_none d addresses, total-none (growth_in d)) (omega arith)
  areas-hold (suc k) h =
      let q : suc k ≡ k + 1 = omega arith in
      let words = capacity_of (growth_in d) (k + 1) * d.lind in
      let low = (area-low d addresses k d.nex h a.started).0 in
      let less : (area_after d addresses k).0 - 1 ≤ (aex_of addresses (k + 1)).0 - 1 = omega arith in
      let area = area-words bytes d addresses a (k + 1) (omega arith) (omega arith) in
      let enough = records-hold words d.reclen (omega (arith, a.settled.reclen-low)) in
      rw (q, total-next (growth_in d) k) (omega (arith, areas-hold k (omega arith), mul-le-mul_right d.reclen less))

  -- three words of a slot for each entry, and the first record
  pub entries-room : 3 * entries_before d.xnext + d.reclen ≤ bytes / 4
  entries-room =
      let reach = fit-reach (growth_in d) (entries_before d.xnext) d.nex a.fit in
      let slots = areas-hold d.nex (omega arith) in
      let ends = area-ends bytes d addresses a d.nex (omega arith) in
      omega (arith, a.room, mul-le-mul reach a.settled.lind-low)

  -- 65,536 bytes hold 5,456 entries at most
  pub most-entries : bytes ≤ 65536 → entries_before d.xnext ≤ 5456
  most-entries h = omega (arith, entries-room, a.settled.reclen-low)
