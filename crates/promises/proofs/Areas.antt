-- The index areas of admitted numbers: each stands behind the first record, ends before every later one starts, and has room for its slots. Assumes nothing.
use Prim.Native.Nat.{ℕ, ◌+◌, ◌*◌, ◌-◌, ◌≤◌, ◌<◌}
use mathlib.Core.Path.{◌≡◌}
use mathlib.Core.List.{List}
use native.Mathlib.Omega.{arith}
use native.Mathlib.Nat.{mul-le-mul_right}
use Rattle.geometry.specs.declared.units.RecordNumber.{RecordNumber}
use Rattle.geometry.specs.Units.{position_of}
use Rattle.geometry.specs.Growth.{capacity_of}
use Rattle.geometry.proofs.Slots.{records-hold}
use Rattle.descriptor.specs.declared.numbers.DescriptorNumbers.{DescriptorNumbers}
use Rattle.descriptor.specs.FirstRecord.{aex_of, growth_in}
use Rattle.descriptor.specs.Areas.{area_after, area_start_of, area_end_of}
use Rattle.descriptor.specs.Bounds.{Admitted}
use Rattle.descriptor.proofs.AreaOrder.{area-low, after-le, area-words, area-first}

module _ (bytes : ℕ) (d : DescriptorNumbers) (addresses : List RecordNumber) (a : Admitted bytes d addresses) where
  -- an area ends no later than a later one
  pub area-end-le : (j k : ℕ) → j ≤ k → k ≤ d.nex → area_end_of d addresses j ≤ area_end_of d addresses k
  unfolding position_of
  area-end-le j k h m =
      let less : (area_after d addresses j).0 - 1 ≤ (area_after d addresses k).0 - 1 = omega (arith, after-le bytes d addresses a j k h m) in
      omega (arith, mul-le-mul_right d.reclen less)

  -- the first record ends before an area starts
  pub area-behind : (k : ℕ) → 1 ≤ k → k ≤ d.nex → d.reclen ≤ area_start_of d addresses k
  unfolding position_of
  area-behind k l h =
      let some : 1 ≤ (aex_of addresses k).0 - 1 = omega (arith, (area-first bytes d addresses a k l h).0) in
      omega (arith, mul-le-mul_right d.reclen some)

  -- an area ends before every later one starts
  pub areas-order : (j k : ℕ) → 1 ≤ j → j < k → k ≤ d.nex → area_end_of d addresses j ≤ area_start_of d addresses k
  unfolding position_of
  areas-order j k l h m =
      let q : k - 1 + 1 ≡ k = omega arith in
      let low = rw q at (area-low d addresses (k - 1) d.nex (omega arith) a.started).0 in
      let less : (area_after d addresses j).0 - 1 ≤ (aex_of addresses k).0 - 1 = omega (arith, after-le bytes d addresses a j (k - 1) (omega arith) (omega arith)) in
      omega (arith, mul-le-mul_right d.reclen less)

  -- its capacity of slots ends within it
  pub area-holds : (k : ℕ) → 1 ≤ k → k ≤ d.nex → area_start_of d addresses k + capacity_of (growth_in d) k * d.lind ≤ area_end_of d addresses k
  unfolding position_of
  area-holds k l h =
      omega (
        arith,
        area-words bytes d addresses a k l h,
        records-hold (capacity_of (growth_in d) k * d.lind) d.reclen (omega (arith, a.settled.reclen-low)),
      )
