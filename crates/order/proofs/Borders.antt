-- Laws of rule 25 by the standing: for the first entry of an extension, for its last, and for the others. Assumes nothing.
use Prim.Native.Nat.{ℕ, ◌+◌, ◌*◌, ◌-◌, ◌^◌, ◌≤◌, ◌<◌}
use mathlib.Core.Path.{◌≡◌}
use mathlib.Core.Bool.{true}
use mathlib.Core.List.{List}
use native.Mathlib.Omega.{arith}
use borrow.Author.Tests.{eq-eqb, ne_eqb, lt-ltb, le-ltb}
use lib.Dec.{leb, eqb}
use Rattle.geometry.specs.declared.units.RecordNumber.{RecordNumber}
use Rattle.geometry.specs.declared.units.EntryNumber.{EntryNumber}
use Rattle.geometry.specs.declared.area.Slot.{Slot}
use Rattle.geometry.specs.Units.{position_of}
use Rattle.geometry.specs.Growth.{capacity_of, total_of}
use Rattle.geometry.specs.Area.{area_records, slot_of}
use Rattle.geometry.proofs.Capacities.{total-last}
use Rattle.descriptor.specs.declared.numbers.DescriptorNumbers.{DescriptorNumbers}
use Rattle.descriptor.specs.FirstRecord.{addresses_of, growth_in}
use Rattle.descriptor.specs.Areas.{area_start_of, area_end_of}
use Rattle.descriptor.proofs.AreaOrder.{area-words, area-ends}
use Rattle.order.specs.declared.standing.Standing.{Standing}
use Rattle.order.specs.Standing.{StandsIn}
use Rattle.order.specs.Order.{starts_in_order, ends_in_order}
use Rattle.order.proofs.Standings.{said}

module _ (file : List ℕ) (d : DescriptorNumbers) {e : EntryNumber} {at : Standing} (s : StandsIn file d e at) where
  -- the addresses that the file has
  abbrev addresses : List RecordNumber
  addresses = addresses_of file d.nex

  -- the entry's extension
  abbrev k : ℕ
  k = at.extension.0

  -- and its slot
  abbrev slot : Slot
  slot = slot_of (growth_in d) d.nex d.lind e

  -- the totals are as far apart as the extension has places
  pub own-capacity : at.total - at.before ≡ capacity_of (growth_in d) k
  own-capacity = let p = said file d s in omega (arith, p.total, p.before, total-last (growth_in d) k p.held.counted)

  -- its area ends within the file
  pub area-room : area_end_of d addresses k < 2 ^ 32
  unfolding position_of
  area-room = let a = s.used.admitted.admitted in omega (arith, area-ends _ d addresses a k (said file d s).used, a.room, a.lent.high)

  -- where it is behind the slot of the first entry by its records
  pub area-behind : e.0 ≡ at.before + 1 → {n : ℕ} → n ≡ area_records (at.total - at.before) d.lind d.reclen → at.slot + n * d.reclen ≡ area_end_of d addresses k
  unfolding position_of
  area-behind h q =
      let p = said file d s in
      let none : e.0 - total_of (growth_in d) (k - 1) - 1 ≡ 0 = omega (arith, p.before) in
      rw (q, own-capacity, p.slot, none) (omega (arith, area-words _ d addresses s.used.admitted.admitted k p.held.counted p.used))

  module _ (before start : ℕ) where
    -- the first entry starts behind the area
    pub starts_first : e.0 ≡ at.before + 1 → starts_in_order d addresses slot before start ≡ leb (area_end_of d addresses k) start
    unfolding starts_in_order
    starts_first h = rw ((said file d s).own, eq-eqb (e.0 - at.before) 1 (omega arith))

    -- any other behind the entry before it
    pub starts_other : (e.0 ≡ at.before + 1 → ⊥) → starts_in_order d addresses slot before start ≡ leb before start
    unfolding starts_in_order
    starts_other h = rw ((said file d s).own, ne_eqb (e.0 - at.before) 1 (λ (q : e.0 - at.before ≡ 1). h (omega arith)))

  module _ (end : ℕ) where
    -- the end of an entry that is not the last is held to nothing
    pub ends-other : (e.0 ≡ at.total → ⊥) → ends_in_order d addresses slot end ≡ true
    unfolding ends_in_order
    ends-other h =
        let p = said file d s in
        rw (p.own, ne_eqb (e.0 - at.before) (capacity_of (growth_in d) k) (λ (q : e.0 - at.before ≡ capacity_of (growth_in d) k). h (omega (arith, own-capacity, p.before, p.total, p.held))))

    module _ (last : e.0 ≡ at.total) where
      -- its place is the last of its extension
      full : eqb (e.0 - at.before) (capacity_of (growth_in d) k) ≡ true
      full = eq-eqb (e.0 - at.before) (capacity_of (growth_in d) k) (omega (arith, own-capacity))

      -- nor is that of the last entry of all extensions
      pub ends-all : d.nex ≤ k → ends_in_order d addresses slot end ≡ true
      unfolding ends_in_order
      ends-all h = rw ((said file d s).own, full, le-ltb k d.nex h)

      -- any other last entry ends before the next area
      pub ends_last : k < d.nex → ends_in_order d addresses slot end ≡ leb end (area_start_of d addresses (k + 1))
      unfolding ends_in_order
      ends_last h = rw ((said file d s).own, full, lt-ltb k d.nex h)
