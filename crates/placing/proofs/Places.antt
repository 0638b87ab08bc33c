-- Laws of the places that an append chooses: a new index area starts less than a record behind the next free position, the entry starts right after it or at that position, and all of them are small. Assumes nothing.
use Prim.Native.Nat.{ℕ, ◌+◌, ◌*◌, ◌-◌, ◌^◌, ◌≤◌, ◌<◌}
use mathlib.Core.Path.{◌≡◌, refl, ap, ◌∙◌}
use mathlib.Core.Bool.{Bool, true, false, cond}
use native.Mathlib.Omega.{arith}
use native.Mathlib.Nat.{div-add-mod', mul-le-mul, mul-le-mul_left, mul-le-mul_right}
use Rattle.geometry.specs.declared.units.RecordNumber.{RecordNumber}
use Rattle.geometry.specs.Units.{position_of}
use Rattle.geometry.specs.Growth.{capacity_of}
use Rattle.geometry.specs.Area.{records_for, area_records}
use Rattle.geometry.proofs.Capacities.{capacity-some}
use Rattle.geometry.proofs.Slots.{records-hold, records-least}
use Rattle.descriptor.specs.declared.numbers.DescriptorNumbers.{DescriptorNumbers}
use Rattle.descriptor.specs.FirstRecord.{mex_of, growth_in, free_of}
use Rattle.descriptor.specs.Bounds.{Settled}
use Rattle.descriptor.proofs.AreaOrder.{records-small}
use Rattle.placing.specs.Placing.{full, new_area, new_start, after_new_area, entry_start}
use Rattle.placing.specs.Bounds.{Extensible}

-- whole records have less than a record more than the words that they hold
records-under : (words reclen : ℕ) → 1 ≤ reclen → records_for words reclen * reclen < words + reclen
unfolding records_for
records-under words reclen h = omega (arith, div-add-mod' (words + (reclen - 1)) reclen)

-- the first word of the record that follows r records
first_word : (reclen r : ℕ) → position_of reclen (record { 0 = r + 1 }) (record { 0 = 1 }) ≡ r * reclen
unfolding position_of
first_word reclen r = let q : r + 1 - 1 ≡ r = omega arith in rw q (omega arith)

-- an extension more has a place in the first record
room-more : (reclen nex : ℕ) → 16 ≤ reclen → nex < mex_of reclen → (nex < 16) × (16 + 2 * nex ≤ reclen)
unfolding mex_of
room-more reclen nex h l = omega arith

module _ (d : DescriptorNumbers) where
  -- where the new area ends
  abbrev pub new_end : ℕ
  new_end = position_of d.reclen (after_new_area d) (record { 0 = 1 })

  -- how many records it has
  abbrev pub new_records : ℕ
  new_records = area_records (capacity_of (growth_in d) (d.nex + 1)) d.lind d.reclen

  -- the new area starts behind the records that hold all words before the next free position
  new-position : new_start d ≡ records_for (free_of d) d.reclen * d.reclen
  unfolding new_area
  new-position = first_word d.reclen (records_for (free_of d) d.reclen)

  -- at a record that there is
  pub new-some : 1 ≤ (new_area d).0
  unfolding new_area
  new-some = omega arith

  -- it is as long as its records
  pub new-end : new_end ≡ new_start d + new_records * d.reclen
  unfolding new_area after_new_area
  new-end =
      let r = records_for (free_of d) d.reclen in
      let q : r + 1 + new_records ≡ r + new_records + 1 = omega arith in
      ap (λ (n : ℕ). position_of d.reclen (record { 0 = n }) (record { 0 = 1 })) q ∙ first_word d.reclen (r + new_records) ∙ omega (arith, new-position)

  -- where the entry starts with a new area
  pub start-extended : full d ≡ true → entry_start d ≡ new_end
  unfolding entry_start
  start-extended e = rw e

  -- and without
  pub start-free : full d ≡ false → entry_start d ≡ free_of d
  unfolding entry_start
  start-free e = rw e

  module _ (s : Settled d) where
    -- the new area starts at or after the next free position
    pub new-low : free_of d ≤ new_start d
    new-low = rw new-position (records-hold (free_of d) d.reclen (omega (arith, s.reclen-low)))

    -- and less than a record behind it
    pub new-near : new_start d < free_of d + d.reclen
    new-near = rw new-position (records-under (free_of d) d.reclen (omega (arith, s.reclen-low)))

    -- no record starts between them
    pub new-first : (r : RecordNumber) → free_of d ≤ position_of d.reclen r (record { 0 = 1 }) → new_start d ≤ position_of d.reclen r (record { 0 = 1 })
    unfolding position_of
    new-first r h =
        let least = records-least (free_of d) d.reclen (r.0 - 1) (omega (arith, s.reclen-low)) (omega arith) in
        omega (arith, new-position, mul-le-mul_right d.reclen least)

    -- it holds its first slot
    pub new-slot : new_start d + d.lind ≤ new_end
    new-slot =
        let entries = capacity_of (growth_in d) (d.nex + 1) in
        let some = capacity-some (growth_in d) s.lex1-low s.gex-low (d.nex + 1) (omega arith) in
        omega (arith, new-end, records-hold (entries * d.lind) d.reclen (omega (arith, s.reclen-low)), mul-le-mul_right d.lind some)

    -- the entry never starts before the next free position
    pub start-low : free_of d ≤ entry_start d
    unfolding entry_start
    start-low = by (full d)
      where
        by : (b : Bool) → free_of d ≤ cond b new_end (free_of d)
        by true = omega (arith, new-low, new-end)
        by false = omega arith

    -- an extension more has a number and a place in the first record
    pub nex-more : Extensible d → full d ≡ true → (d.nex < 16) × (16 + 2 * d.nex ≤ d.reclen)
    nex-more x e = room-more d.reclen d.nex s.reclen-low (x.room e)

    module _ (h : free_of d ≤ 2 ^ 28) where
      -- in a file that the rules admit the new area's record is small
      pub new-small : (new_area d).0 ≤ 2 ^ 28 + 1
      unfolding new_area
      new-small =
          let some : 1 ≤ d.reclen = omega (arith, s.reclen-low) in
          omega (arith, records-least (free_of d) d.reclen (free_of d) some (omega (arith, mul-le-mul_left (free_of d) some)))

      -- so is the record after it
      pub after_small : capacity_of (growth_in d) (d.nex + 1) ≤ 16384 → (after_new_area d).0 ≤ 2 ^ 28 + 2 ^ 22 + 1
      unfolding after_new_area
      after_small l =
          omega (arith, new-small, records-small (capacity_of (growth_in d) (d.nex + 1)) d.lind d.reclen (omega (arith, s.reclen-low)) l s.lind-high)

      -- and the position where the entry starts
      pub start_small : Extensible d → entry_start d < 2 ^ 31
      unfolding entry_start
      start_small x = by (full d) refl
        where
          by : (b : Bool) → full d ≡ b → cond b new_end (free_of d) < 2 ^ 31
          by true e =
              let words = capacity_of (growth_in d) (d.nex + 1) * d.lind in
              omega (arith, new-near, new-end, s.reclen-high, records-under words d.reclen (omega (arith, s.reclen-low)), mul-le-mul (x.within e) s.lind-high)
          by false e = omega arith
