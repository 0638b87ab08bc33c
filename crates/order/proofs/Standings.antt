-- Laws of the standing: what it says of an entry's slot, and how it goes on from an entry to the next. Assumes nothing.
use Prim.Native.Nat.{ℕ, ◌+◌, ◌*◌, ◌-◌, ◌^◌, ◌≤◌, ◌<◌}
use mathlib.Core.Path.{◌≡◌, refl, sym, ap, ◌∙◌}
use mathlib.Core.List.{List}
use native.Mathlib.Omega.{arith}
use native.Mathlib.Decide.{dec_le}
use native.Mathlib.Nat.{lt_of_not-le}
use borrow.Author.Tests.{ne_eqb}
use Rattle.geometry.specs.declared.units.RecordNumber.{RecordNumber}
use Rattle.geometry.specs.declared.units.EntryNumber.{EntryNumber}
use Rattle.geometry.specs.declared.growth.Growth.{Growth}
use Rattle.geometry.specs.declared.area.Slot.{Slot}
use Rattle.geometry.specs.Units.{entries_before}
use Rattle.geometry.specs.Growth.{total_of}
use Rattle.geometry.specs.Area.{slot_at, slot_of}
use Rattle.geometry.proofs.Capacities.{total-none, total-next, total-before, capacity-some}
use Rattle.geometry.proofs.Slots.{Holds, slot_held}
use Rattle.descriptor.specs.declared.numbers.DescriptorNumbers.{DescriptorNumbers}
use Rattle.descriptor.specs.FirstRecord.{addresses_of, aex_at, aex_of, growth_in}
use Rattle.descriptor.specs.Areas.{area_start_of}
use Rattle.descriptor.specs.Bounds.{AdmittedIn}
use Rattle.descriptor.proofs.Fitting.{fit-reach}
use Rattle.descriptor.proofs.AreaOrder.{aex-stored}
use Rattle.entry.specs.Opening.{slot_position_of}
use Rattle.entry.proofs.Entering.{slot-in-use, slot-inside}
use Rattle.order.specs.declared.standing.Standing.{Standing}
use Rattle.order.specs.Standing.{no_standing, standing_at, standing_of, InUse, StandsIn, Follows}

module _ (d : DescriptorNumbers) (addresses : List RecordNumber) where
  -- how the extensions grow
  abbrev g : Growth
  g = growth_in d

  -- the position of the slot of entry e in extension k
  abbrev slot_in : ℕ → ℕ → ℕ
  slot_in k e = area_start_of d addresses k + (e - total_of g (k - 1) - 1) * d.lind

  -- before the first entry all is 0
  pub standing-none : standing_of d addresses (record { 0 = 0 }) ≡ no_standing
  unfolding standing_of
  standing-none = refl

  -- a standing has the position of its entry's slot
  pub standing-slot : (e : EntryNumber) → 1 ≤ e.0 → (standing_of d addresses e).slot ≡ slot_position_of d addresses e
  unfolding standing_of
  standing-slot e h = rw (ne_eqb e.0 0 (λ (q : e.0 ≡ 0). omega arith))

  -- and it is made of the extension that holds the entry
  pub standing-held : (e : EntryNumber) (k : ℕ) → e.0 ≤ total_of g d.nex → Holds g e.0 k
      → {before total slot : ℕ} → before ≡ total_of g (k - 1) → total ≡ total_of g k → slot ≡ slot_in k e.0
      → ◌≡◌ {A = Standing} (record { extension = record { 0 = k }; before = before; total = total; slot = slot }) (standing_of d addresses e)
  unfolding standing_of slot_position_of
  standing-held e k l h p q r =
      rw (p, q, r, ne_eqb e.0 0 (λ (z : e.0 ≡ 0). omega (arith, h.behind)))
      (ap (λ (s : Slot). standing_at d s.extension.0 (area_start_of d addresses s.extension.0 + s.offset)) (slot_held g d.nex d.lind e k l h))

  -- taken apart: what a standing says of an entry and its slot
  pub record Said (e : EntryNumber) (at : Standing) : Type 0 where
    pub held : Holds g e.0 at.extension.0
    pub used : at.extension.0 ≤ d.nex
    pub before : at.before ≡ total_of g (at.extension.0 - 1)
    pub total : at.total ≡ total_of g at.extension.0
    pub slot : at.slot ≡ slot_in at.extension.0 e.0
    pub own : slot_of g d.nex d.lind e ≡ slot_at at.extension.0 (e.0 - at.before) d.lind

module _ (file : List ℕ) (d : DescriptorNumbers) where
  -- the addresses that the file has
  abbrev addresses : List RecordNumber
  addresses = addresses_of file d.nex

  -- the extensions in use reach an entry in use
  use-reached : {e : EntryNumber} → InUse file d e → e.0 ≤ total_of (growth_in d) d.nex
  use-reached u = omega (arith, u.high, fit-reach (growth_in d) (entries_before d.xnext) d.nex u.admitted.admitted.fit)

  -- the first record of an area in use is that which the file has
  pub area-read : AdmittedIn file d addresses → (k : ℕ) → 1 ≤ k → k ≤ d.nex → {r : RecordNumber} → r ≡ aex_at file (k - 1) → r ≡ aex_of addresses k
  area-read a k h l e = let q : k - 1 + 1 ≡ k = omega arith in e ∙ (rw q at (sym (aex-stored file d.nex (k - 1) (omega arith) a.admitted.settled.nex-high)))

  -- what is said of an entry in use
  pub said : {e : EntryNumber} {at : Standing} → StandsIn file d e at → Said d addresses e at
  said {e} {at} s =
      let u = s.used in
      let slot = slot-in-use _ d addresses u.admitted.admitted e u.low u.high in
      let k = (slot_of (growth_in d) d.nex d.lind e).extension.0 in
      rw (s.stands ∙ sym (standing-held d addresses e k (use-reached u) slot.held refl refl refl))
      (record { held = slot.held; used = slot.used; before = refl; total = refl; slot = refl; own = sym (slot_held (growth_in d) d.nex d.lind e k (use-reached u) slot.held) })

  -- the entry that follows another
  module _ {e : EntryNumber} {at : Standing} (f : Follows file d e at) where
    -- where it is not the first, the standing carried says of the one before it what it says of any
    earlier : 2 ≤ e.0 → Said d addresses (record { 0 = entries_before e }) at
    earlier h = said (record { used = record { admitted = f.used.admitted; low = omega arith; high = omega (arith, f.used.high) }; stands = f.stands })

    -- and where it is, nothing
    first : e.0 ≤ 1 → at ≡ no_standing
    first h =
        let q : entries_before e ≡ 0 = omega arith in
        f.stands ∙ ap (λ (n : ℕ). standing_of d addresses (record { 0 = n })) q ∙ standing-none d addresses

    -- the extensions up to the one before it hold all entries before it
    behind : (at.total ≡ total_of (growth_in d) at.extension.0) × (entries_before e ≤ at.total)
    behind = elim (dec_le e.0 1) [
      | yes h ↦ rw (first h) (sym (total-none (growth_in d)), omega arith)
      | no h ↦ let p = earlier (lt_of_not-le h) in (p.total, omega (arith, p.total, p.held.reached))
    ]

    -- where they are used up
    module _ (over : at.total < e.0) where
      -- the next extension holds it
      next-holds : Holds (growth_in d) e.0 (at.extension.0 + 1)
      next-holds =
          let q : at.extension.0 + 1 - 1 ≡ at.extension.0 = omega arith in
          let s = f.used.admitted.admitted.settled in
          let some = capacity-some (growth_in d) s.lex1-low s.gex-low (at.extension.0 + 1) (omega arith) in
          record { counted = omega arith; behind = rw q (omega (arith, behind)); reached = omega (arith, behind, total-next (growth_in d) at.extension.0) }

      -- and is in use
      pub next-used : at.extension.0 + 1 ≤ d.nex
      next-used = omega (arith, total-before (growth_in d) at.extension.0 d.nex (omega (arith, behind, use-reached f.used)))

      -- where it is the first
      pub next-standing : {total slot : ℕ} → total ≡ total_of (growth_in d) (at.extension.0 + 1) → slot ≡ area_start_of d addresses (at.extension.0 + 1)
          → ◌≡◌ {A = Standing} (record { extension = record { 0 = at.extension.0 + 1 }; before = at.total; total = total; slot = slot }) (standing_of d addresses e)
      next-standing p q =
          let k = at.extension.0 + 1 in
          let r : k - 1 ≡ at.extension.0 = omega arith in
          let before : at.total ≡ total_of (growth_in d) (k - 1) = behind.0 ∙ ap (total_of (growth_in d)) (sym r) in
          let none : e.0 - total_of (growth_in d) (k - 1) - 1 ≡ 0 = omega (arith, behind) in
          standing-held d addresses e k (use-reached f.used) next-holds before p (q ∙ rw none (omega arith))

    -- where they are not
    module _ (within : e.0 ≤ at.total) where
      -- the one before it stands in the same extension
      same : Said d addresses (record { 0 = entries_before e }) at
      same = elim (dec_le e.0 1) [ yes h ↦ absurd (omega (arith, f.used.low, ap (λ (s : Standing). s.total) (first h))) | no h ↦ earlier (lt_of_not-le h) ]

      -- its slot is the next of the same extension
      pub same-standing : ◌≡◌ {A = Standing} (record { extension = at.extension; before = at.before; total = at.total; slot = at.slot + d.lind }) (standing_of d addresses e)
      same-standing =
          let p = same in
          let k = at.extension.0 in
          let holds : Holds (growth_in d) e.0 k = record { counted = p.held.counted; behind = omega (arith, p.held.behind); reached = omega (arith, p.total) } in
          let next : e.0 - total_of (growth_in d) (k - 1) - 1 ≡ entries_before e - total_of (growth_in d) (k - 1) - 1 + 1 = omega (arith, p.held.behind) in
          standing-held d addresses e k (use-reached f.used) holds p.before p.total (rw (p.slot, next) (omega arith))

      -- which lies within the file
      pub same-room : at.slot + d.lind < 2 ^ 32
      same-room =
          let u = f.used in
          let a = u.admitted.admitted in
          let is = ap (λ (s : Standing). s.slot) same-standing ∙ standing-slot d addresses e u.low in
          omega (arith, is, slot-inside _ d addresses a e u.low u.high, a.room, a.lent.high)
