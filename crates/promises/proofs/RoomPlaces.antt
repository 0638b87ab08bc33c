-- The admissible places for an entry beside the one that an append takes: none comes before it, it is one of them where rules 23 and 24 pass, and where they do not there
-- is none. Assumes nothing.
use Prim.Native.Nat.{ℕ, ◌+◌, ◌*◌, ◌/◌, ◌≤◌, ◌<◌}
use mathlib.Core.Path.{◌≡◌, refl, sym, ◌∙◌}
use mathlib.Core.Bool.{Bool, true, cond, not, ◌&&◌, ◌||◌, and-eq-true_iff, true≢false}
use mathlib.Core.List.{List}
use native.Mathlib.Omega.{arith}
use borrow.Author.Tests.{leb-true, leb-false, ltb-true, le-leb, lt-ltb, le-ltb, eqb-true, eqb-false}
use lib.Dec.{leb, ltb, eqb}
use Rattle.outcome.proofs.Either.{either}
use Rattle.geometry.specs.declared.units.RecordNumber.{RecordNumber}
use Rattle.geometry.specs.Units.{entries_before}
use Rattle.geometry.specs.Growth.{total_of}
use Rattle.descriptor.specs.declared.numbers.DescriptorNumbers.{DescriptorNumbers}
use Rattle.descriptor.specs.FirstRecord.{mex_of, growth_in, free_of}
use Rattle.descriptor.specs.Bounds.{Admitted}
use Rattle.descriptor.proofs.Fitting.{fit-reach}
use Rattle.placing.specs.Placing.{full, new_area, entry_start}
use Rattle.placing.specs.Rules.{placement_refusal}
use Rattle.placing.specs.Bounds.{Placed}
use Rattle.placing.proofs.Placed.{placed}
use Rattle.placing.proofs.Places.{new_records, new-end, new-low, new-first, start-low, start-extended, start-free}
use Rattle.promises.specs.Room.{EntryPlace, needs_area, below_mex, capacity_next, capacity_admitted, may_extend, Unextendable, from_free, area_first, area_end, area_stands, entry_stands, admissible}

module _ (bytes : ℕ) (d : DescriptorNumbers) (addresses : List RecordNumber) (a : Admitted bytes d addresses) (nword : ℕ) where
  -- a new area is needed exactly where the extensions in use are full
  needs-full : needs_area d ≡ full d
  unfolding full
  needs-full =
      let n = entries_before d.xnext in
      let total = total_of (growth_in d) d.nex in
      let reach = fit-reach (growth_in d) n d.nex a.fit in
      either (eqb n total)
      (λ q. lt-ltb total d.xnext.0 (omega (arith, eqb-true n total q, a.counted)) ∙ sym q)
      (λ q. le-ltb total d.xnext.0 (omega (arith, eqb-false n total q, a.counted)) ∙ sym q)

  -- ---- the tests of a place

  -- another extension may be made, in numbers
  record Extends : Type 0 where
    room : d.nex < mex_of d.reclen
    within : capacity_next d ≤ 16384

  extends : may_extend d ≡ true → Extends
  extends e = let both = (and-eq-true_iff (below_mex d) (capacity_admitted d)).0 e in record { room = omega (arith, ltb-true, both.0); within = omega (arith, leb-true, both.1) }

  extending : Extends → may_extend d ≡ true
  extending x = (and-eq-true_iff (below_mex d) (capacity_admitted d)).1 (omega (arith, lt-ltb, x.room), omega (arith, le-leb, x.within))

  -- an admissible place, in numbers
  record Fits (p : EntryPlace) : Type 0 where
    from : free_of d ≤ p.start
    within : p.start + nword ≤ bytes / 4
    extended : full d ≡ true → may_extend d ≡ true
    area-from : full d ≡ true → free_of d ≤ area_first d p.area
    area-before : full d ≡ true → area_first d p.area + new_records d * d.reclen ≤ p.start

  fits : (p : EntryPlace) → admissible bytes d nword p ≡ true → Fits p
  fits p e =
      let stands = area_stands d p.area p.start in
      let both = (and-eq-true_iff (entry_stands bytes d nword p.start) (not (needs_area d) || may_extend d && stands)).0 e in
      let entry = (and-eq-true_iff (from_free d p.start) (leb (p.start + nword) (bytes / 4))).0 both.0 in
      let area : full d ≡ true → (may_extend d ≡ true) × (stands ≡ true) = λ q. (and-eq-true_iff (may_extend d) stands).0 (rw (needs-full ∙ q) at both.1) in
      let tests : full d ≡ true → (from_free d (area_first d p.area) ≡ true) × (leb (area_end d p.area) p.start ≡ true) = λ q.
      (and-eq-true_iff (from_free d (area_first d p.area)) (leb (area_end d p.area) p.start)).0 (area q).1 in
      record {
        from = omega (arith, leb-true, ltb-true, entry.0);
        within = omega (arith, leb-true, entry.1);
        extended = λ q. (area q).0;
        area-from = λ q. omega (arith, leb-true, ltb-true, (tests q).0);
        area-before = λ q. omega (arith, leb-true, (tests q).1);
      }

  fitting : (p : EntryPlace) → Fits p → admissible bytes d nword p ≡ true
  fitting p x =
      let from : from_free d p.start ≡ true = omega (arith, le-leb, lt-ltb, x.from) in
      let within : leb (p.start + nword) (bytes / 4) ≡ true = omega (arith, le-leb, x.within) in
      either (full d)
      (λ q.
      let area-from : from_free d (area_first d p.area) ≡ true = omega (arith, le-leb, lt-ltb, x.area-from q) in
      let area-before : leb (area_end d p.area) p.start ≡ true = omega (arith, le-leb, x.area-before q) in
      rw (from, within, needs-full ∙ q, x.extended q, area-from, area-before))
      (λ q. rw (from, within, needs-full ∙ q))

  -- ---- beside the place that an append takes

  -- no admissible place comes before it
  pub start_first : (p : EntryPlace) → admissible bytes d nword p ≡ true → entry_start d ≤ p.start
  start_first p e =
      let x = fits p e in
      either (full d)
      (λ q. omega (arith, start-extended d q, new-end d, new-first d a.settled p.area (x.area-from q), x.area-before q))
      (λ q. omega (arith, start-free d q, x.from))

  -- where 23 and 24 pass, it is admissible, with the new area if one is needed
  pub own-place : Placed bytes d nword → (r : RecordNumber) → (full d ≡ true → r ≡ new_area d) → admissible bytes d nword (record { start = entry_start d; area = r }) ≡ true
  own-place x r own =
      fitting (record { start = entry_start d; area = r })
      (record {
        from = start-low d a.settled;
        within = x.inside;
        extended = λ q. extending (record { room = x.extensible.room q; within = x.extensible.within q });
        area-from = λ q. rw (own q) (new-low d a.settled);
        area-before = λ q. rw (own q) (omega (arith, start-extended d q, new-end d));
      })

  -- there is no admissible place
  abbrev pub None : Type 0
  None = (p : EntryPlace) → admissible bytes d nword p ≡ true → ⊥

  -- whether the entry ends within the buffer
  abbrev inside : Bool
  inside = leb (entry_start d + nword) (bytes / 4)

  -- an extension that is needed and may not be made breaks rule 23
  by-23 : Unextendable d → placement_refusal bytes d nword ≡ 23
  unfolding placement_refusal
  by-23 u =
      let f = sym needs-full ∙ u.0 in
      let room = ltb d.nex (mex_of d.reclen) in
      let small = leb (capacity_next d) 16384 in
      either room
      (λ r. either small
      (λ s. absurd (true≢false (sym (extending (record { room = ltb-true d.nex (mex_of d.reclen) r; within = leb-true (capacity_next d) 16384 s })) ∙ u.1)))
      (λ s. rw (f, r, s)))
      (λ r. rw (f, r))

  -- else rule 24 decides
  by-24 : (needs_area d ≡ true → may_extend d ≡ true) → placement_refusal bytes d nword ≡ cond inside 0 24
  unfolding placement_refusal
  by-24 may =
      either (full d)
      (λ q.
      let x = extends (may (needs-full ∙ q)) in
      rw (q, lt-ltb d.nex (mex_of d.reclen) x.room, le-leb (capacity_next d) 16384 x.within))
      (λ q. rw q)

  -- an extension is needed and none may be made, or one may be made if it is needed
  by-extension {ℓ} : {X : Type ℓ} → (Unextendable d → X) → ((needs_area d ≡ true → may_extend d ≡ true) → X) → X
  by-extension f g = either (may_extend d) (λ m. g (λ n. m)) (λ m. either (needs_area d) (λ n. f (n, m)) (λ n. g (λ o. absurd (true≢false (sym o ∙ n)))))

  -- the three cases of the refusal: 23, 24, and 0 with the place that an append takes
  pub by-placement {ℓ} : {X : Type ℓ} → (placement_refusal bytes d nword ≡ 23 → Unextendable d → None → X) → (placement_refusal bytes d nword ≡ 24 → (Unextendable d → ⊥) → None → X)
      → (placement_refusal bytes d nword ≡ 0 → (Unextendable d → ⊥) → admissible bytes d nword (record { start = entry_start d; area = new_area d }) ≡ true → X) → X
  by-placement f g h =
      by-extension
      (λ u. f (by-23 u) u (λ p e. true≢false (sym ((fits p e).extended (sym needs-full ∙ u.0)) ∙ u.1)))
      (λ may.
      let not-23 : Unextendable d → ⊥ = λ u. true≢false (sym (may u.0) ∙ u.1) in
      either inside
      (λ i. let e = by-24 may ∙ rw i in h e not-23 (own-place (placed d bytes nword e) (new_area d) (λ q. refl)))
      (λ i. g (by-24 may ∙ rw i) not-23 (λ p e. omega (arith, leb-false (entry_start d + nword) (bytes / 4) i, start_first p e, (fits p e).within))))
