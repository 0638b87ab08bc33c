-- Laws of what is handed to an append: its tests one element after the other, what the rules leave once they are passed, and the whole
-- table by its parts. Assumes nothing.
use mathlib.Core.Path.{◌≡◌, refl, sym, ap, subst, ◌∙◌}
use mathlib.Core.Bool.{Bool, true, false, not, ◌&&◌, ◌||◌, cond, false≢true}
use mathlib.Core.List.{List}
use Prim.Native.Nat.{ℕ, zero, suc, ◌+◌, ◌*◌, ◌-◌, ◌%◌, ◌^◌, ◌≤◌, ◌<◌}
use native.Mathlib.Omega.{arith}
use native.Mathlib.Nat.{lt_of_not-le}
use native.Mathlib.Decide.{dec_le}
use native.Mathlib.Numerals.{add-one}
use borrow.Author.Tests.{leb-true, ltb-true, ltb-false, eqb-true, le-leb, lt-leb, le-ltb}
use lib.Dec.{leb, ltb, eqb}
use lib.IntN.{ℤ, pos, negsuc}
use lib.ListN.{length, get_or, take}
use lib.Signed.{mag, lt_z}
use mir.Val.{hbits}
use Rattle.std.specs.List.{list_any}
use Rattle.std.specs.Ordering.{int_eq}
use Rattle.std.proofs.lemmas.List.Folds.{list_any_more}
use Rattle.std.proofs.lemmas.Bool.Decides.{Decides-int_eq}
use Rattle.outcome.specs.declared.refusal.Refusal.{Refusal}
use Rattle.outcome.specs.Refusal.{number_of}
use Rattle.outcome.proofs.Refusals.{number-positive}
use Rattle.outcome.proofs.Either.{either}
use Rattle.words.specs.Word.{integer8, signed_of, bits_of}
use Rattle.words.specs.Range.{at_least}
use Rattle.words.proofs.Runs.{Run, run-all}
use Rattle.geometry.specs.declared.units.RecordNumber.{RecordNumber}
use Rattle.descriptor.specs.declared.numbers.DescriptorNumbers.{DescriptorNumbers}
use Rattle.descriptor.specs.Refusal.{Rule, AllHold}
use Rattle.descriptor.specs.Bounds.{Admitted}
use Rattle.descriptor.proofs.Refusals.{all_hold, refusal-none, hold-split, refusal-append}
use Rattle.pieces.specs.Tables.{same_integer}
use Rattle.pieces.proofs.SectionTables.{same-equal, same-other}
use Rattle.storing.specs.Handed.{Handed, absent, distinct, words_of, sum_of, nword_in}
use Rattle.storing.proofs.Lengths.{read_back, counted}
use Rattle.writer.specs.Rules.{handed_rules, append_rules, handed_refusal, append_refusal}
use Rattle.placing.specs.Rules.{placement_rules, placement_refusal}
use Rattle.placing.proofs.Placed.{placed}
use Rattle.storing.specs.Bounds.{Fitting, Accepted}

-- a refusal's number is 1 or more
pub number_low : (r : Refusal) → 1 ≤ number_of r
number_low r = omega (arith, number-positive r)

-- so much or more is not below
not-below : (low n : ℕ) → leb low n ≡ not (ltb n low)
not-below low n = by (ltb n low) refl
  where
    by : (b : Bool) → ltb n low ≡ b → leb low n ≡ not (ltb n low)
    by true e = lt-leb low n (ltb-true n low e) ∙ ap not (sym e)
    by false e = le-leb low n (ltb-false n low e) ∙ ap not (sym e)

-- a value is so much or more where code does not find it below
pub at_least-below : (low : ℕ) (z : ℤ) → at_least low z ≡ not (lt_z z (pos low))
unfolding at_least
at_least-below low (pos n) = not-below low n
at_least-below low (negsuc n) = refl

-- a length that code reads is 1 or more where it does not find it below
pub tested : (lengths : List ℤ) (k : ℕ) (b : Bool) → mag (get_or lengths k (pos 0)) < 2 ^ hbits integer8
    → lt_z (signed_of integer8 (bits_of integer8 (get_or lengths k (pos 0)))) (pos 1) ≡ b → at_least 1 (get_or lengths k (pos 0)) ≡ not b
tested lengths k b f h = at_least-below 1 _ ∙ ap not (rw (read_back integer8 lengths k f) at h)

-- and past that test its bits are its words
pub words-read : (lengths : List ℤ) (k r : ℕ) → mag (get_or lengths k (pos 0)) < 2 ^ hbits integer8 → at_least 1 (get_or lengths k (pos 0)) ≡ true
    → r ≡ bits_of integer8 (signed_of integer8 (bits_of integer8 (get_or lengths k (pos 0)))) → r ≡ words_of (get_or lengths k (pos 0))
words-read lengths k r f s e = e ∙ ap (bits_of integer8) (read_back integer8 lengths k f) ∙ counted _ s

-- that an identifier is none of the others runs over them
pub absent-run : (ids : List ℤ) (z : ℤ) → Run (absent ids z) (λ k. not (same_integer (get_or ids k (pos 0)) z))
unfolding absent
absent-run ids z = record { next = λ k. rw add-one }

-- the definition's test of two integers is the code's
same-integer : (y z : ℤ) → same_integer y z ≡ int_eq y z
same-integer y z =
    either (int_eq y z) (λ q. same-equal y z ((Decides-int_eq y z).0 q) ∙ sym q) (λ q. same-other y z (λ e. false≢true (sym q ∙ (Decides-int_eq y z).1 e)) ∙ sym q)

-- neither of two
neither : (a b : Bool) → (not a && not b) ≡ not (a || b)
neither true b = refl
neither false b = refl

-- it is none of the first k where code does not find it among them
pub absent-found : (ids : List ℤ) (z : ℤ) (k : ℕ) → k ≤ length ids → absent ids z k ≡ not (list_any (λ y. int_eq y z) (take k ids))
unfolding absent
absent-found ids z zero h = refl
absent-found ids z (suc k) h =
    let found : ℕ → Bool = λ n. list_any (λ y. int_eq y z) (take n ids) in
    let more = ap found (sym (add-one k)) ∙ list_any_more (λ y. int_eq y z) ids k (pos 0) (omega arith) in
    rw (more, absent-found ids z k (omega arith), same-integer) (neither (found k) (int_eq (get_or ids k (pos 0)) z))

-- and so does that no two are equal
pub distinct-run : (ids : List ℤ) → Run (distinct ids) (λ k. absent ids (get_or ids k (pos 0)) k)
unfolding distinct
distinct-run ids = record { next = λ k. rw add-one }

-- what is not above a value is not above a higher one
not-above : (a b c : ℤ) → lt_z a b ≡ true → lt_z a c ≡ false → lt_z b c ≡ false
not-above (pos a) (pos b) (pos c) h k = le-ltb b c (omega (arith, ltb-true a b h, ltb-false a c k))
not-above (pos a) (pos b) (negsuc c) h k = refl
not-above (pos a) (negsuc b) c h k = cc
not-above (negsuc a) (pos b) (pos c) h k = cc
not-above (negsuc a) (pos b) (negsuc c) h k = refl
not-above (negsuc a) (negsuc b) (pos c) h k = cc
not-above (negsuc a) (negsuc b) (negsuc c) h k = le-ltb c b (omega (arith, ltb-true b a h, ltb-false c a k))

-- no value is above itself
not-self : (a : ℤ) → lt_z a a ≡ false
not-self (pos a) = le-ltb a a (omega arith)
not-self (negsuc a) = le-ltb a a (omega arith)

-- none of the first k identifiers is above a value
pub record NoneAbove (ids : List ℤ) (k : ℕ) (top : ℤ) : Type 0 where
  pub below : (i : ℕ) → i < k → lt_z top (get_or ids i (pos 0)) ≡ false

-- one more that is not above the value either
pub none-next : {ids : List ℤ} {k : ℕ} {top : ℤ} → NoneAbove ids k top → lt_z top (get_or ids k (pos 0)) ≡ false → NoneAbove ids (k + 1) top
none-next {ids} {k} {top} none low = record { below = below }
  where
    below : (i : ℕ) → i < k + 1 → lt_z top (get_or ids i (pos 0)) ≡ false
    below i h =
        elim (dec_le k i) [
          | yes g ↦ (let e : k ≡ i = omega arith in subst (λ (j : ℕ). lt_z top (get_or ids j (pos 0)) ≡ false) e low)
          | no g ↦ none.below i (lt_of_not-le g)
        ]

module _ {ids : List ℤ} {k : ℕ} {top : ℤ} (none : NoneAbove ids k top) where
  -- an identifier above that value is absent from them
  pub above-absent : (z : ℤ) → lt_z top z ≡ true → absent ids z k ≡ true
  unfolding absent
  above-absent z above =
      run-all (absent-run ids z) refl k (λ i h. ap not (same-other _ _ (λ q. false≢true (sym (none.below i h) ∙ ap (lt_z top) q ∙ above))))

  -- and with one more that is above it, none is above that one
  pub none-higher : lt_z top (get_or ids k (pos 0)) ≡ true → NoneAbove ids (k + 1) (get_or ids k (pos 0))
  none-higher above = none-next (record { below = λ i h. not-above top (get_or ids k (pos 0)) (get_or ids i (pos 0)) above (none.below i h) }) (not-self (get_or ids k (pos 0)))

module _ (d : DescriptorNumbers) where
  module _ (h : Handed) where
    -- rules 21 and 22 of what is handed in together
    abbrev pub rules_of : List Rule
    rules_of = handed_rules d h.index h.ids h.lengths h.sections h.values

    -- and their refusal
    abbrev pub refusal_of : ℕ
    refusal_of = handed_refusal d h.index h.ids h.lengths h.sections h.values

    -- passed, they hold one by one
    pub handed-rows : refusal_of ≡ 0 → AllHold rules_of
    unfolding handed_refusal
    handed-rows e = all_hold rules_of (omega arith) e

    -- and what is handed in fits together
    pub fitting : refusal_of ≡ 0 → Fitting d h
    fitting e =
        let a = handed-rows e in
        record {
          index = eqb-true (length h.index) (4 * (d.lind - 3)) a.0;
          few = leb-true (length h.ids) 64 a.1.0;
          pairs = eqb-true (length h.lengths) (length h.ids) a.1.1.0;
          counted = a.1.1.1.1.0;
          sections = eqb-true (length h.sections) (4 * sum_of h.lengths) a.1.1.1.1.1.0;
          whole = eqb-true (length h.values % 4) 0 a.1.1.1.1.1.1.0;
        }

    module _ (bytes : ℕ) where
      abbrev places : List Rule
      places = placement_rules bytes d (nword_in h)

      -- the whole table: the place counts where what is handed in gives no refusal
      pub append-parts : append_refusal bytes d h ≡ cond (eqb refusal_of 0) (placement_refusal bytes d (nword_in h)) refusal_of
      unfolding append_refusal handed_refusal placement_refusal
      append-parts = refusal-append rules_of places (omega arith)

      -- what is handed in passed its own rules
      pub handed-passed : append_refusal bytes d h ≡ 0 → refusal_of ≡ 0
      unfolding append_refusal handed_refusal
      handed-passed e = refusal-none rules_of (hold-split rules_of places (all_hold (append_rules bytes d h) (omega arith) e)).0

      -- and the entry has a place
      place-passed : append_refusal bytes d h ≡ 0 → placement_refusal bytes d (nword_in h) ≡ 0
      unfolding append_refusal placement_refusal
      place-passed e = refusal-none places (hold-split rules_of places (all_hold (append_rules bytes d h) (omega arith) e)).1

      -- so the append is accepted
      pub accepted : (addresses : List RecordNumber) → Admitted bytes d addresses → append_refusal bytes d h ≡ 0 → Accepted bytes d addresses h
      accepted addresses admitted e =
          let p = placed d bytes (nword_in h) (place-passed e) in
          record { admitted = admitted; fitting = fitting (handed-passed e); extensible = p.extensible; inside = p.inside }
