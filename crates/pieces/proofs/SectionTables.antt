-- Laws of a table of one value, and of the section that an identifier names. Assumes nothing.
use mathlib.Core.Path.{◌≡◌, refl, sym, ap}
use mathlib.Core.Bool.{true, false, not-eq-not, and-eq-true_iff}
use mathlib.Core.List.{List, [], ◌∷◌}
use lib.ListN.{length, get_or, replicate}
use Prim.Native.Nat.{ℕ, zero, suc, ◌+◌, ◌≤◌, ◌<◌}
use native.Mathlib.Omega.{arith}
use borrow.Author.Count.{below_more, below_none}
use borrow.Author.Tests.{leb-true, le-leb, ltb-true, lt-ltb}
use lib.Dec.{leb, ltb}
use lib.IntN.{ℤ, pos, negsuc, ℤ_discrete}
use Rattle.std.specs.Prelude.{Option, Some, None, MatchOption}
use Rattle.outcome.proofs.Either.{either}
use Rattle.pieces.specs.EntryDescriptor.{identifier_at}
use Rattle.pieces.specs.Tables.{same_integer, section_named, named_of}

-- a list whose elements are all one is that one as often as it is long
pub all_one : {A : Type 0} (x : A) (xs : List A) (n : ℕ) → length xs ≡ n → ((i : ℕ) (d : A) → i < n → get_or xs i d ≡ x) → xs ≡ replicate n x
all_one x [] zero e at = refl
all_one x [] (suc n) e at = absurd (omega arith)
all_one x (y ∷ ys) zero e at = absurd (omega arith)
all_one x (y ∷ ys) (suc n) e at = λ j. at 0 y (omega arith) j ∷ all_one x ys n (omega arith) (λ i d l. at (suc i) d (omega arith)) j

equal : (a b : ℕ) → same_integer (pos a) (pos b) ≡ true → a ≡ b
unfolding same_integer
equal a b e = let both = (and-eq-true_iff (leb a b) (leb b a)).0 e in omega (arith, leb-true)

same_true : (x y : ℤ) → same_integer x y ≡ true → x ≡ y
unfolding same_integer
same_true (pos a) (pos b) e = ap pos (equal a b e)
same_true (pos a) (negsuc b) e = cc
same_true (negsuc a) (pos b) e = cc
same_true (negsuc a) (negsuc b) e = ap negsuc (sym (equal b a e))

-- equal integers pass the test
pub same-equal : (x y : ℤ) → x ≡ y → same_integer x y ≡ true
unfolding same_integer
same-equal x (pos a) e = rw (e, le-leb a a (omega arith))
same-equal x (negsuc a) e = rw (e, le-leb a a (omega arith))

-- and others do not
pub same-other : (x y : ℤ) → (x ≡ y → ⊥) → same_integer x y ≡ false
same-other x y d = (not-eq-not {b = false}).0 (λ e. d (same_true x y e))

-- the section found, r: nsec where none has the identifier, and else the first that has it
pub record Named (file : List ℕ) (start nsec : ℕ) (identifier : ℤ) (r : ℕ) : Type 0 where
  pub limit : r ≤ nsec
  pub found : r < nsec → identifier_at file start r ≡ identifier
  pub first : (k : ℕ) → k < r → identifier_at file start k ≡ identifier → ⊥

module _ (file : List ℕ) (start nsec : ℕ) (identifier : ℤ) where
  named-from : (i left : ℕ) → i + left ≡ nsec → ((k : ℕ) → k < i → identifier_at file start k ≡ identifier → ⊥)
      → Named file start nsec identifier (section_named file start identifier i left)
  unfolding section_named
  named-from i zero e none = record { limit = omega arith; found = λ h. absurd (omega arith); first = none }
  named-from i (suc left) e none =
      elim (ℤ_discrete (identifier_at file start i) identifier) [
        | yes q ↦ rw (same-equal _ _ q) (record { limit = omega arith; found = λ h. q; first = none })
        | no d ↦ rw (same-other _ _ d) (named-from (i + 1) left (omega arith) (below_more _ i none d))
      ]

  -- what the search over all sections finds
  pub named : Named file start nsec identifier (section_named file start identifier 0 nsec)
  named = named-from 0 nsec (omega arith) (below_none _)

  -- where it finds none, no section has the identifier
  pub named-none : None ≡ named_of file start nsec identifier → ltb (section_named file start identifier 0 nsec) nsec ≡ false
  unfolding named_of
  named-none e = either (ltb (section_named file start identifier 0 nsec) nsec) (λ q. cc (rw q at e)) (λ q. q)

  -- and else it finds the first that has
  pub named-some : {i : ℕ} → Some i ≡ named_of file start nsec identifier → (i ≡ section_named file start identifier 0 nsec) × (i < nsec)
  unfolding named_of
  named-some {i} e =
      let j = section_named file start identifier 0 nsec in
      either (ltb j nsec) (λ q. let h = rw q at e in let s : i ≡ j = cc in (s, rw s (ltb-true j nsec q))) (λ q. cc (rw q at e))

  -- so a search by the numbers of the sections finds the same
  pub named-by : {r : Option ℕ} → MatchOption r ((k : ℕ) → 0 ≤ k → k < nsec → identifier_at file start k ≡ identifier → ⊥)
      (λ i. (0 ≤ i) × (i < nsec) × (identifier_at file start i ≡ identifier) × ((k : ℕ) → 0 ≤ k → k < i → identifier_at file start k ≡ identifier → ⊥))
      → r ≡ named_of file start nsec identifier
  unfolding named_of
  named-by {r = None} h =
      let j = section_named file start identifier 0 nsec in
      let n : Named file start nsec identifier j = named in
      let none : ltb j nsec ≡ true → ⊥ = λ q. h j (omega arith) (ltb-true j nsec q) (n.found (ltb-true j nsec q)) in
      either (ltb j nsec) (λ q. absurd (none q)) (λ q. rw q)
  named-by {r = Some i} h =
      let j = section_named file start identifier 0 nsec in
      let n : Named file start nsec identifier j = named in
      let low : i < j → ⊥ = λ l. n.first i l h.2 in
      let high : j < i → ⊥ = λ l. h.3 j (omega arith) l (n.found (omega arith)) in
      let same : j ≡ i = omega arith in
      rw (same, lt-ltb i nsec h.1)
