-- Laws of codes: lists that are the same, and bytes that are by their number. Assumes nothing.
use Prim.Native.Nat.{ℕ, suc, ◌<◌}
use mathlib.Core.Path.{◌≡◌, refl, sym, ap, ap₂, ◌∙◌}
use mathlib.Core.Bool.{true, false}
use mathlib.Core.List.{List, [], ◌∷◌}
use native.Mathlib.Omega.{arith}
use mathlib.Mathlib.Data.Bool.Basic.{and-eq-true-eq-eq-true-and-eq-true}
use borrow.Author.Tests.{eqb-true, eq-eqb}
use lib.Dec.{eqb}
use lib.ListN.{length, get_or}
use Rattle.outcome.proofs.Either.{either}
use Rattle.words.specs.Code.{same_numbers}
use Rattle.words.specs.Word.{little_number}
use Rattle.words.proofs.Number.{Bytes, little-equal}

-- a list is the same as itself
pub same_self : (xs : List ℕ) → same_numbers xs xs ≡ true
unfolding same_numbers
same_self [] = refl
same_self (x ∷ xs) = rw (eq-eqb x x refl) (same_self xs)

-- lists that are the same are equal
pub same-equal : (xs ys : List ℕ) → same_numbers xs ys ≡ true → xs ≡ ys
unfolding same_numbers
same-equal [] [] e = refl
same-equal [] (y ∷ ys) e = cc
same-equal (x ∷ xs) [] e = cc
same-equal (x ∷ xs) (y ∷ ys) e =
    let both = (and-eq-true-eq-eq-true-and-eq-true (eqb x y) (same_numbers xs ys)).0 e in
    ap₂ (λ (z : ℕ) (zs : List ℕ). z ∷ zs) (eqb-true x y both.0) (same-equal xs ys both.1)

-- lists that differ at a place are not the same
pub differ-at : (i : ℕ) (xs ys : List ℕ) → (get_or xs i 0 ≡ get_or ys i 0 → ⊥) → same_numbers xs ys ≡ false
differ-at i xs ys d = either (same_numbers xs ys) (λ q. absurd (d (ap (λ (l : List ℕ). get_or l i 0) (same-equal xs ys q)))) (λ q. q)

-- behind a number that both begin with, the others count
pub same_next : {x y : ℕ} (xs ys : List ℕ) → x ≡ y → same_numbers (x ∷ xs) (y ∷ ys) ≡ same_numbers xs ys
unfolding same_numbers
same_next {x} {y} xs ys e = rw (eq-eqb x y e)

-- of one number each, it counts alone
pub same-one : (x y : ℕ) → same_numbers (x ∷ []) (y ∷ []) ≡ eqb x y
unfolding same_numbers
same-one x y = either (eqb x y) (λ q. rw q) (λ q. rw q)

-- lists that stand for different numbers are not the same
differ-number : (xs ys : List ℕ) → eqb (little_number xs) (little_number ys) ≡ false → same_numbers xs ys ≡ false
differ-number xs ys d = either (same_numbers xs ys) (λ q. q ∙ sym (eq-eqb _ _ (ap little_number (same-equal xs ys q))) ∙ d) (λ q. q)

-- bytes are the same as as many others where the two stand for one number, and nowhere else
pub same_number : (xs ys : List ℕ) → Bytes xs → Bytes ys → length xs ≡ length ys → eqb (little_number xs) (little_number ys) ≡ same_numbers xs ys
same_number xs ys h k e =
    either (eqb (little_number xs) (little_number ys))
    (λ q. q ∙ sym (ap (same_numbers xs) (sym (little-equal xs ys h k e (eqb-true _ _ q))) ∙ same_self xs))
    (λ q. q ∙ sym (differ-number xs ys q))
