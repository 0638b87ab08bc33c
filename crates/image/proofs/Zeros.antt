-- Laws of `all_zero`: a run of zeros, two runs, bytes within others; and the test for 0 of a number made of two. Assumes nothing.
use mathlib.Core.Path.{◌≡◌, refl, sym, ap, subst, ◌∙◌}
use mathlib.Core.Bool.{true, ◌&&◌, and-eq-true_iff, and_assoc}
use Prim.Native.Nat.{ℕ, zero, suc, ◌+◌, ◌-◌, ◌≤◌}
use native.Mathlib.Omega.{arith}
use borrow.Author.Tests.{eqb-true, eqb-false, eq-eqb, ne_eqb}
use mathlib.Core.List.{List, [], ◌∷◌, ◌++◌}
use lib.Dec.{eqb}
use Rattle.outcome.proofs.Either.{either}
use Rattle.image.specs.Image.{part, zeros, all_zero}
use Rattle.image.proofs.Part.{part-add}

-- a run of zeros is all zero
pub zeros-zero : (n : ℕ) → all_zero (zeros n) ≡ true
unfolding zeros all_zero
zeros-zero zero = refl
zeros-zero (suc n) = zeros-zero n

-- two runs are all zero where both are
pub zero-append : (xs ys : List ℕ) → all_zero (xs ++ ys) ≡ all_zero xs && all_zero ys
unfolding all_zero
zero-append [] ys = refl
zero-append (x ∷ xs) ys = rw (zero-append xs ys) (sym (and_assoc (eqb x 0) (all_zero xs) (all_zero ys)))

-- bytes within bytes that are all zero are
pub zero-within : (image : List ℕ) (at n b m : ℕ) → at ≤ b → b + m ≤ at + n → all_zero (part image at n) ≡ true → all_zero (part image b m) ≡ true
zero-within image at n b m low high e =
    let k = b - at in
    let r = at + n - (b + m) in
    let here : at + k ≡ b = omega arith in
    let whole : n ≡ k + (m + r) = omega arith in
    let cut = part-add image at k (m + r) ∙ ap (λ (xs : List ℕ). part image at k ++ xs) (part-add image (at + k) m r) in
    let first = part image at k in
    let inner = part image (at + k) m in
    let last = part image (at + k + m) r in
    let both = sym (ap all_zero cut ∙ zero-append first (inner ++ last)) ∙ subst (λ (j : ℕ). all_zero (part image at j) ≡ true) whole e in
    let behind = sym (zero-append inner last) ∙ ((and-eq-true_iff (all_zero first) _).0 both).1 in
    subst (λ (j : ℕ). all_zero (part image j m) ≡ true) here ((and-eq-true_iff (all_zero inner) _).0 behind).0

-- the test for 0 of a number that is 0 where two others are, and nowhere else
pub both_zero : (a b c : ℕ) → (a ≡ 0 → b ≡ 0 → c ≡ 0) → (c ≡ 0 → (a ≡ 0) × (b ≡ 0)) → eqb c 0 ≡ eqb a 0 && eqb b 0
both_zero a b c f g =
    either (eqb a 0)
    (λ p.
    either (eqb b 0)
    (λ q. rw (p, q) (eq-eqb c 0 (f (eqb-true a 0 p) (eqb-true b 0 q))))
    (λ q. rw (p, q) (ne_eqb c 0 (λ e. eqb-false b 0 q (g e).1))))
    (λ p. rw p (ne_eqb c 0 (λ e. eqb-false a 0 p (g e).0)))
