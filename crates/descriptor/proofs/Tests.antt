-- From the way that a branch took to whether a rule holds. A call's result r is what its contract says, e. And two tests that hold together. Assumes nothing.
use Prim.Native.Nat.{ℕ}
use mathlib.Core.Path.{◌≡◌, refl, sym, ◌∙◌}
use mathlib.Core.Bool.{Bool, true, false, not}
use borrow.Author.Tests.{not-true, not-false, eq-eqb, ne_eqb, eqb-true, eqb-false}
use lib.Dec.{eqb}

-- `if !f(..)` was left
pub holds : {r e : Bool} → r ≡ e → r ≡ true → e ≡ true
holds p q = sym p ∙ q

-- `if !f(..)` was taken
pub broken : {r e : Bool} → r ≡ e → r ≡ false → e ≡ false
broken p q = sym p ∙ q

-- the same of `if !x.f`, whose test is of a field
pub holds-not : {r e : Bool} → r ≡ e → not r ≡ false → e ≡ true
holds-not {r} p q = sym p ∙ not-false r q

pub broken-not : {r e : Bool} → r ≡ e → not r ≡ true → e ≡ false
broken-not {r} p q = sym p ∙ not-true r q

-- two tests of equality, of which one holds exactly when the other does
pub same_test : (a b c d : ℕ) → (a ≡ b → c ≡ d) → (c ≡ d → a ≡ b) → eqb a b ≡ eqb c d
same_test a b c d there back = by (eqb a b) refl
  where
    by : (t : Bool) → eqb a b ≡ t → eqb a b ≡ eqb c d
    by true e = e ∙ sym (eq-eqb c d (there (eqb-true a b e)))
    by false e = e ∙ sym (ne_eqb c d (λ q. eqb-false a b e (back q)))
