-- Where gex is a multiple of ten, the single product gives the capacities that the rule before it gave: no step has a fraction to drop. Assumes nothing.
use mathlib.Core.Path.{◌≡◌, refl, sym, ap, ◌∙◌}
use Prim.Native.Nat.{ℕ, zero, suc, ◌*◌, ◌/◌, ◌^◌}
use native.Mathlib.Omega.{arith}
use native.Mathlib.Nat.{mul_assoc, mul-mul-mul_comm, mul-one, pow-zero, pow-suc, one-le-pow, mul-div_cancel}
use Rattle.geometry.specs.Growth.{growth_of, capacity_of}
use Rattle.geometry.specs.Stepwise.{stepwise_of}

module _ (lex1 m : ℕ) where
  -- the power of a multiple of ten
  power : (k : ℕ) → (m * 10) ^ k ≡ m ^ k * 10 ^ k
  power zero = rw (pow-zero (m * 10), pow-zero m, pow-zero 10)
  power (suc k) =
      pow-suc (m * 10) k ∙ ap (λ (n : ℕ). n * (m * 10)) (power k) ∙ mul-mul-mul_comm (m ^ k) (10 ^ k) m 10
      ∙ ap (λ (n : ℕ). n * (10 ^ k * 10)) (sym (pow-suc m k)) ∙ ap (λ (n : ℕ). m ^ suc k * n) (sym (pow-suc 10 k))

  -- by the product an extension holds lex1 × m^(k-1) entries
  product : (k : ℕ) → capacity_of (growth_of lex1 (m * 10)) (suc k) ≡ lex1 * m ^ k
  unfolding capacity_of
  product k =
      ap (λ (n : ℕ). n / 10 ^ k) (ap (λ (n : ℕ). lex1 * n) (power k) ∙ sym (mul_assoc lex1 (m ^ k) (10 ^ k)))
      ∙ mul-div_cancel (lex1 * m ^ k) (one-le-pow k 10 (omega arith))

  -- and so it does by the rule before
  steps : (k : ℕ) → stepwise_of (growth_of lex1 (m * 10)) (suc k) ≡ lex1 * m ^ k
  unfolding stepwise_of
  steps zero = rw (pow-zero, mul-one)
  steps (suc k) =
      ap (λ (n : ℕ). n * (m * 10) / 10) (steps k) ∙ ap (λ (n : ℕ). n / 10) (sym (mul_assoc (lex1 * m ^ k) m 10))
      ∙ mul-div_cancel (lex1 * m ^ k * m) (omega arith) ∙ mul_assoc lex1 (m ^ k) m ∙ ap (λ (n : ℕ). lex1 * n) (sym (pow-suc m k))

  -- so the two rules agree
  agree : (k : ℕ) → capacity_of (growth_of lex1 (m * 10)) k ≡ stepwise_of (growth_of lex1 (m * 10)) k
  unfolding capacity_of stepwise_of
  agree zero = refl
  agree (suc k) = product k ∙ sym (steps k)

-- gex 10 and gex 20 give the same as before, for every lex1 and every extension
pub same-as-before : (lex1 k : ℕ) → (capacity_of (growth_of lex1 10) k ≡ stepwise_of (growth_of lex1 10) k)
    × (capacity_of (growth_of lex1 20) k ≡ stepwise_of (growth_of lex1 20) k)
same-as-before lex1 k = (agree lex1 1 k, agree lex1 2 k)
