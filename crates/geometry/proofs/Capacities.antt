-- Laws of the capacities for all callers: they stay within the limit and never shrink, and their totals rise. Assumes nothing.
use mathlib.Core.Path.{◌≡◌, refl, sym, ap, ◌∙◌}
use mathlib.Core.Bool.{Bool, true, false, ◌||◌}
use Prim.Native.Nat.{ℕ, zero, suc, ◌+◌, ◌*◌, ◌-◌, ◌/◌, ◌^◌, ◌≤◌, ◌<◌}
use native.Mathlib.Omega.{arith}
use native.Mathlib.Nat.{mul_assoc, mul-le-mul, mul-one, div-one, pow-zero, pow-suc, one-le-pow, div-mul-le_self, le-div_iff_mul-le, lt_of_not-le}
use native.Mathlib.Decide.{dec_le, le_ind}
use native.Mathlib.Numerals.{add-one}
use mathlib.Mathlib.Data.Bool.Basic.{or-eq-false-eq-eq-false-and-eq-false}
use borrow.Author.Tests.{ltb-false}
use lib.Dec.{ltb}
use Rattle.outcome.proofs.Either.{either}
use Rattle.geometry.specs.declared.growth.Growth.{Growth}
use Rattle.geometry.specs.Growth.{capacity_of, total_of, over_of, Growing}

module _ (g : Growth) where
  -- one extension more passes the limit where those before it do, or it does itself
  over-step : (k : ℕ) → over_of g (k + 1) ≡ over_of g k || ltb 16384 (capacity_of g (k + 1))
  unfolding over_of
  over-step k = rw add-one

  -- where the first n capacities are within the limit, fewer are
  pub over-fewer : (k n : ℕ) → k ≤ n → over_of g n ≡ false → over_of g k ≡ false
  over-fewer k n h e =
      le_ind (λ i. over_of g i ≡ false → over_of g k ≡ false) (λ q. q)
      (λ i l f q. f ((or-eq-false-eq-eq-false-and-eq-false (over_of g i) _).0 (sym (over-step i) ∙ ap (over_of g) (add-one i) ∙ q)).0) n h e

  -- where they are not, more are not
  pub over-more : (k n : ℕ) → k ≤ n → over_of g k ≡ true → over_of g n ≡ true
  over-more k n h e = either (over_of g n) (λ q. q) (λ q. q ∙ sym (over-fewer k n h q) ∙ e)

  -- with those before it within the limit, one more is over it by its own capacity alone
  pub over-next : (k : ℕ) → over_of g k ≡ false → over_of g (k + 1) ≡ ltb 16384 (capacity_of g (k + 1))
  over-next k e = over-step k ∙ ap (λ (b : Bool). b || ltb 16384 (capacity_of g (k + 1))) e

  -- no extension is over the limit where there is none
  pub over_none : over_of g 0 ≡ false
  unfolding over_of
  over_none = refl

  -- the last of the extensions is over the limit by its own capacity alone
  pub over_last : (k : ℕ) → 1 ≤ k → over_of g (k - 1) ≡ false → over_of g k ≡ ltb 16384 (capacity_of g k)
  over_last k h e = let q : k - 1 + 1 ≡ k = omega arith in (rw q at (over-next (k - 1) e))

  -- what the code asks of n extensions it has of fewer
  pub growing-fewer : (k n : ℕ) → k ≤ n → Growing g n → Growing g k
  growing-fewer k n h p = record { lex1-high = p.lex1-high; gex-high = p.gex-high; within = over-fewer k n h p.within }

  -- each capacity within the limit is at most 16,384
  pub capacity-limit : (k n : ℕ) → 1 ≤ k → k ≤ n → over_of g n ≡ false → capacity_of g k ≤ 16384
  unfolding over_of
  capacity-limit zero n h l e = absurd (omega arith)
  capacity-limit (suc k) n h l e = ltb-false 16384 (capacity_of g (suc k)) ((or-eq-false-eq-eq-false-and-eq-false (over_of g k) _).0 (over-fewer (suc k) n l e)).1

  -- the totals, one extension after the other
  pub total-none : total_of g 0 ≡ 0
  unfolding total_of
  total-none = refl

  -- one extension more adds its capacity
  pub total-next : (k : ℕ) → total_of g (k + 1) ≡ total_of g k + capacity_of g (k + 1)
  unfolding total_of
  total-next k = rw add-one

  -- the last of the extensions adds its capacity
  pub total-last : (k : ℕ) → 1 ≤ k → total_of g k ≡ total_of g (k - 1) + capacity_of g k
  total-last k h = let q : k - 1 + 1 ≡ k = omega arith in (rw q at (total-next (k - 1)))

  -- more extensions hold no fewer entries
  pub total-le : (k n : ℕ) → k ≤ n → total_of g k ≤ total_of g n
  unfolding total_of
  total-le k n h = le_ind (λ i. total_of g k ≤ total_of g i) (omega arith) (λ i a l. omega arith) n h

  -- extensions that hold fewer entries are fewer
  pub total-before : (k n : ℕ) → total_of g k < total_of g n → k < n
  total-before k n h = elim (dec_le n k) [ yes l ↦ absurd (omega (arith, total-le n k l)) | no l ↦ lt_of_not-le l ]

  -- extensions within the limit hold no more than the limit each
  pub total-limit : (k n : ℕ) → k ≤ n → over_of g n ≡ false → total_of g k ≤ k * 16384
  unfolding total_of
  total-limit zero n h e = omega arith
  total-limit (suc k) n h e = omega (arith, total-limit k n (omega arith) e, capacity-limit (suc k) n (omega arith) h e)

  -- the first extension holds lex1 entries
  pub capacity-first : capacity_of g 1 ≡ g.lex1
  unfolding capacity_of
  capacity-first = rw (pow-zero, mul-one, div-one)

  -- the product of the next extension has one power of gex more
  pub product-next : (k : ℕ) → g.lex1 * g.gex ^ k * g.gex ≡ g.lex1 * g.gex ^ suc k
  product-next k = mul_assoc g.lex1 (g.gex ^ k) g.gex ∙ ap (λ (n : ℕ). g.lex1 * n) (sym (pow-suc g.gex k))

  -- a growth that the rules admit never shrinks
  module _ (lex1-low : 1 ≤ g.lex1) (gex-low : 10 ≤ g.gex) where
    -- a capacity is no smaller than the one before it
    pub capacity-rise : (k : ℕ) → 1 ≤ k → capacity_of g k ≤ capacity_of g (k + 1)
    unfolding capacity_of
    capacity-rise zero h = absurd (omega arith)
    capacity-rise (suc k) h =
        let p = g.lex1 * g.gex ^ k in
        let less : p / 10 ^ k * 10 ^ k * 10 ≤ p * g.gex = mul-le-mul (div-mul-le_self p (10 ^ k)) gex-low in
        let tens : p / 10 ^ k * 10 ^ suc k ≡ p / 10 ^ k * 10 ^ k * 10 = rw pow-suc (sym (mul_assoc (p / 10 ^ k) (10 ^ k) 10)) in
        rw add-one ((le-div_iff_mul-le {k = 10 ^ suc k} (one-le-pow (suc k) 10 (omega arith))).1 (omega (arith, product-next k)))

    -- nor than any before it
    pub capacity-le : (k n : ℕ) → 1 ≤ k → k ≤ n → capacity_of g k ≤ capacity_of g n
    capacity-le k n h l =
        le_ind (λ i. capacity_of g k ≤ capacity_of g i) (omega arith) (λ i a r. omega (arith, rw add-one at (capacity-rise i (omega arith)))) n l

    -- each extension has room for an entry
    pub capacity-some : (k : ℕ) → 1 ≤ k → 1 ≤ capacity_of g k
    capacity-some k h = omega (arith, capacity-first, capacity-le 1 k (omega arith) h)
