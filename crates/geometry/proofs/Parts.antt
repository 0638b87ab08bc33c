-- What a walk counts in parts is what the single product gives, up to extension 16. Assumes nothing.
use mathlib.Core.Path.{◌≡◌, refl, sym, ap, ap₂, ◌∙◌}
use mathlib.Core.Bool.{false}
use Prim.Native.Nat.{ℕ, zero, suc, ◌+◌, ◌*◌, ◌-◌, ◌/◌, ◌%◌, ◌^◌, ◌≤◌, ◌<◌}
use native.Mathlib.Omega.{arith}
use native.Mathlib.Decide.{dec_le}
use native.Mathlib.Numerals.{add-one}
use native.Mathlib.Nat.{add-mul, mul-add-div_right, div-add-mod', mul_assoc, mul_right_comm, mul-one, pow-zero, pow-suc, one-le-pow, mul-div_cancel, mul-div-mul_right, div-div-eq-div-mul, div-lt_iff_lt-mul, lt_of_not-le}
use lib.Dec.{ltb}
use lib.Pow.{pow-add}
use Rattle.geometry.specs.declared.growth.Growth.{Growth}
use Rattle.geometry.specs.declared.walk.Walk.{Walk}
use Rattle.geometry.specs.Growth.{capacity_of, total_of, over_of, Growing}
use Rattle.geometry.specs.Walk.{grown_of, parts_of, walk_of, Walking}
use Rattle.geometry.proofs.Capacities.{product-next, total-last, over-next}

-- a number times x, divided by 10, by its tens and its last digit
pub by_digits : (n x : ℕ) → n / 10 * x + n % 10 * x / 10 ≡ n * x / 10
by_digits n x =
    sym (mul-add-div_right {m = 10} (omega arith) (n / 10 * x) (n % 10 * x))
    ∙ ap (λ (m : ℕ). (m + n % 10 * x) / 10) (mul_right_comm (n / 10) x 10)
    ∙ ap (λ (m : ℕ). m / 10) (sym (add-mul (n / 10 * 10) (n % 10) x))
    ∙ ap (λ (m : ℕ). m * x / 10) (div-add-mod' n 10)

module _ (g : Growth) where
  -- of fourteen tens, k are used up by extension k + 1, and j are left: its parts are whole
  whole : (j k : ℕ) → j + k ≡ 14 → parts_of g (suc k) ≡ g.lex1 * g.gex ^ k * 10 ^ j
  unfolding parts_of
  whole j zero e = let q : j ≡ 14 = omega arith in rw (q, pow-zero, mul-one)
  whole j (suc k) e =
      let p = g.lex1 * g.gex ^ k in
      let tens : p * 10 ^ suc j * g.gex ≡ p * g.gex * 10 ^ j * 10 =
      mul_right_comm p (10 ^ suc j) g.gex ∙ ap (λ (n : ℕ). p * g.gex * n) (pow-suc 10 j) ∙ sym (mul_assoc (p * g.gex) (10 ^ j) 10) in
      ap (grown_of g) (whole (suc j) k (omega arith)) ∙ ap (λ (n : ℕ). n / 10) tens ∙ mul-div_cancel (p * g.gex * 10 ^ j) (omega arith)
      ∙ ap (λ (n : ℕ). n * 10 ^ j) (product-next g k)

  -- the whole entries in the parts of an extension are its capacity
  pub parts-entries : (k : ℕ) → k ≤ 16 → parts_of g k / 10 ^ 14 ≡ capacity_of g k
  unfolding parts_of capacity_of
  parts-entries zero h = refl
  parts-entries (suc k) h = elim (dec_le k 14) [
    | yes l ↦
        let j = 14 - k in
        let sum : 14 ≡ k + j = omega arith in
        let all : 10 ^ 14 ≡ 10 ^ k * 10 ^ j = ap (λ (n : ℕ). 10 ^ n) sum ∙ pow-add 10 k j in
        ap₂ (λ (m n : ℕ). m / n) (whole j k (omega arith)) all ∙ mul-div-mul_right (g.lex1 * g.gex ^ k) (10 ^ k) (one-le-pow j 10 (omega arith))
    | no l ↦
        let last : k ≡ 15 = omega (arith, lt_of_not-le l) in
        let p = g.lex1 * g.gex ^ 14 in
        rw last (ap (λ (n : ℕ). grown_of g n / 10 ^ 14) (whole 0 14 refl ∙ mul-one p) ∙ div-div-eq-div-mul (p * g.gex) 10 (10 ^ 14) ∙ ap (λ (n : ℕ). n / 10 ^ 15) (product-next g 14))
  ]

  -- the parts of a capacity within the limit are few
  pub parts-few : (k : ℕ) → k ≤ 16 → capacity_of g k ≤ 16384 → parts_of g k < 2 ^ 61
  parts-few k h l =
      let q = (div-lt_iff_lt-mul {k = 10 ^ 14} {x = parts_of g k} {y = 16385} (omega arith)).0 (omega (arith, parts-entries k h)) in omega arith

  -- an extension's parts are grown from those of the one before it
  pub parts_next : (k : ℕ) → 1 ≤ k → parts_of g (k + 1) ≡ grown_of g (parts_of g k)
  unfolding parts_of
  parts_next zero h = absurd (omega arith)
  parts_next (suc k) h = rw add-one

  -- a walk that has come to extension k knows it
  pub walk-stands : {w : Walk} {k : ℕ} → w ≡ walk_of g k → (w.extension.0 ≡ k) × (w ≡ walk_of g w.extension.0)
  walk-stands e =
      let q = ap (λ (x : Walk). x.extension.0) e in
      (q, e ∙ ap (walk_of g) (sym q))

  -- it has the capacity of that extension
  pub walk-capacity : {w : Walk} (k : ℕ) → k ≤ 16 → w ≡ walk_of g k → w.capacity ≡ capacity_of g k
  walk-capacity k h e = ap (λ (x : Walk). x.capacity) e ∙ parts-entries k h

  -- and together with those before it, the total
  pub walk-total : {w : Walk} (k : ℕ) → 1 ≤ k → k ≤ 16 → w ≡ walk_of g k → w.before + w.capacity ≡ total_of g k
  walk-total k l h e = omega (arith, ap (λ (x : Walk). x.before) e, walk-capacity k h e, total-last g k l)

  -- with those before it within the limit, its extension is over it by the walk's own capacity
  pub walk-over : {w : Walk} (k : ℕ) → k + 1 ≤ 16 → w ≡ walk_of g (k + 1) → over_of g k ≡ false → over_of g (k + 1) ≡ ltb 16384 w.capacity
  walk-over k h e none = over-next g k none ∙ ap (ltb 16384) (sym (walk-capacity (k + 1) h e))

  -- a walk at an extension may go on where those up to it are within the limit
  pub walking : {w : Walk} (k : ℕ) → 1 ≤ k → k ≤ 16 → Growing g k → w ≡ walk_of g k → Walking g w
  walking k l h p e =
      let s = walk-stands e in
      record { stands = s.1; counted = rw s.0 l; few = rw s.0 h; growing = rw s.0 p }

  -- and then it comes to the next
  pub walked-on : {v w : Walk} (k : ℕ) → w ≡ walk_of g k → v ≡ walk_of g (w.extension.0 + 1) → v ≡ walk_of g (k + 1)
  walked-on k e n = rw (walk-stands e).0 at n
