-- Laws of a table of totals: its length, and what it says of the extensions before each. Assumes nothing.
use mathlib.Core.Path.{◌≡◌, refl, sym, ap, ◌∙◌}
use mathlib.Core.List.{List}
use Prim.Native.Nat.{ℕ, zero, suc, ◌+◌, ◌-◌, ◌≤◌, ◌<◌}
use native.Mathlib.Omega.{arith}
use lib.ListN.{length, get_or, set}
use Rattle.words.proofs.Table.{Filling, filling-next, length-places, places-at}
use Rattle.geometry.specs.declared.growth.Growth.{Growth}
use Rattle.geometry.specs.Growth.{total_of}
use Rattle.geometry.specs.Totals.{totals_of, total_before}
use Rattle.geometry.proofs.Capacities.{total-none}

-- a value at the place behind those that are filled fills one more
pub totals-on : {nex : ℕ} {f : ℕ → ℕ} {table : List ℕ} {filled at value next : ℕ} → Filling 16 nex f 0 table filled → at ≡ filled → filled < nex → nex ≤ 16 → value ≡ f filled
    → next ≡ filled + 1 → Filling 16 nex f 0 (set table at value) next
totals-on l here some room e n = rw (here, n) (filling-next l some room e)

-- a table says nothing of extensions before the first
pub before-first : (totals : List ℕ) (k : ℕ) → k ≤ 1 → total_before totals k ≡ 0
unfolding total_before
before-first totals zero h = refl
before-first totals (suc zero) h = refl
before-first totals (suc (suc k)) h = absurd (omega arith)

-- before any other it has their total
pub before-other : (totals : List ℕ) (k : ℕ) → 1 < k → total_before totals k ≡ get_or totals (k - 1 - 1) 0
unfolding total_before
before-other totals zero h = absurd (omega arith)
before-other totals (suc zero) h = absurd (omega arith)
before-other totals (suc (suc k)) h = let q : k ≡ suc (suc k) - 1 - 1 = omega arith in ap (λ (i : ℕ). get_or totals i 0) q

pub ruleset before_extension = (before-first, before-other)

module _ (g : Growth) (nex : ℕ) {totals : List ℕ} (e : totals ≡ totals_of g nex) where
  -- a table of totals has 16 places
  pub totals-length : length totals ≡ 16
  unfolding totals_of
  totals-length = ap length e ∙ length-places 16 nex (λ i. total_of g (i + 1)) 0

  module _ (few : nex ≤ 16) where
    -- the place behind k others holds the total of k + 1 extensions
    pub totals-at : (k : ℕ) → k < nex → get_or totals k 0 ≡ total_of g (k + 1)
    unfolding totals_of
    totals-at k h = ap (λ (t : List ℕ). get_or t k 0) e ∙ places-at 16 nex (λ i. total_of g (i + 1)) 0 k h few

    -- and so it says what those before an extension hold together
    pub before-total : (k : ℕ) → k ≤ nex + 1 → total_before totals k ≡ total_of g (k - 1)
    unfolding total_before
    before-total zero h = sym (total-none g)
    before-total (suc zero) h = sym (total-none g)
    before-total (suc (suc k)) h = let q : k + 1 ≡ suc (suc k) - 1 = omega arith in totals-at k (omega arith) ∙ ap (total_of g) q
