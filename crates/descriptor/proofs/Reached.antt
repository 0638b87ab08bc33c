-- Among the totals of the extensions in use one reaches an entry, and the first that does is that of the extension that holds it. Assumes nothing.
use Prim.Native.Nat.{ℕ, zero, suc, ◌+◌, ◌-◌, ◌≤◌, ◌<◌}
use mathlib.Core.Path.{◌≡◌, refl, ap}
use mathlib.Core.List.{List}
use native.Mathlib.Omega.{arith}
use native.Mathlib.Decide.{dec_le}
use native.Mathlib.Nat.{lt_of_not-le}
use lib.ListN.{length, get_or}
use Rattle.std.specs.Prelude.{Option, Some, None}
use Rattle.std.specs.List.{AllWithin, HoldsAt}
use Rattle.std.specs.Option.{MatchOption, IsSome}
use Rattle.std.proofs.option.Match.{if_some}
use Rattle.geometry.specs.declared.growth.Growth.{Growth}
use Rattle.geometry.specs.Growth.{total_of}
use Rattle.geometry.specs.Totals.{totals_of}
use Rattle.geometry.proofs.Capacities.{total-none}
use Rattle.geometry.proofs.TotalTables.{totals-length, totals-at}
use Rattle.geometry.proofs.Slots.{Holds}

module _ (g : Growth) (nex : ℕ) {totals : List ℕ} (table : totals ≡ totals_of g nex) (few : nex ≤ 16) (entry : ℕ) (counted : 1 ≤ entry) (all : entry ≤ total_of g nex) where
  -- the last total reaches it
  last : (1 ≤ nex) × (entry ≤ get_or totals (nex - 1) 0)
  last = by nex totals table few all
    where
      by : (n : ℕ) (t : List ℕ) → t ≡ totals_of g n → n ≤ 16 → entry ≤ total_of g n → (1 ≤ n) × (entry ≤ get_or t (n - 1) 0)
      by zero t e h l = absurd (omega (arith, total-none g))
      by (suc n) t e h l =
          let p : suc n - 1 ≡ n = omega arith in
          let q : n + 1 ≡ suc n = omega arith in
          (omega arith, rw p (omega (arith, totals-at g (suc n) e h n (omega arith), ap (total_of g) q)))

  -- so some total does
  reached : AllWithin (λ t. t < entry) totals 0 (length totals) → ⊥
  reached none = let l = last in omega (arith, none (nex - 1) 0 (omega arith) (omega (arith, l, totals-length g nex table)), l)

  -- and the first that does
  module _ (i : ℕ) (here : entry ≤ get_or totals i 0) (before : (k : ℕ) → k < i → get_or totals k 0 < entry) where
    -- is that of an extension in use
    passed-few : i < nex
    passed-few = elim (dec_le nex i) [ yes l ↦ let e = last in absurd (omega (arith, e, before (nex - 1) (omega (arith, e)))) | no l ↦ lt_of_not-le l ]

    -- which holds the entry
    passed-holds : Holds g entry (i + 1)
    passed-holds = record { counted = omega arith; behind = by i passed-few before; reached = omega (arith, totals-at g nex table few i passed-few) }
      where
        by : (k : ℕ) → k < nex → ((j : ℕ) → j < k → get_or totals j 0 < entry) → total_of g (k + 1 - 1) < entry
        by zero h b = omega (arith, total-none g)
        by (suc k) h b =
            let q : suc k + 1 - 1 ≡ k + 1 = omega arith in
            rw q (omega (arith, totals-at g nex table few k (omega arith), b k (omega arith)))

  -- what is said of the place of the first total that reaches it
  abbrev pub Position : Option ℕ → Type 0
  Position r = MatchOption r (AllWithin (λ t. t < entry) totals 0 (length totals))
      (λ i. (i < length totals) × HoldsAt (λ t. entry ≤ t) totals i × AllWithin (λ t. t < entry) totals 0 i)

  -- there is one
  pub position-some : (r : Option ℕ) → Position r → IsSome r
  position-some (Some i) p = refl
  position-some None p = absurd (reached p)

  -- and the extension there holds the entry
  pub position-holds : (r : Option ℕ) (i : ℕ) → Position r → r ≡ Some i → (i < nex) × Holds g entry (i + 1)
  position-holds r i p e =
      let f = if_some _ _ i e p in
      let here = f.1 0 in
      let before : (k : ℕ) → k < i → get_or totals k 0 < entry = λ k h. f.2 k 0 (omega arith) h in
      (passed-few i here before, passed-holds i here before)
