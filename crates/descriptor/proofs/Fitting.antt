-- Laws of how many entries fit the extensions in use. Assumes nothing.
use Prim.Native.Nat.{ℕ, zero, suc, ◌-◌, ◌≤◌, ◌<◌}
use mathlib.Core.Path.{◌≡◌, refl}
use mathlib.Core.Bool.{true, ◌&&◌, and-eq-true_iff}
use native.Mathlib.Omega.{arith}
use borrow.Author.Tests.{leb-true, ltb-true, eqb-true}
use lib.Dec.{leb, ltb, eqb}
use Rattle.geometry.specs.declared.growth.Growth.{Growth}
use Rattle.geometry.specs.Growth.{total_of}
use Rattle.geometry.proofs.Capacities.{total-none}
use Rattle.descriptor.specs.Rules.{entries_fit}

module _ (g : Growth) (n : ℕ) where
  -- no extension fits no entry alone
  pub fit_none : entries_fit g 0 n ≡ eqb n 0
  unfolding entries_fit
  fit_none = refl

  -- extensions fit what they hold together and the last of them is needed for
  pub fit-some : (k : ℕ) → 1 ≤ k → entries_fit g k n ≡ leb n (total_of g k) && ltb (total_of g (k - 1)) n
  unfolding entries_fit
  fit-some zero h = absurd (omega arith)
  fit-some (suc k) h = let q : suc k - 1 ≡ k = omega arith in rw q

  -- the extensions in use reach all entries
  pub fit-reach : (k : ℕ) → entries_fit g k n ≡ true → n ≤ total_of g k
  fit-reach zero e = omega (arith, eqb-true n 0 (rw fit_none at e), total-none g)
  fit-reach (suc k) e = leb-true n (total_of g (suc k)) ((and-eq-true_iff (leb n (total_of g (suc k))) _).0 (rw (fit-some (suc k) (omega arith)) at e)).0

  -- and one extension fewer would not
  pub fit-full : (k : ℕ) → 1 ≤ k → entries_fit g k n ≡ true → total_of g (k - 1) < n
  fit-full k h e = ltb-true (total_of g (k - 1)) n ((and-eq-true_iff (leb n (total_of g k)) _).0 (rw (fit-some k h) at e)).1

-- both, as the code tests them
pub ruleset fits = (fit_none, fit-some)
