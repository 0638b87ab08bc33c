-- Two numbers by their order. Assumes nothing.
use Prim.Native.Nat.{ℕ, ◌+◌, ◌≤◌, ◌<◌}
use mathlib.Core.Path.{◌≡◌}
use native.Mathlib.Omega.{arith}
use native.Mathlib.Nat.{lt_of_not-le}
use native.Mathlib.Decide.{dec_le}

-- a number is at most another, or above it
pub split {ℓ} : {X : Type ℓ} (a b : ℕ) → (a ≤ b → X) → (b < a → X) → X
split a b f g = elim (dec_le a b) [ yes l ↦ f l | no l ↦ g (lt_of_not-le l) ]

-- two numbers are equal, or one is less
pub by_order {ℓ} : {X : Type ℓ} (a b : ℕ) → (a ≡ b → X) → (a < b → X) → (b < a → X) → X
by_order a b e f g = split a b (λ l. split b a (λ m. e (omega arith)) f) g

-- a number up to n + 1 is one up to n, or the last
pub by_last {ℓ} : {X : Type ℓ} (n k : ℕ) → k ≤ n + 1 → (k ≤ n → X) → (k ≡ n + 1 → X) → X
by_last n k h f g = split k n f (λ m. g (omega arith))
