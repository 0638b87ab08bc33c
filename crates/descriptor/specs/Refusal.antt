-- A table of rules, a row for each: its refusal number and whether it holds. Several rows may have one number.
use Rattle.std.specs.Prelude.{ℕ, ◌<◌, ◌≡◌, ◌⊎◌, Bool, true, false, cond, List, [], ◌∷◌}

-- a rule: the refusal where it is broken, and whether it holds
pub record Rule : Type 0 where
  pub number : ℕ
  pub holds : Bool

-- a row of a table
abbrev pub row : ℕ → Bool → Rule
row n b = record { number = n; holds = b }

-- the number of the first rule that does not hold, and 0 where all hold
abbrev pub refusal_in : List Rule → ℕ
refusal_in [] = 0
refusal_in (r ∷ rs) = cond r.holds (refusal_in rs) r.number

-- what that says: refusal k is given where a row numbered k is broken and every row before it holds
abbrev pub Given : ℕ → List Rule → Type 0
Given k [] = ⊥
Given k (r ∷ rs) = ((r.number ≡ k) × (r.holds ≡ false)) ⊎ ((r.holds ≡ true) × Given k rs)

-- and none where every row holds
abbrev pub AllHold : List Rule → Type 0
AllHold [] = Unit
AllHold (r ∷ rs) = (r.holds ≡ true) × AllHold rs

-- 0 is no row's number
abbrev pub Numbered : List Rule → Type 0
Numbered [] = Unit
Numbered (r ∷ rs) = (0 < r.number) × Numbered rs
