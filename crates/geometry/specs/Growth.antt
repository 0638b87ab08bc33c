-- The capacities of the extensions, in entries. Extensions are counted from 1.
use Rattle.std.specs.Prelude.{ℕ, zero, suc, ◌+◌, ◌*◌, ◌/◌, ◌^◌, ◌≤◌, ◌≡◌, Bool, false, ◌||◌, ltb}
use Rattle.geometry.specs.declared.growth.Growth.{Growth}

-- a growth from its two numbers
abbrev pub growth_of : ℕ → ℕ → Growth
growth_of lex1 gex = record { lex1 = lex1; gex = gex }

-- the capacity of extension k (the memo's Eq. 1): lex1 × gex^(k-1) / 10^(k-1), the fraction dropped once. There is no extension 0
unfoldable pub capacity_of : Growth → ℕ → ℕ
capacity_of g zero = 0
capacity_of g (suc k) = g.lex1 * g.gex ^ k / 10 ^ k

-- the first k capacities together
unfoldable pub total_of : Growth → ℕ → ℕ
total_of g zero = 0
total_of g (suc k) = total_of g k + capacity_of g (suc k)

-- one of the first k capacities is over 16,384
unfoldable pub over_of : Growth → ℕ → Bool
over_of g zero = false
over_of g (suc k) = over_of g k || ltb 16384 (capacity_of g (suc k))

-- what the code asks of a growth and its first k extensions
pub record Growing (g : Growth) (k : ℕ) : Type 0 where
  pub lex1-high : g.lex1 ≤ 4096
  pub gex-high : g.gex ≤ 20
  pub within : over_of g k ≡ false
