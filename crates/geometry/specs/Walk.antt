-- How the code comes from one capacity to the next: it counts a capacity in parts, of which an entry has 10^14.
use Rattle.std.specs.Prelude.{ℕ, zero, suc, ◌*◌, ◌-◌, ◌/◌, ◌^◌, ◌≤◌, ◌≡◌}
use Rattle.geometry.specs.declared.growth.Growth.{Growth}
use Rattle.geometry.specs.declared.walk.Walk.{Walk}
use Rattle.geometry.specs.Growth.{total_of, Growing}

-- a number times gex, divided by 10, the fraction dropped
abbrev pub grown_of : Growth → ℕ → ℕ
grown_of g n = n * g.gex / 10

-- the capacity of extension k in parts: the first has those of lex1 entries, and each further one's are grown from those of the one before it
unfoldable pub parts_of : Growth → ℕ → ℕ
parts_of g zero = 0
parts_of g (suc zero) = g.lex1 * 10 ^ 14
parts_of g (suc (suc k)) = grown_of g (parts_of g (suc k))

-- a walk that has come to extension k: the capacities before it together, and its own, the whole entries in its parts
abbrev pub walk_of : Growth → ℕ → Walk
walk_of g k = record { extension = record { 0 = k }; before = total_of g (k - 1); capacity = parts_of g k / 10 ^ 14; parts = parts_of g k }

-- what the code asks of a walk that goes on to the next extension
pub record Walking (g : Growth) (w : Walk) : Type 0 where
  pub stands : w ≡ walk_of g w.extension.0
  pub counted : 1 ≤ w.extension.0
  pub few : w.extension.0 ≤ 16
  pub growing : Growing g w.extension.0
