-- The rule that 01 had before the single product, for the theorem that says where the two agree, and for nothing else.
use Rattle.std.specs.Prelude.{ℕ, zero, suc, ◌*◌, ◌/◌}
use Rattle.geometry.specs.declared.growth.Growth.{Growth}

-- each further capacity from the one before it: times gex, divided by 10, the fraction dropped each time
unfoldable pub stepwise_of : Growth → ℕ → ℕ
stepwise_of g zero = 0
stepwise_of g (suc zero) = g.lex1
stepwise_of g (suc (suc k)) = stepwise_of g (suc k) * g.gex / 10
