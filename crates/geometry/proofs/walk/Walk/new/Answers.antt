-- The whole entries in the parts of lex1 entries are lex1. Assumes nothing.
use Rattle.std.proofs.Common.{◌^◌, arith}
use Rattle.std.proofs.Math.Nat.{mul-div_cancel}
use Rattle.geometry.specs.Walk.{parts_of}
use Rattle.geometry.proofs.Capacities.{total-none}
use Rattle.geometry.proofs.walk.Walk.new.Goals as goal

pub returns : goal.returns
unfolding parts_of
returns c = rw (total-none c.args.growth, mul-div_cancel c.args.growth.lex1 {n = 10 ^ 14} (omega arith))
