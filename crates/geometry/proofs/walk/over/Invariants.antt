-- The loop's invariant: the walk has come to the next extension, and those passed are within the limit. Assumes nothing.
use Rattle.std.proofs.Common.{◌≡◌, ◌+◌, false}
use Rattle.geometry.specs.Growth.{over_of}
use Rattle.geometry.specs.Walk.{walk_of}
use Rattle.geometry.proofs.walk.over.Given as goal

abbrev pub invariant-loop-passed : goal.invariant-loop-passed
invariant-loop-passed l = (l.walk ≡ walk_of l.growth (l._passed + 1)) × (over_of l.growth l._passed ≡ false)
