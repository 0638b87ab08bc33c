-- The loop's invariant: the walk has come to the extension whose total is put next, and those before it have theirs. Assumes nothing.
use Rattle.std.proofs.Common.{◌≡◌, ◌+◌}
use Rattle.words.specs.Table.{places}
use Rattle.geometry.specs.Growth.{total_of}
use Rattle.geometry.specs.Walk.{walk_of}
use Rattle.geometry.proofs.totals.totals_of.Given as goal

abbrev pub invariant-loop-at : goal.invariant-loop-at
invariant-loop-at l = (l.walk ≡ walk_of l.growth (l.at + 1)) × (l.totals ≡ places 16 l.at (λ i. total_of l.growth (i + 1)) 0)
