-- The loop of `writer::rules::are_distinct`: the identifiers passed are distinct, and none is above the highest. Assumes nothing.
use Rattle.std.proofs.Common.{length}
use Rattle.words.proofs.Runs.{Passing}
use Rattle.storing.specs.Handed.{distinct}
use Rattle.writer.proofs.HandedIn.{NoneAbove}
use Rattle.writer.proofs.rules.are_distinct.Given as goal

abbrev pub invariant-loop-i : goal.invariant-loop-i
invariant-loop-i l = Passing (distinct l.ids) (length l.ids) l.i × NoneAbove l.ids l.i l.highest
