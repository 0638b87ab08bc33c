-- The loop of `writer::rules::make_up`: each length passed is 1 or more, and what is left and the lengths passed make up the bytes. Assumes nothing.
use Rattle.std.proofs.Common.{◌≡◌, ◌+◌, ◌/◌, length, take}
use Rattle.words.proofs.Runs.{Passing}
use Rattle.storing.specs.Handed.{sum_of, positive}
use Rattle.writer.proofs.rules.make_up.Given as goal

abbrev pub invariant-loop-length : goal.invariant-loop-length
invariant-loop-length l = Passing (positive l.lengths) (length l.lengths) l.length-index × (l.left + sum_of (take l.length-index l.lengths) ≡ l.bytes / 4)
