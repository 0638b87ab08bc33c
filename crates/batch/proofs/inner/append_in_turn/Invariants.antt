-- The loop of `batch::inner::append_in_turn`: what the batch does is what its entries from here on do to the file as it is, and the numbers at hand are the file's.
use Rattle.batch.specs.Batch.{laid_of, batch_handed}
use Rattle.batch.proofs.InTurn.{Before}
use Rattle.batch.proofs.inner.append_in_turn.Given as goal

abbrev pub invariant-loop-accepted : goal.invariant-loop-accepted
invariant-loop-accepted l = Before l.initial.file (batch_handed l.entries) l.file l.numbers (laid_of l.left) l.accepted
