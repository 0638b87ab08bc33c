-- The sum and the length of the rows that are left make up the length of all.
use Rattle.std.proofs.Common.{◌≡◌, ◌+◌, length}
use Rattle.listing.proofs.Lines.{rest_of}
use Rattle.listing.proofs.entries.rows_length.Given as goal

abbrev pub invariant-loop-number : goal.invariant-loop-number
invariant-loop-number l = l.sum + length (rest_of l.file l.d l.number-end l.number) ≡ length (rest_of l.file l.d l.number-end 1)
