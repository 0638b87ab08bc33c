-- The identifiers passed are ones that an Integer*4 can hold.
use Rattle.std.proofs.Common.{ℕ, ◌<◌, SFits, get_or, pos}
use Rattle.words.specs.Word.{integer4}
use Rattle.witness.proofs.read_identifiers.Given as goal

abbrev pub invariant-loop-identifier : goal.invariant-loop-identifier
invariant-loop-identifier l = (i : ℕ) → i < l.identifier-index → SFits integer4 (get_or l.ids i (pos 0))
