-- The loop of `storing::tables::put_lengths` has written the lengths of the pairs passed, one after the other.
use Rattle.std.proofs.Common.{◌*◌}
use Rattle.words.specs.Word.{integer8}
use Rattle.geometry.specs.Units.{offset_of}
use Rattle.storing.proofs.TableBytes.{integer-table, Passed}
use Rattle.storing.proofs.tables.put_lengths.Given as goal

abbrev pub invariant-loop-pair : goal.invariant-loop-pair
invariant-loop-pair l = Passed (integer-table l.order integer8) l.initial.file (offset_of l.position) 0 l.lengths (2 * l.pair) l.file
