-- The loop of `storing::tables::put_identifiers` has written the identifiers passed, one after the other.
use Rattle.words.specs.Word.{integer4}
use Rattle.geometry.specs.Units.{offset_of}
use Rattle.storing.proofs.TableBytes.{integer-table, Passed}
use Rattle.storing.proofs.tables.put_identifiers.Given as goal

abbrev pub invariant-loop-i : goal.invariant-loop-i
invariant-loop-i l = Passed (integer-table l.order integer4) l.initial.file (offset_of l.position) 0 l.ids l.i l.file
