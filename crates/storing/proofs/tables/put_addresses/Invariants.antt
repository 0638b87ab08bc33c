-- The loop of `storing::tables::put_addresses` has written the addresses passed, and the next one is the first plus the lengths passed.
use Rattle.std.proofs.Common.{◌≡◌, ◌+◌, take}
use Rattle.geometry.specs.Units.{offset_of}
use Rattle.storing.specs.Handed.{sum_of}
use Rattle.storing.proofs.TableBytes.{address-table, Passed}
use Rattle.storing.proofs.tables.put_addresses.Given as goal

abbrev pub invariant-loop-i : goal.invariant-loop-i
invariant-loop-i l =
    Passed (address-table l.order) l.initial.file (offset_of l.position) l.fn.first.0 l.lengths l.i l.file × (l.address ≡ l.fn.first.0 + sum_of (take l.i l.lengths))
