-- The two calls are a series of two.
use Rattle.std.proofs.Common.{w32}
use mir.Facts.{to_z-of_z}
use Rattle.storing.specs.Handed.{handed_in}
use Rattle.witness.proofs.Promised.{twice}
use Rattle.witness.proofs.append_twice.Goals as goal

pub returns : goal.returns
returns c =
    let a = c.args in
    let p = rw (to_z-of_z {w = w32} c.ranges.version) at c.append-first.ensures in
    let q = rw (to_z-of_z {w = w32} c.ranges.next_version) at c.append-second.ensures in
    twice a.file.now c.append-first.new.file c.append-second.new.file
    (handed_in a.version a.index.now a.ids.now a.lengths.now a.sections.now a.values.now)
    (handed_in a.next_version a.next_index.now a.next_ids.now a.next_lengths.now a.next_sections.now a.next_values.now)
    (record { first = c.append-first.result; second = c.append-second.result })
    (record { version = c.ranges.version; ids = c.read_identifiers.ensures }) (record { version = c.ranges.next_version; ids = c.read_identifiers-2.ensures }) p q
