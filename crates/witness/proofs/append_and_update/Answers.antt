-- The two calls are a series of two.
use Rattle.std.proofs.Common.{w32}
use mir.Facts.{to_z-of_z}
use Rattle.storing.specs.Handed.{handed_in}
use Rattle.update.specs.Answers.{update_in}
use Rattle.witness.proofs.Promised.{revised}
use Rattle.witness.proofs.append_and_update.Goals as goal

pub returns : goal.returns
returns c =
    let a = c.args in
    let p = rw (to_z-of_z {w = w32} c.ranges.version) at c.append-appended.ensures in
    let q = rw (to_z-of_z {w = w32} c.ranges.identifier) at c.update_section-updated.ensures in
    revised a.file.now c.append-appended.new.file c.update_section-updated.new.file
    (handed_in a.version a.index.now a.ids.now a.lengths.now a.sections.now a.values.now)
    (update_in a.number a.identifier a.content.now)
    (record { appended = c.append-appended.result; updated = c.update_section-updated.result })
    (record { version = c.ranges.version; ids = c.read_identifiers.ensures }) p q
