-- A creation that is accepted makes a file that demand 3 starts from, and the append to it is a series of one.
use Rattle.std.proofs.Common.{w32}
use mir.Facts.{to_z-of_z}
use Rattle.storing.specs.Handed.{handed_in}
use Rattle.witness.proofs.Promised.{not-begun, begun}
use Rattle.witness.proofs.create_and_append.Goals as goal

pub returns-then-created-ne0 : goal.returns-then-created-ne0
returns-then-created-ne0 c =
    let a = c.args in
    not-begun a.file.now c.create-created.new.file a.settings (handed_in a.version a.index.now a.ids.now a.lengths.now a.sections.now a.values.now)
    c.create-created.result c.create-created.ensures c.if-created-ne0.true

pub returns : goal.returns
returns c =
    let a = c.args in
    begun a.file.now c.create-created.new.file c.append-appended.new.file a.settings
    (handed_in a.version a.index.now a.ids.now a.lengths.now a.sections.now a.values.now)
    (record { created = c.create-created.result; appended = c.append-appended.result })
    (record { version = c.ranges.version; ids = c.read_identifiers.ensures })
    c.create-created.ensures c.if-created-ne0.false (rw (to_z-of_z {w = w32} c.ranges.version) at c.append-appended.ensures)
