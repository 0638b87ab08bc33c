-- `handing::parts::section` meets its contract: the place lies within the file. Assumes nothing.
use mir.Facts.{to_z-of_z}
use Rattle.handing.proofs.Handing.{section-words-inside}
use Rattle.handing.proofs.parts.section.Goals as goal

pub bytes_of-requires : goal.bytes_of-requires
bytes_of-requires c =
    let p = section-words-inside c.args.file.now c.args.number c.args.identifier in
    let e = rw (to_z-of_z c.ranges.identifier) at c.section_place.ensures in
    rw e (p.ordered, p.ends)
