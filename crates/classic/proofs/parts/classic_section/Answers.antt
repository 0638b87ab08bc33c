-- The place lies within the file, so it starts no later than it ends.
use Rattle.handing.proofs.Handing.{section-words-inside}
use Rattle.classic.proofs.parts.classic_section.Goals as goal

pub part_at-requires : goal.part_at-requires
part_at-requires c = rw c.section_place.ensures (section-words-inside _ _ _).ordered
