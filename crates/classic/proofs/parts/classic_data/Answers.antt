-- The place lies within the file, so it starts no later than it ends.
use Rattle.handing.proofs.Handing.{data-words-inside}
use Rattle.classic.proofs.parts.classic_data.Goals as goal

pub part_at-requires : goal.part_at-requires
part_at-requires c = rw c.data_array_place.ensures (data-words-inside _ _).ordered
