-- The place lies within the file, so it starts no later than it ends.
use Rattle.handing.proofs.Handing.{index-words-inside}
use Rattle.classic.proofs.parts.classic_index_words.Goals as goal

pub part_at-requires : goal.part_at-requires
part_at-requires c = rw c.index_words_place.ensures (index-words-inside _ _).ordered
