-- `handing::parts::index_words` meets its contract: the place lies within the file. Assumes nothing.
use Rattle.handing.proofs.Handing.{index-words-inside}
use Rattle.handing.proofs.parts.index_words.Goals as goal

pub bytes_of-requires : goal.bytes_of-requires
bytes_of-requires c = rw c.index_words_place.ensures (let p = index-words-inside c.args.file.now c.args.number in (p.ordered, p.ends))
