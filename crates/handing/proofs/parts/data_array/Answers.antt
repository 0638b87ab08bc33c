-- `handing::parts::data_array` meets its contract: the place lies within the file. Assumes nothing.
use Rattle.handing.proofs.Handing.{data-words-inside}
use Rattle.handing.proofs.parts.data_array.Goals as goal

pub bytes_of-requires : goal.bytes_of-requires
bytes_of-requires c = rw c.data_array_place.ensures (let p = data-words-inside c.args.file.now c.args.number in (p.ordered, p.ends))
