-- `words::integers::U64Integer::read_at` meets its contract, in either order. Assumes nothing.
use Rattle.words.specs.Word.{integer8}
use Rattle.words.proofs.StdBytes.{read-little, read-big}
use Rattle.words.proofs.integers.U64Integer.read_at.Goals as goal

pub returns-then-order-eq0 : goal.returns-then-order-eq0
returns-then-order-eq0 c =
    let a = c.args in
    read-little a.order integer8 a.image.now a.at c.requires c.bytes_at-bytes.ensures c.if-order-eq0.true c.from_le_bytes.ensures

pub returns-else-order-eq0 : goal.returns-else-order-eq0
returns-else-order-eq0 c =
    let a = c.args in
    read-big a.order integer8 a.image.now a.at c.requires c.bytes_at-bytes.ensures c.if-order-eq0.false c.from_be_bytes.ensures
