-- `words::range::within` meets its contract, at each integer. Assumes nothing.
use borrow.Author.Tests.{le-leb, lt-leb}
use Rattle.words.proofs.Ranges.{within-bits}
use Rattle.words.proofs.range.within.Goals as goal

pub returns-then-low-bits : goal.returns-then-low-bits
returns-then-low-bits g c = rw (within-bits g.T.Integer.width _ _ _ c.requires, le-leb _ _ c.if-low-bits.true)

pub returns-else-low-bits : goal.returns-else-low-bits
returns-else-low-bits g c = rw (within-bits g.T.Integer.width _ _ _ c.requires, lt-leb _ _ c.if-low-bits.false)
