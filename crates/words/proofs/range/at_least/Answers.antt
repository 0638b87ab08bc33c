-- `words::range::at_least` meets its contract, at each integer. Assumes nothing.
use borrow.Author.Tests.{lt-leb, le-leb}
use mathlib.Core.Path.{◌∙◌, ap}
use lib.Dec.{ltb}
use Rattle.words.proofs.Ranges.{at_least-bits}
use Rattle.words.proofs.range.at_least.Goals as goal

pub returns-then-low-bits : goal.returns-then-low-bits
returns-then-low-bits g c =
    rw (at_least-bits g.T.Integer.width c.args.low c.args.bits, le-leb c.args.low c.args.bits c.if-low-bits.true) (ap (ltb c.args.bits) (c.HALF.ensures ∙ g.met.T.Integer.half))

pub returns-else-low-bits : goal.returns-else-low-bits
returns-else-low-bits g c = rw (at_least-bits g.T.Integer.width c.args.low c.args.bits, lt-leb c.args.low c.args.bits c.if-low-bits.false)
