-- `image::put` meets its contract: a turn writes one byte more. Assumes nothing.
use Rattle.std.proofs.Common.{sym, arith}
use Rattle.image.proofs.Splice.{splice-nil, splice-next}
use Rattle.image.proofs.put.Goals as goal

pub loop-i-init : goal.loop-i-init
loop-i-init c = sym (splice-nil _ _)

pub loop-i-preserved : goal.loop-i-preserved
loop-i-preserved c = splice-next c.args.image.now c.args.at c.args.bytes.now c.loop-i.image c.loop-i.i c.loop-i.invariant (omega arith)
