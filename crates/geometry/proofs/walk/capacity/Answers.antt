-- The walk at an extension has its capacity. Assumes nothing.
use Rattle.geometry.proofs.Parts.{walk-capacity}
use Rattle.geometry.proofs.walk.capacity.Goals as goal

pub returns : goal.returns
returns c = walk-capacity _ c.args.extension.0 c.requires.1 c.to.ensures
