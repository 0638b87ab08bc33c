-- The record after the last area is no record 0. Assumes nothing.
use Rattle.std.proofs.Common.{arith}
use Rattle.descriptor.proofs.inner.areas.areas_hold.Goals as goal

pub position_within-requires : goal.position_within-requires
position_within-requires c = let low = rw c.in-Some.is at c.requires.3 in omega (arith, low, c.requires.0, c.requires.2, c.free_position.ensures)
