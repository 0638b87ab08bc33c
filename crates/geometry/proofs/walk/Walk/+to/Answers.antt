-- Those before the extension before are within the limit too. Assumes nothing.
use Rattle.std.proofs.Common.{arith}
use Rattle.geometry.proofs.Capacities.{growing-fewer}
use Rattle.geometry.proofs.walk.Walk.+to.Goals as goal

pub to-requires : goal.to-requires
to-requires t c = (omega arith, (omega arith, omega arith, growing-fewer _ _ _ (omega arith) c.requires.2))
