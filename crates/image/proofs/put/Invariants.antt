-- The image is the one at entry with the bytes passed written over it.
use Rattle.std.proofs.Common.{◌≡◌, take}
use Rattle.image.specs.Image.{splice}
use Rattle.image.proofs.put.Given as goal

abbrev pub invariant-loop-i : goal.invariant-loop-i
invariant-loop-i l = l.image ≡ splice l.initial.image l.at (take l.i l.bytes)
