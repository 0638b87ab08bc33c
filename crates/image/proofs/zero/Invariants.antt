-- The image is the one at entry with the zeros passed, whole words, written over it.
use Rattle.std.proofs.Common.{◌≡◌, ◌*◌}
use Rattle.image.specs.Image.{splice, zeros}
use Rattle.image.proofs.zero.Given as goal

abbrev pub invariant-loop-i : goal.invariant-loop-i
invariant-loop-i l = l.image ≡ splice l.initial.image l.at (zeros (4 * l.i))
