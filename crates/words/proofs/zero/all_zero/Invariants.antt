-- The bits seen of each half are 0 where its bytes passed, whole words, are all zero, and nowhere else.
use Rattle.std.proofs.Common.{◌≡◌, ◌*◌, nat_eq}
use Rattle.image.specs.Image.{part, all_zero}
use Rattle.words.proofs.zero.all_zero.Given as goal

abbrev pub invariant-loop-done : goal.invariant-loop-done
invariant-loop-done l =
    (nat_eq l.first_bits 0 ≡ all_zero (part l.image l.from (4 * l.done))) × (nat_eq l.second_bits 0 ≡ all_zero (part l.image l.second (4 * l.done)))
