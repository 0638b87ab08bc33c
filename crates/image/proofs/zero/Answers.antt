-- `image::zero` meets its contract: a turn writes one word more, which is zero. Assumes nothing.
use Rattle.std.proofs.Common.{◌≡◌, ◌+◌, ◌*◌, ◌/◌, ◌∙◌, sym, refl, ap, arith}
use Rattle.std.specs.Int.{w32, to_le_bytes}
use Rattle.image.specs.Image.{splice, zeros}
use Rattle.image.proofs.Splice.{splice-nil, splice-adjacent, length-zeros, zeros-append}
use Rattle.image.proofs.zero.Goals as goal

pub loop-i-init : goal.loop-i-init
unfolding zeros
loop-i-init c = sym (splice-nil _ _)

pub loop-i-preserved : goal.loop-i-preserved
unfolding zeros
loop-i-preserved c =
    let a = c.args in
    let image = a.image.now in
    let l = c.loop-i in
    let none : a.count / 4294967296 ≡ 0 = omega arith in
    let next : 4 * l.i + 4 ≡ 4 * (l.i + 1) = omega arith in
    c.put.ensures
    ∙ (λ j. splice (l.invariant j) (a.at + 4 * l.i) ((c.to_le_bytes-word.ensures ∙ ap (to_le_bytes w32) none) j))
    ∙ splice-adjacent image a.at (zeros (4 * l.i)) (a.at + 4 * l.i) (zeros 4) (rw length-zeros refl)
    ∙ ap (splice image a.at) (zeros-append (4 * l.i) 4 ∙ ap zeros next)
