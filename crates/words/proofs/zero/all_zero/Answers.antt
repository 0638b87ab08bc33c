-- `words::zero::all_zero` meets its contract: the bits that are kept are 0 where both halves are all zero. Assumes nothing.
use Prim.Native.Nat.{ℕ, ◌+◌, ◌*◌, ◌-◌, ◌/◌}
use mathlib.Core.Path.{◌≡◌, refl, ap, ap₂, ◌∙◌}
use mathlib.Core.Bool.{◌&&◌}
use native.Mathlib.Omega.{arith}
use Rattle.image.specs.Image.{part, all_zero}
use Rattle.words.specs.Word.{arranged, number, bits_at}
use Rattle.words.proofs.Zeros.{or-zero, seen-words, halves-zero}
use Rattle.words.proofs.zero.all_zero.Goals as goal

pub loop-done-init : goal.loop-done-init
unfolding part all_zero
loop-done-init c = (refl, refl)

pub loop-done-preserved : goal.loop-done-preserved
unfolding arranged number bits_at
loop-done-preserved c =
    let image = c.args.image.now in
    let l = c.loop-done in (
      seen-words image _ l.done l.first_bits c.read-first_bits.ensures l.invariant.0,
      seen-words image _ l.done l.second_bits c.read-second_bits.ensures l.invariant.1,
    )

pub returns : goal.returns
returns c =
    let a = c.args in
    let image = a.image.now in
    let l = c.loop-done in
    let n = a.to - a.from in
    let words = (n + 4) / 8 in
    let second = a.to - 4 * words in
    let all : 4 * l.done ≡ 4 * words = omega arith in
    or-zero l.first_bits l.second_bits
    ∙ ap₂ ◌&&◌ (l.invariant.0 ∙ ap (λ (k : ℕ). all_zero (part image a.from k)) all) (l.invariant.1 ∙ ap (λ (k : ℕ). all_zero (part image second k)) all)
    ∙ halves-zero image a.from n (4 * words) second (omega arith) (omega arith) (omega arith)
