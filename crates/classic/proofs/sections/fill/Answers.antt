-- A turn puts the value of the place before, and behind the last turn the table is full.
use Rattle.std.proofs.Common.{◌≡◌, ◌-◌, suc, arith}
use Rattle.classic.proofs.Filled.{emptying-none, emptying-next, emptying-all}
use Rattle.classic.proofs.sections.fill.Goals as goal

pub loop-left-init : goal.loop-left-init
loop-left-init g c = λ f blank blanks each. rw blanks (emptying-none c.requires.room.0)

pub loop-left-preserved : goal.loop-left-preserved
loop-left-preserved g c = λ f blank blanks each.
    let kept = c.loop-left.invariant f blank blanks each in
    let next : c.loop-left.left ≡ suc (c.loop-left.left - 1) = omega arith in
    emptying-next kept next c.requires.room.0 (each _ _ (omega (arith, kept.few)) c.value_at.ensures)

pub returns : goal.returns
returns g c = λ f blank blanks each. emptying-all (c.loop-left.invariant f blank blanks each) (omega arith)
