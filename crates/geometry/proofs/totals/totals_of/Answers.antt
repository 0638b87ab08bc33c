-- What a turn puts is the total of one extension more. Assumes nothing.
use Rattle.std.proofs.Common.{◌≡◌, ◌+◌, arith}
use Rattle.words.proofs.Table.{places-next}
use Rattle.geometry.specs.Growth.{total_of}
use Rattle.geometry.specs.Totals.{totals_of}
use Rattle.geometry.proofs.Capacities.{growing-fewer, total-limit}
use Rattle.geometry.proofs.Parts.{walk-total, walking, walked-on}
use Rattle.geometry.proofs.totals.totals_of.Goals as goal

pub overflow_add-totals : goal.overflow_add-totals
overflow_add-totals c =
    let l = c.loop-at in
    let g = c.args.growth in
    omega (arith, walk-total g (l.at + 1) (omega arith) (omega arith) l.invariant.0, total-limit g (l.at + 1) c.args.count (omega arith) c.requires.1.within)

pub next-walk-requires : goal.next-walk-requires
next-walk-requires c =
    let l = c.loop-at in
    let g = c.args.growth in
    walking g (l.at + 1) (omega arith) (omega arith) (growing-fewer g (l.at + 1) c.args.count (omega arith) c.requires.1) l.invariant.0

pub loop-at-preserved : goal.loop-at-preserved
loop-at-preserved c =
    let l = c.loop-at in
    let g = c.args.growth in (
      walked-on g (l.at + 1) l.invariant.0 c.next-walk.ensures,
      rw (l.invariant.1, walk-total g (l.at + 1) (omega arith) (omega arith) l.invariant.0) (places-next 16 l.at (λ i. total_of g (i + 1)) 0 (omega arith)),
    )

pub returns : goal.returns
unfolding totals_of
returns c = let all : c.loop-at.at ≡ c.args.count = omega arith in rw all at c.loop-at.invariant.1
