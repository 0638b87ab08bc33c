-- With those passed within the limit, one more is over it by its own capacity. Assumes nothing.
use Rattle.std.proofs.Common.{◌+◌, sym, ◌∙◌, arith}
use borrow.Author.Tests.{lt-ltb, le-ltb}
use Rattle.geometry.proofs.Capacities.{over_none, over-more}
use Rattle.geometry.proofs.Parts.{walk-over, walking, walked-on}
use Rattle.geometry.proofs.walk.over.Goals as goal

pub loop-passed-init : goal.loop-passed-init
loop-passed-init c = (c.new-walk.ensures, over_none _)

pub returns-then-walk-gt-CAPACITY_MAX : goal.returns-then-walk-gt-CAPACITY_MAX
returns-then-walk-gt-CAPACITY_MAX c =
    let l = c.loop-passed in
    let own = walk-over c.args.growth l._passed (omega arith) l.invariant.0 l.invariant.1 in
    sym (over-more c.args.growth (l._passed + 1) c.args.count (omega arith) (own ∙ lt-ltb _ _ c.if-walk-gt-CAPACITY_MAX.true))

pub next-walk-requires : goal.next-walk-requires
next-walk-requires c =
    let l = c.loop-passed in
    let own = walk-over c.args.growth l._passed (omega arith) l.invariant.0 l.invariant.1 in
    walking c.args.growth (l._passed + 1) (omega arith) (omega arith)
    (record { lex1-high = c.requires.0; gex-high = c.requires.1; within = own ∙ le-ltb _ _ c.if-walk-gt-CAPACITY_MAX.false }) l.invariant.0

pub loop-passed-preserved : goal.loop-passed-preserved
loop-passed-preserved c =
    let l = c.loop-passed in
    let own = walk-over c.args.growth l._passed (omega arith) l.invariant.0 l.invariant.1 in
    (walked-on c.args.growth (l._passed + 1) l.invariant.0 c.next-walk.ensures, own ∙ le-ltb _ _ c.if-walk-gt-CAPACITY_MAX.false)
