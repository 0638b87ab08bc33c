-- A turn tells by the extension's own capacity whether those up to it are within the limit, and adds its area and its total. Assumes nothing.
use Rattle.std.proofs.Common.{◌≡◌, ℕ, ◌+◌, ◌-◌, ◌≤◌, false, refl, sym, ap, ◌∙◌, arith}
use Rattle.std.specs.Prelude.{Some, replicate, length}
use borrow.Author.Tests.{lt-ltb, le-ltb}
use Rattle.words.proofs.Table.{places-next}
use Rattle.geometry.specs.declared.growth.Growth.{Growth}
use Rattle.geometry.specs.declared.walk.Walk.{Walk}
use Rattle.geometry.specs.Growth.{total_of, over_of}
use Rattle.geometry.specs.Totals.{totals_of}
use Rattle.geometry.specs.Walk.{walk_of}
use Rattle.geometry.proofs.Capacities.{over_none, over-more, total-none, total-limit}
use Rattle.geometry.proofs.Parts.{walk-stands, walk-capacity, walk-total, walk-over, walking, walked-on}
use Rattle.descriptor.specs.FirstRecord.{growth_in, addresses_of}
use Rattle.descriptor.specs.Walking.{area_added, walked_of, walked_totals}
use Rattle.descriptor.proofs.AreaOrder.{aex-stored, ordered-none, ordered-next}
use Rattle.descriptor.proofs.walking.walk_extensions.Goals as goal

pub loop-passed-init : goal.loop-passed-init
loop-passed-init c =
    let g = growth_in c.args.d in
    (c.new-walk.ensures ∙ ap (λ (h : Growth). walk_of h 1) c.new-growth.ensures, over_none g, sym (ordered-none _ _), sym (total-none g), c.requires.3)

pub returns-then-walk-gt-CAPACITY_MAX : goal.returns-then-walk-gt-CAPACITY_MAX
unfolding walked_of walked_totals
returns-then-walk-gt-CAPACITY_MAX c =
    let l = c.loop-passed in
    let g = growth_in c.args.d in
    let own = walk-over g l.passed (omega (arith, c.requires.0.nex-high)) l.invariant.0 l.invariant.1 in
    let over = over-more g (l.passed + 1) c.args.d.nex (omega arith) (own ∙ lt-ltb _ _ c.if-walk-gt-CAPACITY_MAX.true) in
    rw over (refl, c.fill.ensures.after (λ y e. e) ∙ ap (λ (n : ℕ). replicate n 0) (l.auto.totals ∙ ap length c.requires.3))

pub overflow_add-totals : goal.overflow_add-totals
overflow_add-totals c =
    let l = c.loop-passed in
    let g = growth_in c.args.d in
    let few : l.passed + 1 ≤ 16 = omega (arith, c.requires.0.nex-high) in
    let own = walk-over g l.passed few l.invariant.0 l.invariant.1 ∙ le-ltb _ _ c.if-walk-gt-CAPACITY_MAX.false in
    omega (arith, few, walk-total g (l.passed + 1) (omega arith) few l.invariant.0, total-limit g (l.passed + 1) (l.passed + 1) (omega arith) own)

pub next-walk-requires : goal.next-walk-requires
next-walk-requires c =
    let l = c.loop-passed in
    let g = growth_in c.args.d in
    let few : l.passed + 1 ≤ 16 = omega (arith, c.requires.0.nex-high) in
    let own = walk-over g l.passed few l.invariant.0 l.invariant.1 ∙ le-ltb _ _ c.if-walk-gt-CAPACITY_MAX.false in
    rw c.new-growth.ensures
    (walking g (l.passed + 1) (omega arith) few (record { lex1-high = c.requires.0.lex1-high; gex-high = c.requires.0.gex-high; within = own }) l.invariant.0)

pub loop-passed-preserved : goal.loop-passed-preserved
loop-passed-preserved c =
    let l = c.loop-passed in
    let d = c.args.d in
    let file = c.args.file.now in
    let g = growth_in d in
    let k = l.passed in
    let few : k + 1 ≤ 16 = omega (arith, c.requires.0.nex-high) in
    let own = walk-over g k few l.invariant.0 l.invariant.1 ∙ le-ltb _ _ c.if-walk-gt-CAPACITY_MAX.false in
    let q : l.walk.extension.0 - 1 ≡ k = omega (arith, (walk-stands g l.invariant.0).0) in
    let first = rw q at c.aex_in-first.ensures ∙ sym (aex-stored file d.nex k (omega arith) c.requires.0.nex-high) in
    let capacity = walk-capacity g (k + 1) few l.invariant.0 in (
      walked-on g (k + 1) l.invariant.0 (c.next-walk.ensures ∙ ap (λ (h : Growth). walk_of h (l.walk.extension.0 + 1)) c.new-growth.ensures),
      own,
      c.after_area-after.ensures ∙ (λ j. area_added d (l.invariant.2 j) (first j) (capacity j)) ∙ ordered-next d (addresses_of file d.nex) k,
      ap (λ (w : Walk). w.before) l.invariant.0,
      rw (l.invariant.4, walk-total g (k + 1) (omega arith) few l.invariant.0) (places-next 16 k (λ i. total_of g (i + 1)) 0 (omega arith)),
    )

pub returns : goal.returns
unfolding walked_of walked_totals totals_of
returns c =
    let l = c.loop-passed in
    let d = c.args.d in
    let g = growth_in d in
    let all : l.passed ≡ d.nex = omega arith in
    let none : over_of g d.nex ≡ false = rw all at l.invariant.1 in
    let after = rw all at l.invariant.2 in
    let without = rw all at l.invariant.3 in
    let with = ap (λ (w : Walk). w.before) l.invariant.0 ∙ (let q : l.passed + 1 - 1 ≡ d.nex = omega arith in ap (total_of g) q) in
    rw none (λ i. Some (record { after = after i; before = without i; total = with i }), rw all at l.invariant.4)
