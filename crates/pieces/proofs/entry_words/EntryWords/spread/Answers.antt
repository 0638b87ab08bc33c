-- `pieces::entry_words::EntryWords::spread` meets its contract. The order kept after a turn follows from what either branch leaves: no step is named there after the test. Assumes nothing.
use Rattle.std.proofs.Common.{◌≡◌, ◌+◌, ◌≤◌, ◌<◌, false, sym, arith}
use Rattle.words.specs.Word.{integer8}
use Rattle.words.proofs.Ranges.{at_least-bounds}
use Rattle.pieces.specs.Spread.{in_order, spread_of}
use Rattle.pieces.proofs.Pieces.{piece-placed, within_none}
use Rattle.pieces.proofs.Spreads.{end_none, end-next, order-none, order-broken, order-kept, spread-empty, spread-outside, within-next}
use Rattle.pieces.proofs.entry_words.EntryWords.spread.Goals as goal

pub loop-i-init : goal.loop-i-init
loop-i-init c = record { within = within_none _ _ _ _; highest = sym (end_none _ _ _); order = sym (order-none _ _ _) }

pub returns-then-not-at_least : goal.returns-then-not-at_least
returns-then-not-at_least c = spread-empty _ _ _ _ c.loop-i.i c.section-section.ensures (omega arith) (sym c.if-not-at_least.ensures)

pub piece_within-requires : goal.piece_within-requires
piece_within-requires c = omega (arith, at_least-bounds integer8 1 c.section-section.result.words (sym c.if-not-at_least.ensures))

pub returns-then-not-piece_within : goal.returns-then-not-piece_within
returns-then-not-piece_within c =
    spread-outside _ _ _ _ c.loop-i.i c.section-section.ensures (omega arith) (sym c.if-not-at_least.ensures) (sym c.if-not-piece_within.ensures)

pub overflow_add-section : goal.overflow_add-section
overflow_add-section c =
    omega (arith, piece-placed c.args.self.now.nsec c.args.nword c.section-section.result (sym c.if-not-at_least.ensures) (sym c.if-not-piece_within.ensures))

pub loop-i-preserved : goal.loop-i-preserved
loop-i-preserved c =
    let e = c.args.self.now in
    let k = c.loop-i.i in
    let x = c.section-section.result.address.0 in
    let before = c.loop-i.invariant in
    let broken : x < c.loop-i.end → false ≡ in_order e.file.now e.start e.nsec (k + 1) = λ h. order-broken _ _ _ k before.highest c.section-section.ensures h in
    let kept : c.loop-i.end ≤ x → in_order e.file.now e.start e.nsec k ≡ in_order e.file.now e.start e.nsec (k + 1) = λ h. order-kept _ _ _ k before.highest c.section-section.ensures h in
    record {
      within = within-next _ _ _ _ k c.section-section.ensures before.within (sym c.if-not-at_least.ensures) (sym c.if-not-piece_within.ensures);
      highest = end-next _ _ _ k before.highest c.section-section.ensures c.max-end.ensures;
      order = grind (arith, broken, kept);
    }

pub returns : goal.returns
unfolding spread_of
returns c =
    let all = c.loop-i.invariant in
    let e : c.loop-i.i ≡ c.args.self.now.nsec = omega arith in
    rw (all.highest, all.order, e, rw e at all.within)
