-- `entry::rules::content_refusal` meets its contract: each test is a row of the table, in its order. Assumes nothing.
use Rattle.std.proofs.Common.{sym, ◌∙◌}
use mir.Syntax.{w64}
use Rattle.words.proofs.Ranges.{at_least-bounds}
use Rattle.pieces.proofs.Pieces.{data-placed}
use Rattle.pieces.proofs.Spreads.{ending, spread-none, spread-some}
use Rattle.entry.specs.Opening.{content_refusal}
use Rattle.entry.proofs.rules.content_refusal.Goals as goal

pub returns-then-not-at_least : goal.returns-then-not-at_least
unfolding content_refusal
returns-then-not-at_least c = rw (sym c.if-not-at_least.ensures)

pub data_within-requires : goal.data_within-requires
data_within-requires c =
    (c.args.entry.now.described.sections, c.requires, (at_least-bounds w64 0 c.args.array.words (sym c.if-not-at_least.ensures)).1)

pub returns-then-not-data_within : goal.returns-then-not-data_within
unfolding content_refusal
returns-then-not-data_within c = rw (sym c.if-not-at_least.ensures, sym c.if-not-data_within.ensures)

pub returns-in_default : goal.returns-in_default
unfolding content_refusal
returns-in_default c = rw (sym c.if-not-at_least.ensures, sym c.if-not-data_within.ensures, spread-none _ _ _ _ c.in_default.ensures)

pub sections_apart-requires : goal.sections_apart-requires
sections_apart-requires c =
    let s = spread-some _ _ _ _ c.in-Some.ensures in
    (ending _ _ _ _ s.0, λ ordered. sym s.1 ∙ ordered)

pub returns-then-not-sections_apart : goal.returns-then-not-sections_apart
unfolding content_refusal
returns-then-not-sections_apart c =
    rw (sym c.if-not-at_least.ensures, sym c.if-not-data_within.ensures, (spread-some _ _ _ _ c.in-Some.ensures).0, sym c.if-not-sections_apart.ensures)

pub data_apart-requires : goal.data_apart-requires
data_apart-requires c =
    let s = spread-some _ _ _ _ c.in-Some.ensures in
    (ending _ _ _ _ s.0, λ some. (data-placed _ _ c.args.array c.requires some (sym c.if-not-data_within.ensures)).small, s.2)

pub returns-then-not-data_apart : goal.returns-then-not-data_apart
unfolding content_refusal
returns-then-not-data_apart c =
    rw (sym c.if-not-at_least.ensures, sym c.if-not-data_within.ensures, (spread-some _ _ _ _ c.in-Some.ensures).0, sym c.if-not-sections_apart.ensures, sym c.if-not-data_apart.ensures)

pub returns : goal.returns
unfolding content_refusal
returns c =
    rw (sym c.if-not-at_least.ensures, sym c.if-not-data_within.ensures, (spread-some _ _ _ _ c.in-Some.ensures).0, sym c.if-not-sections_apart.ensures, sym c.if-not-data_apart.ensures)
