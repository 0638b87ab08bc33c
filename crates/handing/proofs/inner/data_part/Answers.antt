-- `handing::inner::data_part` meets its contract: the data of an entry that opened lies within it. Assumes nothing.
use Rattle.std.proofs.Common.{refl, arith, ◌∙◌}
use borrow.Author.Tests.{eq-eqb, ne_eqb}
use Rattle.outcome.proofs.Refusals.{number-positive}
use Rattle.pieces.proofs.Pieces.{Placed, data-placed}
use Rattle.entry.specs.Entered.{given}
use Rattle.entry.proofs.Entering.{entered-given, entered-not}
use Rattle.entry.proofs.OpenedEntry.{Known, known}
use Rattle.handing.specs.Parts.{data_part}
use Rattle.handing.proofs.inner.data_part.Goals as goal
use Rattle.handing.proofs.inner.data_part.Goals.{Else-piece-eq0}

-- the entry opened
opened : (c : Else-piece-eq0) → Known c.args.file.now c.args.d c.args.number (given c.in-Ok.entered)
opened c = known _ _ _ _ _ c.requires.0.admitted (entered-given _ _ _ _ c.in-Ok.ensures) refl

-- and its data, where there is any, lies within it
placed : (c : Else-piece-eq0) → let x = c.in-Ok.entered in Placed x.nsec x.nword x.array
placed c = let o = opened c in data-placed _ _ _ o.nword-small c.if-piece-eq0.false o.data-within

pub returns-in-Err : goal.returns-in-Err
unfolding data_part
returns-in-Err c = c.no_part.ensures ∙ rw (c.number.ensures, ← entered-not _ _ _ _ _ c.in-Err.ensures, ne_eqb _ 0 (number-positive c.in-Err.refusal))

pub returns-then-piece-eq0 : goal.returns-then-piece-eq0
unfolding data_part
returns-then-piece-eq0 c =
    let z = c.default.ensures in
    (λ i. record { refusal = z.0 i; start = z.1.0 i; end = z.1.1 i })
    ∙ rw (← entered-given _ _ _ _ c.in-Ok.ensures, eq-eqb c.in-Ok.entered.array.words 0 c.if-piece-eq0.true)

pub entry_position-requires : goal.entry_position-requires
entry_position-requires c = let h = opened (goal.at.entry_position-requires c).Else-piece-eq0 in let k = placed (goal.at.entry_position-requires c).Else-piece-eq0 in omega arith

pub words_from-requires : goal.words_from-requires
words_from-requires c = let h = opened (goal.at.words_from-requires c).Else-piece-eq0 in let k = placed (goal.at.words_from-requires c).Else-piece-eq0 in omega (arith, c.entry_position.ensures)

pub returns : goal.returns
unfolding data_part
returns c =
    c.words_from.ensures
    ∙ rw (c.entry_position.ensures, ← entered-given _ _ _ _ c.in-Ok.ensures, ne_eqb c.in-Ok.entered.array.words 0 c.if-piece-eq0.false)
