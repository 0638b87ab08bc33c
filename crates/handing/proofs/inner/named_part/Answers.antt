-- `handing::inner::named_part` meets its contract: the section that was found lies within the entry. Assumes nothing.
use Rattle.std.proofs.Common.{◌≡◌, refl, ◌∙◌, arith}
use borrow.Author.Tests.{lt-ltb}
use mir.Facts.{to_z-of_z}
use Rattle.pieces.proofs.Pieces.{Placed, section-placed}
use Rattle.pieces.proofs.SectionTables.{named-none, named-some}
use Rattle.entry.specs.Entered.{given}
use Rattle.handing.specs.Parts.{no_part, section_in}
use Rattle.handing.proofs.inner.named_part.Goals as goal
use Rattle.handing.proofs.inner.named_part.Goals.{After-section-piece}

placed : (c : After-section-piece) → let x = c.args.entered in Placed x.nsec x.nword c.section-piece.result
placed c = rw c.section-piece.ensures (section-placed _ _ _ _ _ _ (named-some _ _ _ _ c.in-Some.ensures).1 (c.requires.within refl))

pub invariant_of-stored : goal.invariant_of-stored
invariant_of-stored c = record { described = c.requires.described refl }

pub section-piece-requires : goal.section-piece-requires
section-piece-requires c = (named-some _ _ _ _ c.in-Some.ensures).1

pub entry_position-requires : goal.entry_position-requires
entry_position-requires c =
    let p = placed (goal.at.entry_position-requires c).After-section-piece in
    omega (arith, c.requires.small refl, c.requires.ends refl, c.requires.described refl)

pub words_from-requires : goal.words_from-requires
words_from-requires c =
    let p = placed (goal.at.words_from-requires c).After-section-piece in
    omega (arith, c.entry_position.ensures, c.requires.small refl, c.requires.ends refl, c.requires.described refl)

pub returns-in_default : goal.returns-in_default
returns-in_default c =
    let none = named-none _ _ _ _ (rw (to_z-of_z c.ranges.identifier) at c.in_default.ensures) in
    let e : no_part 20 ≡ section_in c.args.file.now (given c.args.entered) c.args.identifier = rw none in
    cc

pub returns : goal.returns
returns c =
    let x = c.args.entered in
    let some = named-some _ _ _ _ (rw (to_z-of_z c.ranges.identifier) at c.in-Some.ensures) in
    c.words_from.ensures ∙ rw (c.entry_position.ensures, ← some.0, lt-ltb c.in-Some.found x.nsec some.1, ← c.section-piece.ensures)
