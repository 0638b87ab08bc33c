-- `handing::inner::section_part` meets its contract: the entry is entered, and its section looked for. Assumes nothing.
use Rattle.std.proofs.Common.{◌∙◌}
use borrow.Author.Tests.{ne_eqb}
use mir.Facts.{to_z-of_z}
use Rattle.outcome.proofs.Refusals.{number-positive}
use Rattle.entry.proofs.Entering.{entered-given, entered-not}
use Rattle.handing.specs.Parts.{section_part}
use Rattle.handing.proofs.Handing.{readable, section-by}
use Rattle.handing.proofs.inner.section_part.Goals as goal

pub named_part-requires : goal.named_part-requires
named_part-requires c = readable _ _ _ _ _ c.requires.0 (entered-given _ _ _ _ c.in-Ok.ensures)

pub returns-in-Ok : goal.returns-in-Ok
returns-in-Ok c = section-by _ _ _ _ _ (entered-given _ _ _ _ c.in-Ok.ensures) (rw (to_z-of_z c.ranges.identifier) at c.named_part.ensures)

pub returns-in-Err : goal.returns-in-Err
unfolding section_part
returns-in-Err c = c.no_part.ensures ∙ rw (c.number.ensures, ← entered-not _ _ _ _ _ c.in-Err.ensures, ne_eqb _ 0 (number-positive c.in-Err.refusal))
