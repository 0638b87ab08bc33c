-- The row of an entry that opened, or of one that is refused.
use Rattle.std.proofs.Common.{refl, sym, ap, ◌∙◌}
use borrow.Author.Tests.{ne_eqb}
use Rattle.outcome.proofs.Refusals.{number-positive}
use Rattle.entry.proofs.Entering.{entered-given, entered-not}
use Rattle.listing.specs.Listing.{row_of}
use Rattle.listing.proofs.Lines.{row_opened, row-refused}
use Rattle.listing.proofs.entries.row_at.Goals as goal

pub returns-in-Ok : goal.returns-in-Ok
returns-in-Ok c = c.opened_row.ensures ∙ sym (row_opened _ _ refl) ∙ ap (row_of c.args.number.0) (entered-given _ _ _ _ c.in-Ok.ensures)

pub returns-in-Err : goal.returns-in-Err
returns-in-Err c =
    c.refused_row.ensures
    ∙ rw (c.number.ensures) (sym (row-refused _ _ (ne_eqb _ 0 (number-positive c.in-Err.refusal))) ∙ ap (row_of c.args.number.0) (entered-not _ _ _ _ _ c.in-Err.ensures))
