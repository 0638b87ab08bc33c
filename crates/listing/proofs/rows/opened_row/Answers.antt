-- The fields, one behind the other.
use Rattle.std.proofs.Common.{refl, append_assoc, append-nil}
use Rattle.listing.specs.Listing.{opened_row}
use Rattle.listing.proofs.rows.opened_row.Goals as goal

pub returns : goal.returns
unfolding opened_row
returns c =
    simp (c.push_field-6.ensures.text, c.push_field-5.ensures.text, c.push_field-4.ensures.text, c.push_field-3.ensures.text, c.push_field-2.ensures.text, c.push_field.ensures.text, c.new-line.ensures, append_assoc, append-nil) refl
