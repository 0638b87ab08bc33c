-- The entry's number, and the refusal behind it.
use Rattle.std.proofs.Common.{refl}
use Rattle.listing.specs.Listing.{refused_row}
use Rattle.listing.proofs.rows.refused_row.Goals as goal

pub returns : goal.returns
unfolding refused_row
returns c = rw (c.push_refused.ensures, c.push_decimal.ensures.text, c.new-line.ensures) refl
