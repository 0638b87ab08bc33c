-- The word, and the refusal behind it.
use Rattle.std.proofs.Common.{refl}
use Rattle.listing.specs.Listing.{refused_file}
use Rattle.listing.proofs.rows.refused_file.Goals as goal

pub returns : goal.returns
unfolding refused_file
returns c = rw (c.push_refused.ensures, c.push_str.ensures.bytes, c.new-line.ensures) refl
