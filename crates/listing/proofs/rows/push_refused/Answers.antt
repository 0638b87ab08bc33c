-- The word, and the number behind it.
use Rattle.std.proofs.Common.{refl, append_assoc}
use Rattle.listing.specs.Listing.{refused_of}
use Rattle.listing.proofs.rows.push_refused.Goals as goal

pub returns : goal.returns
unfolding refused_of
returns c = rw (c.push_field.ensures.text, c.from.ensures, c.push_str.ensures.bytes, append_assoc) refl
