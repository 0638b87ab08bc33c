-- Bytes that fit are written at the start, and others leave the buffer as it is.
use Rattle.std.proofs.Common.{refl}
use Rattle.listing.proofs.Listings.{fit_count, fit-filled, left_alone}
use Rattle.listing.proofs.listing.hand_over.Goals as goal

pub returns-then-out-bytes : goal.returns-then-out-bytes
returns-then-out-bytes c = left_alone _ _ c.if-out-bytes.true

pub returns : goal.returns
returns c = rw (fit_count _ _ c.if-out-bytes.false, fit-filled _ _ c.if-out-bytes.false) (refl, c.put.ensures)
