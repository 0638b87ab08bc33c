-- What is written fits, by `room`.
use Rattle.std.proofs.Common.{◌≤◌, refl, arith, length}
use Rattle.listing.specs.Listing.{listing_of, over_limit}
use Rattle.listing.proofs.Listings.{fit_count, fit-filled, output-within, output-over}
use Rattle.listing.proofs.Room.{room}
use Rattle.listing.proofs.listing.list_input.Goals as goal

pub returns-then-input-gt-INPUT_MAX : goal.returns-then-input-gt-INPUT_MAX
unfolding over_limit
returns-then-input-gt-INPUT_MAX c = rw (output-over c.args.input.now c.if-input-gt-INPUT_MAX.true) (refl, c.put.ensures)

pub returns : goal.returns
returns c =
    let q = output-within c.args.input.now c.if-input-gt-INPUT_MAX.false in
    let listing = listing_of c.args.input.now in
    let fits : length listing ≤ length c.args.out.now = omega (arith, rw q at (room c.args.input.now)) in
    rw q (rw (fit_count listing c.args.out.now fits, fit-filled listing c.args.out.now fits) at c.list_file.ensures)
