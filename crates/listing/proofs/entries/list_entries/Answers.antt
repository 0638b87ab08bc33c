-- The listing is measured, and written where it fits.
use Rattle.std.proofs.Common.{◌≡◌, ℕ, ◌+◌, refl, ap, arith, length}
use Rattle.descriptor.specs.FirstRecord.{addresses_of}
use Rattle.listing.specs.Listing.{header, entries_listing}
use Rattle.listing.proofs.Lines.{rows_short}
use Rattle.listing.proofs.Listings.{handed-over, left_alone, length-entries}
use Rattle.listing.proofs.Laid.{laid_on}
use Rattle.listing.proofs.Areas.{entries-room}
use Rattle.listing.proofs.entries.list_entries.Goals as goal
use Rattle.listing.proofs.entries.list_entries.Goals.{After-rows_length-count}

-- what was measured is the length of the listing
measured : (c : After-rows_length-count) → 38 + c.rows_length-count.result ≡ length (entries_listing c.args.file.now c.args.d (addresses_of c.args.file.now c.args.d.nex))
measured c = omega (arith, length-entries c.args.file.now c.args.d (addresses_of c.args.file.now c.args.d.nex), c.rows_length-count.ensures)

pub overflow_add-count : goal.overflow_add-count
overflow_add-count c =
    let a = c.requires.0.admitted in
    omega (arith, rows_short c.args.file.now c.args.d (addresses_of c.args.file.now c.args.d.nex), c.rows_length-count.ensures, entries-room _ _ _ a, a.lent.high)

pub returns-then-out-count : goal.returns-then-out-count
returns-then-out-count c = left_alone _ _ (omega (arith, measured (goal.at.returns-then-out-count c).After-rows_length-count))

pub returns : goal.returns
unfolding header entries_listing
returns c =
    handed-over (entries_listing c.args.file.now c.args.d (addresses_of c.args.file.now c.args.d.nex)) c.args.out.now
    (omega (arith, measured (goal.at.returns c).After-rows_length-count))
    (laid_on _ _ header _ (refl, c.put.ensures) (ap (λ (n : ℕ). 38 + n) c.rows_length-count.ensures, c.put_rows.ensures))
