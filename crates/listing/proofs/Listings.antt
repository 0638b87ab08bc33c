-- Laws of a whole listing: its length, its cases, and what a lent buffer holds of it. Assumes nothing.
use Prim.Native.Nat.{ℕ, ◌+◌, ◌≤◌, ◌<◌}
use mathlib.Core.Path.{◌≡◌}
use mathlib.Core.List.{List}
use native.Mathlib.Omega.{arith}
use native.Mathlib.Nat.{zero-add}
use borrow.Author.Tests.{le-leb, lt-leb}
use lib.ListN.{length}
use Rattle.image.specs.Image.{splice}
use Rattle.geometry.specs.declared.units.RecordNumber.{RecordNumber}
use Rattle.descriptor.specs.declared.numbers.DescriptorNumbers.{DescriptorNumbers}
use Rattle.descriptor.specs.Answers.{validation_of, no_validation, Validates}
use Rattle.listing.specs.Text.{joined}
use Rattle.listing.specs.Buffer.{count_in, filled_by, HandsOver}
use Rattle.listing.specs.Listing.{header, refused_of, rows_of, refused_file, entries_listing, listing_in, listing_of, over_limit, output_of}
use Rattle.listing.proofs.Laid.{Laid}

-- bytes that fit a lent buffer
module _ (bytes out : List ℕ) (fits : length bytes ≤ length out) where
  -- all of them are counted
  pub fit_count : count_in bytes out ≡ length bytes
  unfolding count_in
  fit_count = rw (le-leb (length bytes) (length out) fits)

  -- and written at the start
  pub fit-filled : filled_by bytes out ≡ splice out 0 bytes
  unfolding filled_by
  fit-filled = rw (le-leb (length bytes) (length out) fits)

  -- so where they are written at the start they are handed over
  pub handed-over : {count : ℕ} {exit : List ℕ} → Laid out 0 bytes count exit → HandsOver bytes out count exit
  handed-over w = rw (fit_count, fit-filled) (rw zero-add at w)

-- and bytes that do not
pub left_alone : (bytes out : List ℕ) → length out < length bytes → HandsOver bytes out 0 out
unfolding count_in filled_by
left_alone bytes out long = let n = lt-leb (length bytes) (length out) long in (rw n, rw n)

-- the length of the listing of validated numbers
pub length-entries : (file : List ℕ) (d : DescriptorNumbers) (addresses : List RecordNumber)
    → length (entries_listing file d addresses) ≡ 38 + length (joined (rows_of file d addresses))
unfolding entries_listing header
length-entries file d addresses = omega arith

-- the length of the line of a refused file
pub length-refused-file : (n : ℕ) → length (refused_file n) ≡ 4 + length (refused_of n)
unfolding refused_file
length-refused-file n = omega arith

-- the listing of a file that is refused
pub listing-refused : (file : List ℕ) {n : ℕ} → validation_of file ≡ no_validation n → listing_of file ≡ refused_file n
unfolding listing_of listing_in
listing-refused file q = rw q

-- the listing of a file that is not
pub listing-numbers : (file : List ℕ) {d : DescriptorNumbers} {addresses : List RecordNumber} → Validates file d addresses → listing_of file ≡ entries_listing file d addresses
unfolding listing_of listing_in
listing-numbers file q = rw q

-- the output of an input within the limit is its listing
pub output-within : (input : List ℕ) → length input ≤ 65536 → output_of input ≡ listing_of input
unfolding output_of
output-within input h = rw (le-leb (length input) 65536 h)

-- a longer one is over the limit
pub output-over : (input : List ℕ) → 65536 < length input → output_of input ≡ over_limit
unfolding output_of
output-over input h = rw (lt-leb (length input) 65536 h)
