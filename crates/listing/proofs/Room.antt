-- How long an output can be: what the program prints of any input fits 196,608 bytes. Assumes nothing.
use Prim.Native.Nat.{ℕ, ◌-◌, ◌^◌, ◌≤◌, ◌<◌}
use mathlib.Core.Path.{◌≡◌, refl, sym, ap, ◌∙◌}
use mathlib.Core.Bool.{true}
use mathlib.Core.List.{List}
use native.Mathlib.Omega.{arith}
use native.Mathlib.Nat.{mul-le-mul_left, lt_of_not-le}
use native.Mathlib.Decide.{dec_le}
use borrow.Author.Tests.{eqb-true, eqb-false}
use lib.Dec.{eqb}
use lib.ListN.{length, take}
use lib.Seq.{length-take-le}
use Rattle.outcome.proofs.Either.{either}
use Rattle.image.specs.Image.{splice}
use Rattle.image.proofs.Splice.{length-splice}
use Rattle.geometry.specs.declared.units.RecordNumber.{RecordNumber}
use Rattle.geometry.specs.declared.units.EntryNumber.{EntryNumber}
use Rattle.geometry.specs.Units.{position_of, entries_before}
use Rattle.descriptor.specs.declared.numbers.DescriptorNumbers.{DescriptorNumbers}
use Rattle.descriptor.specs.declared.validating.Validated.{Validated}
use Rattle.descriptor.specs.declared.validating.Validated.TheVariants.{Numbers, Refused}
use Rattle.descriptor.specs.FirstRecord.{free_of}
use Rattle.descriptor.specs.Answers.{validation_of}
use Rattle.descriptor.specs.Bounds.{Admitted}
use Rattle.descriptor.proofs.Answered.{told}
use Rattle.pieces.specs.declared.contents.Piece.{Piece}
use Rattle.pieces.specs.Contents.{data_within}
use Rattle.pieces.proofs.Pieces.{data-placed}
use Rattle.entry.specs.Opening.{slot_position_of, place_stored, entry_refusal, entered_at, entered_of}
use Rattle.entry.proofs.Entering.{entry-opens, entered-numbers, entered-refusal}
use Rattle.listing.specs.Text.{space, newline}
use Rattle.listing.specs.Listing.{opened_row, row_of, listing_in, listing_of, over_limit, output_of}
use Rattle.listing.proofs.Areas.{most-entries}
use Rattle.listing.proofs.Decimal.{length-small, field-short, field-small}
use Rattle.listing.proofs.Lines.{length-refused, length-opened, length-refused-row, row_opened, row-refused, length_rest}
use Rattle.listing.proofs.Listings.{length-entries, length-refused-file, output-within, output-over}

-- data that lies within an entry has no more words than the entry
data-words : (nsec nword : ℕ) (p : Piece) → nword < 2 ^ 32 → data_within nsec nword p ≡ true → p.words ≤ nword
data-words nsec nword p h e =
    either (eqb p.words 0) (λ t. omega (arith, eqb-true p.words 0 t)) (λ t. omega (arith, data-placed nsec nword p h (eqb-false p.words 0 t) e))

-- the rows of a file within the limit
module _ (file : List ℕ) (d : DescriptorNumbers) (addresses : List RecordNumber) (a : Admitted (length file) d addresses)
    (short : length file ≤ 65536) where
  -- a field of an entry that opens has 6 bytes at most
  opened-small : (e : EntryNumber) → e.0 ≤ 5456 → entry_refusal file d addresses e ≡ 0
      → length (opened_row e.0 (entered_of file d addresses e)) ≤ 36
  unfolding position_of
  opened-small e h z =
      let o = entry-opens file d addresses e a z in
      let place = place_stored file (slot_position_of d addresses e) in
      let x = entered_at file d place in
      let some : 1 ≤ d.reclen = omega (arith, a.settled.reclen-low) in
      let free : free_of d ≤ 16384 = omega (arith, a.room) in
      let nword : x.nword ≤ 16384 = omega (arith, o.ends) in
      let number = field-small e.0 space (omega arith) in
      let first = field-small x.place.«record».0 space (omega (arith, o.ends, mul-le-mul_left (x.place.«record».0 - 1) some)) in
      let word = field-small x.place.word.0 space (omega (arith, o.word-high, a.settled.reclen-high)) in
      let words = field-small x.nword space (omega arith) in
      let sections = field-small x.nsec space (omega (arith, o.described.sections)) in
      let ldata = data-words x.nsec x.nword x.array (omega arith) o.data-within in
      let array = field-small x.array.words newline (omega arith) in
      rw (entered-numbers file d addresses e z) (omega (arith, length-opened e.0 x))

  -- and a row has 36
  row_small : (e : ℕ) → e ≤ 5456 → length (row_of e (entered_of file d addresses (record { 0 = e }))) ≤ 36
  row_small e h =
      let x = entered_of file d addresses (record { 0 = e }) in
      either (eqb x.refusal 0)
      (λ t.
      let z = eqb-true x.refusal 0 t in
      rw (row_opened e x z) (opened-small (record { 0 = e }) h (sym (entered-refusal file d addresses (record { 0 = e })) ∙ z)))
      (λ t.
      let n = x.refusal in
      rw (row-refused e x t) (omega (arith, length-refused-row e n, length-refused n, length-small e (omega arith), field-short n newline)))

-- the listing of a file within the limit, by the validation's case
case-short : (file : List ℕ) (case : Validated) (addresses : List RecordNumber)
    → ((d : DescriptorNumbers) → case ≡ Numbers d → Admitted (length file) d addresses)
    → length file ≤ 65536 → length (listing_in file case addresses) ≤ 196608
unfolding listing_in
case-short file (Refused n) addresses f h = omega (arith, length-refused-file n, length-refused n, field-short n newline)
case-short file (Numbers d) addresses f h =
    let a = f d refl in
    let few = most-entries (length file) d addresses a h in
    let rows = length_rest file d addresses 36 1 (entries_before d.xnext) (λ i l m. row_small file d addresses a h i (omega arith)) in
    omega (arith, length-entries file d addresses)

-- the output of any input fits 196,608 bytes
pub room : (input : List ℕ) → length (output_of input) ≤ 196608
unfolding over_limit listing_of
room input =
    let v = validation_of input in
    elim (dec_le (length input) 65536) [
      | yes g ↦ rw (output-within input g) (case-short input v.numbers v.addresses (λ d q. (told input v d refl q).admitted.admitted) g)
      | no g ↦ rw (output-over input (lt_of_not-le g)) (omega arith)
    ]

-- so a buffer of that length holds as many bytes as `list_input` answers
pub counted : (input out exit : List ℕ) (n : ℕ) → length out ≡ 196608 → n ≡ length (output_of input) → exit ≡ splice out 0 (output_of input)
    → (n ≤ length exit) × (n ≡ length (take n exit))
counted input out exit n whole e x =
    let same : length exit ≡ 196608 = ap length x ∙ length-splice out 0 (output_of input) ∙ whole in
    let fits : n ≤ length exit = omega (arith, room input) in
    (fits, sym (length-take-le n exit fits))
