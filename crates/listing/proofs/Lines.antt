-- Laws of the rows: how long each is, and the list of them one row after the other. Assumes nothing.
use Prim.Native.Nat.{ℕ, zero, suc, ◌+◌, ◌-◌, ◌*◌, ◌≤◌, ◌<◌}
use mathlib.Core.Path.{◌≡◌, refl, ap, ◌∙◌}
use mathlib.Core.Bool.{false}
use mathlib.Core.List.{List, [], ◌++◌}
use native.Mathlib.Omega.{arith}
use lib.Dec.{eqb}
use lib.ListN.{length, length-append}
use Rattle.geometry.specs.declared.units.RecordNumber.{RecordNumber}
use Rattle.geometry.specs.Units.{entries_before}
use Rattle.descriptor.specs.declared.numbers.DescriptorNumbers.{DescriptorNumbers}
use Rattle.descriptor.specs.FirstRecord.{addresses_of}
use Rattle.entry.specs.Entered.{Entered}
use Rattle.entry.specs.Opening.{entered_of}
use Rattle.listing.specs.Text.{space, newline, decimal_of, field_of, joined}
use Rattle.listing.specs.Listing.{refused_of, opened_row, refused_row, row_of, rows_from, rows_of}
use Rattle.listing.proofs.Decimal.{either-length, length-decimal, field-short}

-- the length of a refusal, piece by piece
pub length-refused : (n : ℕ) → length (refused_of n) ≡ 9 + length (field_of n newline)
unfolding refused_of
length-refused n = omega arith

-- of the row of an entry that opens
pub length-opened : (e : ℕ) (x : Entered) → length (opened_row e x)
    ≡ length (field_of e space) + (length (field_of x.place.«record».0 space) + (length (field_of x.place.word.0 space)
    + (length (field_of x.nword space) + (length (field_of x.nsec space) + length (field_of x.array.words newline)))))
unfolding opened_row
length-opened e x = simp length-append (omega arith)

-- of the row of one that does not
pub length-refused-row : (e n : ℕ) → length (refused_row e n) ≡ length (decimal_of e) + length (refused_of n)
unfolding refused_row
length-refused-row e n = length-append (decimal_of e) (refused_of n)

-- an entry that opens has the one row
pub row_opened : (e : ℕ) (x : Entered) → x.refusal ≡ 0 → row_of e x ≡ opened_row e x
unfolding row_of
row_opened e x z = rw z

-- an entry that is refused has the other
pub row-refused : (e : ℕ) (x : Entered) → eqb x.refusal 0 ≡ false → row_of e x ≡ refused_row e x.refusal
unfolding row_of
row-refused e x h = rw h

-- a row has 126 bytes at most
pub row-short : (e : ℕ) (x : Entered) → length (row_of e x) ≤ 126
unfolding row_of
row-short e x =
    either-length (eqb x.refusal 0) (opened_row e x) (refused_row e x.refusal) 126
    (omega (
      arith,
      length-opened e x,
      field-short e space,
      field-short x.place.«record».0 space,
      field-short x.place.word.0 space,
      field-short x.nword space,
      field-short x.nsec space,
      field-short x.array.words newline,
    ))
    (omega (arith, length-refused-row e x.refusal, length-refused x.refusal, length-decimal e, field-short x.refusal newline))

-- the rows, one after the other
module _ (file : List ℕ) (d : DescriptorNumbers) (addresses : List RecordNumber) where
  -- the rows from entry k on, end to end
  abbrev pub rest : ℕ → ℕ → List ℕ
  rest k left = joined (rows_from file d addresses k left)

  -- those of n entries from entry `number` on
  abbrev pub rest_up_to : ℕ → ℕ → List ℕ
  rest_up_to n number = rest number (n + 1 - number)

  -- they are the next row, and those behind it
  pub rest-next : (n number : ℕ) (row : List ℕ) → number ≤ n → row ≡ row_of number (entered_of file d addresses (record { 0 = number }))
      → rest_up_to n number ≡ row ++ rest_up_to n (number + 1)
  unfolding rows_from
  rest-next n number row h q = let p : n + 1 - number ≡ suc (n + 1 - (number + 1)) = omega arith in rw (p, q) refl

  -- one row more of their length
  pub length-next : (n number : ℕ) (row : List ℕ) → number ≤ n → row ≡ row_of number (entered_of file d addresses (record { 0 = number }))
      → length (rest_up_to n number) ≡ length row + length (rest_up_to n (number + 1))
  length-next n number row h q = ap length (rest-next n number row h q) ∙ length-append row (rest_up_to n (number + 1))

  -- behind the last there are none
  pub rest-none : (n number : ℕ) → n < number → rest_up_to n number ≡ []
  unfolding rows_from
  rest-none n number h = let p : n + 1 - number ≡ 0 = omega arith in rw p refl

  -- from the first on they are all
  pub rest-all : (n : ℕ) → n ≡ entries_before d.xnext → rest_up_to n 1 ≡ joined (rows_of file d addresses)
  rest-all n e = let p : n + 1 - 1 ≡ entries_before d.xnext = omega arith in rw p refl

  -- where no row is longer than most
  pub length_rest : (most k left : ℕ) → ((i : ℕ) → k ≤ i → i < k + left → length (row_of i (entered_of file d addresses (record { 0 = i }))) ≤ most)
      → length (rest k left) ≤ most * left
  unfolding rows_from
  length_rest most k zero h = omega arith
  length_rest most k (suc left) h =
      rw length-append (omega (arith, h k (omega arith) (omega arith), length_rest most (k + 1) left (λ i l m. h i (omega arith) (omega arith))))

  -- all rows together
  pub rows_short : length (joined (rows_of file d addresses)) ≤ 126 * entries_before d.xnext
  rows_short = length_rest 126 1 (entries_before d.xnext) (λ i l m. row-short i (entered_of file d addresses (record { 0 = i })))

  -- as many rows as entries
  count-from : (k left : ℕ) → length (rows_from file d addresses k left) ≡ left
  unfolding rows_from
  count-from k zero = refl
  count-from k (suc left) = ap suc (count-from (k + 1) left)

  -- there is a row for each entry
  pub rows-count : length (rows_of file d addresses) ≡ entries_before d.xnext
  rows-count = count-from 1 (entries_before d.xnext)

-- the rows of n entries from an entry on, by the addresses that the file has
abbrev pub rest_of : List ℕ → DescriptorNumbers → ℕ → ℕ → List ℕ
rest_of file d = rest_up_to file d (addresses_of file d.nex)
