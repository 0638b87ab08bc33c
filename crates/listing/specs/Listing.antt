-- The listing of a file, and what the listing program prints (01, "Examples worked by hand").
use Rattle.std.specs.Prelude.{ℕ, zero, suc, ◌+◌, cond, List, [], ◌∷◌, ◌++◌, length, leb, eqb}
use Rattle.outcome.specs.Outcome.{AnswersAndLeaves}
use Rattle.image.specs.Image.{splice}
use Rattle.geometry.specs.declared.units.RecordNumber.{RecordNumber}
use Rattle.geometry.specs.Units.{entries_before}
use Rattle.descriptor.specs.declared.numbers.DescriptorNumbers.{DescriptorNumbers}
use Rattle.descriptor.specs.declared.validating.Validated.{Validated}
use Rattle.descriptor.specs.declared.validating.Validated.TheVariants.{Numbers, Refused}
use Rattle.descriptor.specs.Answers.{validation_of}
use Rattle.entry.specs.Entered.{Entered}
use Rattle.entry.specs.Opening.{entered_of}
use Rattle.listing.specs.Buffer.{HandsOver}
use Rattle.listing.specs.Text.{text, space, newline, decimal_of, field_of, joined}

-- the header: a name for each field
unfoldable pub header : List ℕ
header = text "entry record word words sections data\n"

-- the end of a line that tells a refusal
unfoldable pub refused_of : ℕ → List ℕ
refused_of n = text " refused " ++ field_of n newline

-- the row of entry e that opened: its number, starting record and word, nword, nsec, ldata
unfoldable pub opened_row : ℕ → Entered → List ℕ
opened_row e x =
    joined (
    field_of e space ∷
    field_of x.place.«record».0 space ∷
    field_of x.place.word.0 space ∷
    field_of x.nword space ∷
    field_of x.nsec space ∷
    field_of x.array.words newline ∷
    [])

-- the row of entry e that open refuses: its number, `refused` and the refusal
unfoldable pub refused_row : ℕ → ℕ → List ℕ
refused_row e n = decimal_of e ++ refused_of n

-- the row of entry e, as it opened or not
unfoldable pub row_of : ℕ → Entered → List ℕ
row_of e x = cond (eqb x.refusal 0) (opened_row e x) (refused_row e x.refusal)

-- the rows from entry k on, of as many entries as are left
unfoldable pub rows_from : List ℕ → DescriptorNumbers → List RecordNumber → ℕ → ℕ → List (List ℕ)
rows_from file d addresses k zero = []
rows_from file d addresses k (suc left) = row_of k (entered_of file d addresses (record { 0 = k })) ∷ rows_from file d addresses (k + 1) left

-- the rows of entries 1 to n, n being xnext - 1
abbrev pub rows_of : List ℕ → DescriptorNumbers → List RecordNumber → List (List ℕ)
rows_of file d addresses = rows_from file d addresses 1 (entries_before d.xnext)

-- a refused file has one line: `file refused` and the number
unfoldable pub refused_file : ℕ → List ℕ
refused_file n = text "file" ++ refused_of n

-- validated numbers have the header, also with no entries, and the rows
unfoldable pub entries_listing : List ℕ → DescriptorNumbers → List RecordNumber → List ℕ
entries_listing file d addresses = header ++ joined (rows_of file d addresses)

-- the listing by the validation's case: a refused file has a line of its own
unfoldable pub listing_in : List ℕ → Validated → List RecordNumber → List ℕ
listing_in file (Refused n) addresses = refused_file n
listing_in file (Numbers d) addresses = entries_listing file d addresses

-- the listing of a file
unfoldable pub listing_of : List ℕ → List ℕ
listing_of file = listing_in file (validation_of file).numbers (validation_of file).addresses

-- what is said of an input over the limit
unfoldable pub over_limit : List ℕ
over_limit = text "input over 65536 bytes\n"

-- what the program prints of its input
unfoldable pub output_of : List ℕ → List ℕ
output_of input = cond (leb (length input) 65536) (listing_of input) over_limit

-- what `list_file` promises: the listing in the lent buffer, where it fits
abbrev pub Lists : List ℕ → List ℕ → ℕ → List ℕ → Type 0
Lists file out answer after = HandsOver (listing_of file) out answer after

-- and `list_input`, whose buffer holds what is printed of any input
abbrev pub Prints : List ℕ → List ℕ → ℕ → List ℕ → Type 0
Prints input out answer after = AnswersAndLeaves (length (output_of input)) (splice out 0 (output_of input)) answer after
