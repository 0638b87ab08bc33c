-- What the calls of `entry` answer: the case of an open with its tables.
use Rattle.std.specs.Prelude.{ℕ, cond, List, eqb, pos}
use Rattle.words.specs.Word.{integer8, signed_of}
use Rattle.geometry.specs.declared.units.RecordNumber.{RecordNumber}
use Rattle.geometry.specs.declared.units.EntryNumber.{EntryNumber}
use Rattle.descriptor.specs.declared.validating.Validated.{Validated}
use Rattle.descriptor.specs.declared.validating.Validated.TheVariants as validated
use Rattle.descriptor.specs.Answers.{validation_of}
use Rattle.pieces.specs.declared.contents.Piece.{Piece}
use Rattle.pieces.specs.Tables.{sections_of, no_sections}
use Rattle.entry.specs.Entered.{Entered}
use Rattle.entry.specs.declared.answers.DataPlace.{DataPlace}
use Rattle.entry.specs.declared.answers.Open.{Open}
use Rattle.entry.specs.declared.answers.Open.TheVariants.{Numbers, Refused}
use Rattle.entry.specs.declared.answers.OpenCase.{OpenCase}
use Rattle.entry.specs.declared.answers.Opened.{Opened}
use Rattle.entry.specs.Opening.{entered_of, not_entered}

-- entry e of a file: as validated numbers have it, or the file's own refusal
unfoldable pub entered_in : List ℕ → Validated → List RecordNumber → EntryNumber → Entered
entered_in file (validated.Refused n) addresses e = not_entered n
entered_in file (validated.Numbers d) addresses e = entered_of file d addresses e

-- adata and ldata, as stored
abbrev pub data_place_of : Piece → DataPlace
data_place_of p = record { adata = record { 0 = signed_of integer8 p.address.0 }; ldata = p.words }

-- a refused open: the number, and empty tables
abbrev pub not_opened : ℕ → Opened
not_opened n = record { answer = Refused n; sections = no_sections }

-- the answer: the opened entry's numbers with its tables, or the refusal with empty tables
unfoldable pub opened_as : List ℕ → Entered → Opened
opened_as file x =
    cond (eqb x.refusal 0)
    (record {
      answer = Numbers x.place x.version x.nsec x.nword (data_place_of x.array);
      sections = sections_of file x.start x.nsec;
    })
    (not_opened x.refusal)

-- the answer of an open of entry e, whatever the file is
unfoldable pub open_of : List ℕ → EntryNumber → Opened
open_of file e = opened_as file (entered_in file (validation_of file).numbers (validation_of file).addresses e)

-- 01's number and values for each case of an open: 0 and the numbers, or the refusal and zeros
abbrev pub open_case : Open → OpenCase
open_case (Numbers place version nsec nword array) = record {
  refusal = 0;
  place = place;
  version = version;
  nsec = nsec;
  nword = nword;
  array = array;
}
open_case (Refused n) = record {
  refusal = n;
  place = record { «record» = record { 0 = 0 }; word = record { 0 = 0 } };
  version = pos 0;
  nsec = 0;
  nword = 0;
  array = record { adata = record { 0 = pos 0 }; ldata = 0 };
}
