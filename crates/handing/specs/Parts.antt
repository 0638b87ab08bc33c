-- The parts of an entry that are handed out: its index words, a section, its data.
use Rattle.std.specs.Prelude.{ℕ, ◌+◌, ◌-◌, ◌≡◌, cond, List, eqb, ltb, ℤ}
use Rattle.std.specs.Borrow.{Bor}
use Rattle.image.specs.Image.{part}
use Rattle.geometry.specs.declared.units.RecordNumber.{RecordNumber}
use Rattle.geometry.specs.declared.units.EntryNumber.{EntryNumber}
use Rattle.geometry.specs.Units.{offset_of, entry_position_of}
use Rattle.descriptor.specs.declared.numbers.DescriptorNumbers.{DescriptorNumbers}
use Rattle.descriptor.specs.declared.validating.Validated.{Validated}
use Rattle.descriptor.specs.declared.validating.Validated.TheVariants as validated
use Rattle.descriptor.specs.Answers.{validation_of}
use Rattle.pieces.specs.declared.contents.Piece.{Piece}
use Rattle.pieces.specs.EntryDescriptor.{section_of}
use Rattle.pieces.specs.Tables.{section_named}
use Rattle.entry.specs.Entered.{Entered}
use Rattle.entry.specs.Opening.{slot_position_of, entered_of}
use Rattle.handing.specs.declared.place.PartPlace.{PartPlace}

-- a part is known by its refusal and by where it starts and ends, in bytes. A refused one is empty
abbrev pub no_part : ℕ → PartPlace
no_part n = record { refusal = n; start = 0; end = 0 }

-- words from a position on
abbrev pub words_from : ℕ → ℕ → PartPlace
words_from position words = record { refusal = 0; start = offset_of position; end = offset_of position + offset_of words }

-- a piece of the entry
abbrev pub piece_from : ℕ → Piece → PartPlace
piece_from start p = words_from (entry_position_of start p.address) p.words

-- the application's index words: the slot's words after the first three
unfoldable pub index_part : List ℕ → DescriptorNumbers → List RecordNumber → EntryNumber → PartPlace
index_part file d addresses e =
    let x = entered_of file d addresses e in
    cond (eqb x.refusal 0) (words_from (slot_position_of d addresses e + 3) (d.lind - 3)) (no_part x.refusal)

-- the first section with an identifier, of what was entered; 20 where there is none
abbrev pub section_in : List ℕ → Entered → ℤ → PartPlace
section_in file x identifier =
    let i = section_named file x.start identifier 0 x.nsec in
    cond (eqb x.refusal 0)
    (cond (ltb i x.nsec) (piece_from x.start (section_of file x.start x.nsec i)) (no_part 20))
    (no_part x.refusal)

-- the same of an entry by its number
unfoldable pub section_part : List ℕ → DescriptorNumbers → List RecordNumber → EntryNumber → ℤ → PartPlace
section_part file d addresses e identifier = section_in file (entered_of file d addresses e) identifier

-- the data; an entry with none gives the empty part at the file's start
unfoldable pub data_part : List ℕ → DescriptorNumbers → List RecordNumber → EntryNumber → PartPlace
data_part file d addresses e =
    let x = entered_of file d addresses e in
    cond (eqb x.refusal 0) (cond (eqb x.array.words 0) (no_part 0) (piece_from x.start x.array)) (no_part x.refusal)

-- a part of a file: the file's own refusal comes first
unfoldable pub part_in : Validated → (DescriptorNumbers → PartPlace) → PartPlace
part_in (validated.Refused n) f = no_part n
part_in (validated.Numbers d) f = f d

-- p is a part that a search finds by the numbers of a file and some totals, or the file's own refusal
abbrev pub PartBy : (DescriptorNumbers → Bor (List ℕ) → PartPlace → Type 0) → Validated → PartPlace → Type 0
PartBy Finds (validated.Refused n) p = p ≡ no_part n
PartBy Finds (validated.Numbers d) p = (totals : Bor (List ℕ)) × Finds d totals p

-- where the index words of entry e of a file stand
abbrev pub index_words_of : List ℕ → EntryNumber → PartPlace
index_words_of file e = part_in (validation_of file).numbers (λ d. index_part file d (validation_of file).addresses e)

-- where its first section with an identifier stands
abbrev pub section_words_of : List ℕ → EntryNumber → ℤ → PartPlace
section_words_of file e identifier = part_in (validation_of file).numbers (λ d. section_part file d (validation_of file).addresses e identifier)

-- where its data stands
abbrev pub data_words_of : List ℕ → EntryNumber → PartPlace
data_words_of file e = part_in (validation_of file).numbers (λ d. data_part file d (validation_of file).addresses e)

-- the bytes of a part
abbrev pub bytes_of : List ℕ → PartPlace → List ℕ
bytes_of file p = part file p.start (p.end - p.start)

-- r is the very part of the lent slice that a place names: its bytes, and where it points
pub record IsPart (file : Bor (List ℕ)) (p : PartPlace) (r : Bor (List ℕ)) : Type 0 where
  pub bytes : r.now ≡ bytes_of file.now p
  pub pointer : r.ref_ptr ≡ (file.ref_ptr.0, p.start + file.ref_ptr.1)
