-- The contents of a file, as a reader finds them who goes through the entry numbers, opens each entry, and takes its index words, its sections by its tables, and its data.
use Rattle.std.specs.Prelude.{ℕ, zero, suc, ◌-◌, ◌≡◌, cond, List, [], ◌∷◌, ◌++◌, eqb, ℤ, pos, get_or}
use Rattle.image.specs.Image.{part}
use Rattle.geometry.specs.declared.units.EntryNumber.{EntryNumber}
use Rattle.geometry.specs.Units.{position_of, offset_of, entries_before}
use Rattle.descriptor.specs.declared.numbers.DescriptorNumbers.{DescriptorNumbers}
use Rattle.descriptor.specs.Answers.{validation_of, validated_case}
use Rattle.pieces.specs.declared.contents.Piece.{Piece}
use Rattle.pieces.specs.Tables.{same_integer}
use Rattle.entry.specs.declared.answers.OpenCase.{OpenCase}
use Rattle.entry.specs.Opening.{slot_position_of}
use Rattle.entry.specs.Answers.{open_of, open_case}
use Rattle.handing.specs.Parts.{piece_from, bytes_of, index_words_of, section_words_of, data_words_of}

-- the numbers of a file as validating gives them, zeros for a refused file
abbrev pub numbers_in : List ℕ → DescriptorNumbers
numbers_in file = (validated_case (validation_of file).numbers).numbers

-- how many entries it has
abbrev pub entries_of : List ℕ → ℕ
entries_of file = entries_before (numbers_in file).xnext

-- the numbers of entry e as opening gives them, zeros for a refused entry
abbrev pub opened_in : List ℕ → EntryNumber → OpenCase
opened_in file e = open_case (open_of file e).answer

-- the position where it starts
abbrev pub start_in : List ℕ → EntryNumber → ℕ
start_in file e = position_of (numbers_in file).reclen (opened_in file e).place.«record» (opened_in file e).place.word

-- f 1, f 2, .., f n
abbrev pub in_order : {A : Type 0} → (ℕ → A) → ℕ → List A
in_order f zero = []
in_order f (suc n) = in_order f n ++ (f (suc n) ∷ [])

-- ---- what an entry holds

-- a section: its identifier and its bytes
pub record Section : Type 0 where
  pub identifier : ℤ
  pub bytes : List ℕ

-- its version, its application index words, its sections in order, and its data
pub record Content : Type 0 where
  pub version : ℤ
  pub index : List ℕ
  pub sections : List Section
  pub values : List ℕ

-- place k of an opened entry's tables, counted from 1: where the section stands in the entry, and how long it is
abbrev pub piece_at : List ℕ → EntryNumber → ℕ → Piece
piece_at file e k = record {
  address = get_or (open_of file e).sections.addresses (k - 1) (record { 0 = 0 });
  words = get_or (open_of file e).sections.lengths (k - 1) 0;
}

-- the section there: its identifier, and the bytes at its address and length
unfoldable pub section_read : List ℕ → EntryNumber → ℕ → Section
section_read file e k = record {
  identifier = get_or (open_of file e).sections.identifiers (k - 1) (pos 0);
  bytes = bytes_of file (piece_from (start_in file e) (piece_at file e k));
}

-- the content of entry e
unfoldable pub content_read : List ℕ → EntryNumber → Content
content_read file e = record {
  version = (opened_in file e).version;
  index = bytes_of file (index_words_of file e);
  sections = in_order (section_read file e) (opened_in file e).nsec;
  values = bytes_of file (data_words_of file e);
}

-- ---- what a file holds

-- what can be found under a number: an entry that opens, or a refusal
pub data Reading : Type 0 where
  holds : Content → Reading
  refused : ℕ → Reading

-- what a reader finds under a number
unfoldable pub reading_of : List ℕ → EntryNumber → Reading
reading_of file e = cond (eqb (opened_in file e).refusal 0) (holds (content_read file e)) (refused (opened_in file e).refusal)

-- what is found under the numbers 1 to xnext - 1
unfoldable pub contents : List ℕ → List Reading
contents file = in_order (λ k. reading_of file (record { 0 = k })) (entries_of file)

-- ---- a section by its identifier

-- a search for a section: its bytes, or none
pub data Search : Type 0 where
  found : List ℕ → Search
  missing : Search

-- the first of the sections that has the identifier
abbrev pub first_with : ℤ → List Section → Search
first_with z [] = missing
first_with z (s ∷ sections) = cond (same_integer s.identifier z) (found s.bytes) (first_with z sections)

-- what the call `section` finds
abbrev pub section_found : List ℕ → EntryNumber → ℤ → Search
section_found file e z =
    let p = section_words_of file e z in
    cond (eqb p.refusal 0) (found (bytes_of file p)) missing

-- ---- where an entry stands

-- the position of its slot
abbrev pub slot_in : List ℕ → EntryNumber → ℕ
slot_in file e = slot_position_of (numbers_in file) (validation_of file).addresses e

-- the bytes of its slot
unfoldable pub slot_bytes : List ℕ → EntryNumber → List ℕ
slot_bytes file e = part file (offset_of (slot_in file e)) (offset_of (numbers_in file).lind)

-- and of all its words
unfoldable pub entry_bytes : List ℕ → EntryNumber → List ℕ
entry_bytes file e = part file (offset_of (start_in file e)) (offset_of (opened_in file e).nword)

-- an entry stands in one file as it does in another: its open answers the same, it, its sections and its slot stand where they stood, and its slot has the same bytes
pub record InPlace (before after : List ℕ) (e : EntryNumber) : Type 0 where
  pub opened : open_of after e ≡ open_of before e
  pub started : start_in after e ≡ start_in before e
  pub placed : (z : ℤ) → section_words_of after e z ≡ section_words_of before e z
  pub slotted : slot_in after e ≡ slot_in before e
  pub slot : slot_bytes after e ≡ slot_bytes before e

-- and is as it is in the other: all its words have the same bytes too
pub record Unchanged (before after : List ℕ) (e : EntryNumber) : Type 0 where
  pub place : InPlace before after e
  pub words : entry_bytes after e ≡ entry_bytes before e
