-- Opening an entry by its number: where its index and the entry stand, and the rules 12 to 19 as tables in the order of 01.
use Rattle.std.specs.Prelude.{ℕ, ◌+◌, cond, List, [], ◌∷◌, ◌++◌, leb, eqb, pos}
use Rattle.words.specs.Word.{integer4, integer8, bits_at, signed_of}
use Rattle.words.specs.Range.{within, at_least}
use Rattle.words.specs.Code.{same_numbers}
use Rattle.geometry.specs.declared.units.RecordNumber.{RecordNumber}
use Rattle.geometry.specs.declared.units.EntryNumber.{EntryNumber}
use Rattle.geometry.specs.declared.units.Place.{Place}
use Rattle.geometry.specs.Units.{position_of, offset_of, entries_before}
use Rattle.geometry.specs.Area.{slot_of}
use Rattle.layout.specs.FileCode.{byte_order_of}
use Rattle.layout.specs.EntryWords.{head_words, descriptor_words, sections_max, entry_code}
use Rattle.descriptor.specs.declared.numbers.DescriptorNumbers.{DescriptorNumbers}
use Rattle.descriptor.specs.Refusal.{Rule, row, refusal_in}
use Rattle.descriptor.specs.FirstRecord.{aex_of, growth_in, free_of}
use Rattle.pieces.specs.declared.contents.Piece.{Piece}
use Rattle.pieces.specs.EntryDescriptor.{entry_code_of, version_of, nsec_of, nword_of, xnum_of, data_of}
use Rattle.pieces.specs.Contents.{data_within, sections_within, sections_apart, data_apart}
use Rattle.entry.specs.declared.entered.Entered.{Entered as Numbers}
use Rattle.entry.specs.Entered.{Entered, given}

-- where the index of entry e stands: its slot in its extension's area
unfoldable pub slot_position_of : DescriptorNumbers → List RecordNumber → EntryNumber → ℕ
slot_position_of d addresses e =
    let s = slot_of (growth_in d) d.nex d.lind e in
    position_of d.reclen (aex_of addresses s.extension.0) (record { 0 = 1 }) + s.offset

-- its first three words: the record (Integer*8) and the word (Integer*4) where the entry starts, as stored in the file's order
unfoldable pub place_stored : List ℕ → ℕ → Place
place_stored file slot = record {
  «record» = record { 0 = bits_at (byte_order_of file) integer8 file (offset_of slot) };
  word = record { 0 = bits_at (byte_order_of file) integer4 file (offset_of (slot + 2)) };
}

-- the position where it starts
abbrev pub start_of : DescriptorNumbers → Place → ℕ
start_of d place = position_of d.reclen place.«record» place.word

-- rule 12: the number asked for
abbrev pub number_rules : DescriptorNumbers → EntryNumber → List Rule
number_rules d e =
    row 12 (leb 1 e.0) ∷
    row 12 (leb e.0 (entries_before d.xnext)) ∷
    []

-- rule 13: where the entry starts
abbrev pub start_rules : DescriptorNumbers → Place → List Rule
start_rules d place =
    row 13 (at_least 2 (signed_of integer8 place.«record».0)) ∷
    row 13 (within 1 d.reclen (signed_of integer4 place.word.0)) ∷
    row 13 (leb (start_of d place + head_words) (free_of d)) ∷
    []

-- rules 14 to 16: the entry descriptor
abbrev pub head_rules : List ℕ → DescriptorNumbers → ℕ → EntryNumber → List Rule
head_rules file d start e =
    row 14 (same_numbers (entry_code_of file start) entry_code) ∷
    row 15 (within 0 sections_max (signed_of integer4 (nsec_of file start))) ∷
    row 15 (at_least (descriptor_words (nsec_of file start)) (signed_of integer8 (nword_of file start))) ∷
    row 15 (leb (start + nword_of file start) (free_of d)) ∷
    row 16 (eqb (xnum_of file start) e.0) ∷
    []

-- rules 17 to 19: the sections and the data
abbrev pub content_rules : List ℕ → ℕ → ℕ → ℕ → Piece → List Rule
content_rules file start nsec nword array =
    row 17 (at_least 0 (signed_of integer8 array.words)) ∷
    row 17 (data_within nsec nword array) ∷
    row 18 (sections_within file start nsec nword nsec) ∷
    row 19 (sections_apart file start nsec nsec) ∷
    row 19 (data_apart file start nsec array) ∷
    []

-- the refusal of the start: 13, or 0 where it holds
unfoldable pub start_refusal : DescriptorNumbers → Place → ℕ
start_refusal d place = refusal_in (start_rules d place)

-- the refusal of the entry descriptor: the first of 14 to 16 that is broken, or 0
unfoldable pub head_refusal : List ℕ → DescriptorNumbers → ℕ → EntryNumber → ℕ
head_refusal file d start e = refusal_in (head_rules file d start e)

-- the refusal of what the entry holds: the first of 17 to 19 that is broken, or 0
unfoldable pub content_refusal : List ℕ → ℕ → ℕ → ℕ → Piece → ℕ
content_refusal file start nsec nword array = refusal_in (content_rules file start nsec nword array)

-- the whole table of an entry that starts at a place
abbrev pub entry_rules : List ℕ → DescriptorNumbers → EntryNumber → Place → List Rule
entry_rules file d e place =
    let start = start_of d place in
    number_rules d e ++
    (start_rules d place ++ (head_rules file d start e ++ content_rules file start (nsec_of file start) (nword_of file start) (data_of file start)))

-- its refusal, for the place that the entry's slot names: the first of 12 to 19 that is broken, or 0
unfoldable pub entry_refusal : List ℕ → DescriptorNumbers → List RecordNumber → EntryNumber → ℕ
entry_refusal file d addresses e = refusal_in (entry_rules file d e (place_stored file (slot_position_of d addresses e)))

-- an entry that is refused: the number, and zeros
abbrev pub not_entered : ℕ → Entered
not_entered n = record {
  refusal = n;
  place = record { «record» = record { 0 = 0 }; word = record { 0 = 0 } };
  start = 0;
  version = pos 0;
  nsec = 0;
  nword = 0;
  array = record { address = record { 0 = 0 }; words = 0 };
}

-- the numbers of the entry that starts at a place
abbrev pub numbers_at : List ℕ → DescriptorNumbers → Place → Numbers
numbers_at file d place = record {
  place = place;
  start = start_of d place;
  version = version_of file (start_of d place);
  nsec = nsec_of file (start_of d place);
  nword = nword_of file (start_of d place);
  array = data_of file (start_of d place);
}

-- and those of entry e, which starts at the place that its slot names
abbrev pub numbers_of : List ℕ → DescriptorNumbers → List RecordNumber → EntryNumber → Numbers
numbers_of file d addresses e = numbers_at file d (place_stored file (slot_position_of d addresses e))

-- an entry that is given, with the numbers of the one that starts at a place
abbrev pub entered_at : List ℕ → DescriptorNumbers → Place → Entered
entered_at file d place = given (numbers_at file d place)

-- entry e of validated numbers: its numbers, or the refusal
unfoldable pub entered_of : List ℕ → DescriptorNumbers → List RecordNumber → EntryNumber → Entered
entered_of file d addresses e =
    let n = entry_refusal file d addresses e in
    cond (eqb n 0) (entered_at file d (place_stored file (slot_position_of d addresses e))) (not_entered n)

-- the position behind an entry
abbrev pub end_of : Entered → ℕ
end_of x = x.start + x.nword
