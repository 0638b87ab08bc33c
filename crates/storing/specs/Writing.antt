-- What an accepted append writes, step by step as 01 has it, integers in the file's order: the new area with nex and its address, the entry, its index, and how far the file is filled. The
-- writes by which the program leaves this file are in AsMade.antt.
use Rattle.std.specs.Prelude.{ℕ, ◌+◌, ◌-◌, cond, List, [], ◌∷◌, ◌++◌, eqb, ℤ, length}
use Rattle.std.specs.Int.{Width}
use Rattle.image.specs.Image.{zeros}
use Rattle.image.specs.Writes.{Write, put, writes}
use Rattle.words.specs.declared.byte_order.ByteOrder.{ByteOrder}
use Rattle.words.specs.Word.{numeral, integer4, integer8, signed_numeral}
use Rattle.geometry.specs.declared.units.RecordNumber.{RecordNumber}
use Rattle.geometry.specs.declared.units.EntryNumber.{EntryNumber}
use Rattle.geometry.specs.declared.units.EntryAddress.{EntryAddress}
use Rattle.geometry.specs.declared.units.Place.{Place}
use Rattle.geometry.specs.Units.{place_of, offset_of}
use Rattle.layout.specs.FirstRecordWords.{nex_word, aex_word}
use Rattle.layout.specs.EntryWords.{entry_code_word, version_word, nsec_word, nword_word, adata_word, ldata_word, xnum_word, identifier_word, length_word, address_word, first_content, descriptor_words, entry_code}
use Rattle.descriptor.specs.declared.numbers.DescriptorNumbers.{DescriptorNumbers}
use Rattle.descriptor.specs.FirstRecord.{free_of}
use Rattle.pieces.specs.EntryDescriptor.{word_offset}
use Rattle.entry.specs.Opening.{slot_position_of}
use Rattle.pieces.specs.declared.head.Head.{Head}
use Rattle.fields.specs.FieldWrites.{field, count_writes}
use Rattle.storing.specs.Handed.{Handed, words_of, sum_of, nsec_in, ldata_in, nword_in}
use Rattle.placing.specs.Placing.{full, new_area, entry_start, numbers_after, addresses_after}

-- integers of a width one after another, in an order
abbrev pub integer_bytes : ByteOrder → Width → List ℤ → List ℕ
integer_bytes o w [] = []
integer_bytes o w (z ∷ zs) = signed_numeral o w z ++ integer_bytes o w zs

-- the identifiers, an Integer*4 each
abbrev pub identifier_bytes : ByteOrder → List ℤ → List ℕ
identifier_bytes o = integer_bytes o integer4

-- the lengths, an Integer*8 each
abbrev pub length_bytes : ByteOrder → List ℤ → List ℕ
length_bytes o = integer_bytes o integer8

-- the address so many words behind another
abbrev pub behind : EntryAddress → ℕ → EntryAddress
behind a words = record { 0 = a.0 + words }

-- the addresses of sections that stand one after another, the first at a
abbrev pub address_bytes : ByteOrder → EntryAddress → List ℤ → List ℕ
address_bytes o a [] = []
address_bytes o a (z ∷ zs) = numeral o 8 a.0 ++ address_bytes o (behind a (words_of z)) zs

-- the new area: the words skipped and the area become zero, nex and its address are set
abbrev pub area_writes : DescriptorNumbers → List Write
area_writes d =
    put (offset_of (free_of d)) (zeros (offset_of (entry_start d - free_of d))) ∷
    field nex_word (numeral d.order 4 (d.nex + 1)) ∷
    field (aex_word d.nex) (numeral d.order 8 (new_area d).0) ∷
    []

-- the numbers in an entry's head: of so many sections, words of sections and words of data. adata is 0 without data
unfoldable pub head_from : ℤ → ℕ → ℕ → ℕ → EntryNumber → Head
head_from version nsec words ldata number = record {
  version = version;
  nsec = nsec;
  nword = descriptor_words nsec + words + ldata;
  adata = record { 0 = cond (eqb ldata 0) 0 ((first_content nsec).0 + words) };
  ldata = ldata;
  xnum = number;
}

-- those of what is handed in
abbrev pub head_of : Handed → EntryNumber → Head
head_of h number = head_from h.version (nsec_in h) (sum_of h.lengths) (ldata_in h) number

-- the head of the entry that starts at a position
abbrev pub head_writes : ByteOrder → ℕ → Head → List Write
head_writes o start head =
    put (word_offset start entry_code_word) entry_code ∷
    put (word_offset start version_word) (signed_numeral o integer4 head.version) ∷
    put (word_offset start nsec_word) (numeral o 4 head.nsec) ∷
    put (word_offset start nword_word) (numeral o 8 head.nword) ∷
    put (word_offset start adata_word) (numeral o 8 head.adata.0) ∷
    put (word_offset start ldata_word) (numeral o 8 head.ldata) ∷
    put (word_offset start xnum_word) (numeral o 8 head.xnum.0) ∷
    []

-- its tables
abbrev pub table_writes : ByteOrder → ℕ → List ℤ → List ℤ → List Write
table_writes o start ids lengths =
    let n = length ids in
    put (word_offset start (identifier_word 0)) (identifier_bytes o ids) ∷
    put (word_offset start (length_word n 0)) (length_bytes o lengths) ∷
    put (word_offset start (address_word n 0)) (address_bytes o (first_content n) lengths) ∷
    []

-- its sections in order, and its data
abbrev pub content_writes : ℕ → Handed → List Write
content_writes start h =
    put (word_offset start (first_content (nsec_in h))) h.sections ∷
    put (word_offset start (behind (first_content (nsec_in h)) (sum_of h.lengths))) h.values ∷
    []

-- its index: the record and the word where it starts, and the application's words
abbrev pub slot_writes : ByteOrder → ℕ → Place → List ℕ → List Write
slot_writes o slot place index =
    put (offset_of slot) (numeral o 8 place.«record».0) ∷
    put (offset_of (slot + 2)) (numeral o 4 place.word.0) ∷
    put (offset_of (slot + 3)) index ∷
    []

-- the file after the new area, if one is needed
unfoldable pub area_written : List ℕ → DescriptorNumbers → List ℕ
area_written file d = cond (full d) (writes file (area_writes d)) file

-- the file with the descriptor of an entry that starts at a position
abbrev pub descriptor_put : ByteOrder → List ℕ → ℕ → Head → List ℤ → List ℤ → List ℕ
descriptor_put o file start head ids lengths = writes (writes file (head_writes o start head)) (table_writes o start ids lengths)

-- with its index, by its number, and how far the file is filled after it
abbrev pub index_put : List ℕ → DescriptorNumbers → List RecordNumber → EntryNumber → Place → List ℕ → List ℕ
index_put file after addresses number place index =
    writes (writes file (slot_writes after.order (slot_position_of after addresses number) place index)) (count_writes after)

-- the file after the entry
unfoldable pub entry_written : List ℕ → DescriptorNumbers → Handed → List ℕ
entry_written file d h = writes (descriptor_put d.order file (entry_start d) (head_of h d.xnext) h.ids h.lengths) (content_writes (entry_start d) h)

-- the file after its index and the counts
unfoldable pub index_written : List ℕ → DescriptorNumbers → List RecordNumber → Handed → List ℕ
index_written file d addresses h =
    index_put file (numbers_after d (entry_start d + nword_in h)) (addresses_after d addresses) d.xnext (place_of d.reclen (entry_start d)) h.index

-- the file after an accepted append; all other bytes stay
unfoldable pub appended : List ℕ → DescriptorNumbers → List RecordNumber → Handed → List ℕ
appended file d addresses h = index_written (entry_written (area_written file d) d h) d addresses h
