-- The entry descriptor (01, "An entry"; the memo's Table 4): its fields as stored.
-- An entry is known by the position of its first word, start.
use Rattle.std.specs.Prelude.{ℕ, List, ℤ}
use Rattle.std.specs.Int.{Width}
use Rattle.image.specs.Image.{part}
use Rattle.words.specs.Word.{integer4, integer8, bits_at, signed_of}
use Rattle.geometry.specs.declared.units.EntryAddress.{EntryAddress}
use Rattle.geometry.specs.Units.{entry_position_of, offset_of}
use Rattle.layout.specs.FileCode.{byte_order_of}
use Rattle.layout.specs.EntryWords.{entry_code_word, version_word, nsec_word, nword_word, adata_word, ldata_word, xnum_word, identifier_word, length_word, address_word}
use Rattle.pieces.specs.declared.contents.Piece.{Piece}
use Rattle.pieces.specs.declared.head.Head.{Head}

-- where a word of the entry stands, in bytes
abbrev pub word_offset : ℕ → EntryAddress → ℕ
word_offset start a = offset_of (entry_position_of start a)

-- the bits of the integer of a width at a word and those behind it, in the file's order
unfoldable pub word_of : Width → List ℕ → ℕ → EntryAddress → ℕ
word_of width file start a = bits_at (byte_order_of file) width file (word_offset start a)

-- of the Integer*4 at a word
abbrev pub word4 : List ℕ → ℕ → EntryAddress → ℕ
word4 file start a = word_of integer4 file start a

-- and of the Integer*8 at a word and the next
abbrev pub word8 : List ℕ → ℕ → EntryAddress → ℕ
word8 file start a = word_of integer8 file start a

-- the code, as four bytes
unfoldable pub entry_code_of : List ℕ → ℕ → List ℕ
entry_code_of file start = part file (word_offset start entry_code_word) 4

-- the version, which may be negative
abbrev pub version_of : List ℕ → ℕ → ℤ
version_of file start = signed_of integer4 (word4 file start version_word)

-- nsec, how many sections the entry has
abbrev pub nsec_of : List ℕ → ℕ → ℕ
nsec_of file start = word4 file start nsec_word

-- nword, how many words the entry has
abbrev pub nword_of : List ℕ → ℕ → ℕ
nword_of file start = word8 file start nword_word

-- adata, the address of the data
abbrev pub adata_of : List ℕ → ℕ → EntryAddress
adata_of file start = record { 0 = word8 file start adata_word }

-- ldata, how many words the data has
abbrev pub ldata_of : List ℕ → ℕ → ℕ
ldata_of file start = word8 file start ldata_word

-- xnum, the entry's number
abbrev pub xnum_of : List ℕ → ℕ → ℕ
xnum_of file start = word8 file start xnum_word

-- the head: all of these
abbrev pub head_at : List ℕ → ℕ → Head
head_at file start = record {
  version = version_of file start;
  nsec = nsec_of file start;
  nword = nword_of file start;
  adata = adata_of file start;
  ldata = ldata_of file start;
  xnum = record { 0 = xnum_of file start };
}

-- the identifier of section i; in the three tables sections are counted from 0
abbrev pub identifier_at : List ℕ → ℕ → ℕ → ℤ
identifier_at file start i = signed_of integer4 (word4 file start (identifier_word i))

-- the length of section i, in words
abbrev pub length_at : List ℕ → ℕ → ℕ → ℕ → ℕ
length_at file start nsec i = word8 file start (length_word nsec i)

-- the address of section i
abbrev pub address_at : List ℕ → ℕ → ℕ → ℕ → EntryAddress
address_at file start nsec i = record { 0 = word8 file start (address_word nsec i) }

-- where section i stands in the entry, and how long it is, as stored
unfoldable pub section_of : List ℕ → ℕ → ℕ → ℕ → Piece
section_of file start nsec i = record { address = address_at file start nsec i; words = length_at file start nsec i }

-- the same of the data
unfoldable pub data_of : List ℕ → ℕ → Piece
data_of file start = record { address = adata_of file start; words = ldata_of file start }
