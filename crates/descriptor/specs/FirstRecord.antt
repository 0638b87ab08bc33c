-- The first record (01, "First record"; the memo's Table 1): its fields as stored.
use Rattle.std.specs.Prelude.{ℕ, ◌-◌, ◌/◌, min, List, get_or}
use Rattle.std.specs.Int.{Width}
use Rattle.words.specs.Word.{integer4, integer8, bits_at, bits_of}
use Rattle.words.specs.Table.{places}
use Rattle.geometry.specs.declared.units.RecordNumber.{RecordNumber}
use Rattle.geometry.specs.declared.units.WordNumber.{WordNumber}
use Rattle.geometry.specs.declared.growth.Growth.{Growth}
use Rattle.geometry.specs.Units.{first_record_offset_of, position_of}
use Rattle.geometry.specs.Growth.{growth_of}
use Rattle.descriptor.specs.declared.numbers.Settings.{Settings}
use Rattle.descriptor.specs.declared.numbers.DescriptorNumbers.{DescriptorNumbers}
use Rattle.layout.specs.FileCode.{byte_order_of}
use Rattle.layout.specs.FirstRecordWords.{reclen_word, kind_word, vind_word, lind_word, flags_word, xnext_word, nextrec_word, nextword_word, lex1_word, nex_word, gex_word, aex_word}

-- the bits of the integer of a width at a word and those behind it, in the file's order
unfoldable pub field : Width → List ℕ → WordNumber → ℕ
field width file w = bits_at (byte_order_of file) width file (first_record_offset_of w)

-- of the Integer*4 at a word
abbrev pub field4 : List ℕ → WordNumber → ℕ
field4 file w = field integer4 file w

-- and of the Integer*8 at a word and the next
abbrev pub field8 : List ℕ → WordNumber → ℕ
field8 file w = field integer8 file w

-- the order that the code says, and the numbers, as bits; the rules say what their signed readings may be
unfoldable pub numbers_of : List ℕ → DescriptorNumbers
numbers_of file = record {
  order = byte_order_of file;
  reclen = field4 file reclen_word;
  kind = field4 file kind_word;
  vind = field4 file vind_word;
  lind = field4 file lind_word;
  flags = field4 file flags_word;
  xnext = record { 0 = field8 file xnext_word };
  nextrec = record { 0 = field8 file nextrec_word };
  nextword = record { 0 = field4 file nextword_word };
  lex1 = field4 file lex1_word;
  nex = field4 file nex_word;
  gex = field4 file gex_word;
}

-- the numbers of a new file: the settings, xnext 1, nextrec 2, nextword 1, nex 0
unfoldable pub created_of : Settings → DescriptorNumbers
created_of s = record {
  order = record { 0 = bits_of integer4 s.order };
  reclen = bits_of integer4 s.reclen;
  kind = bits_of integer4 s.kind;
  vind = bits_of integer4 s.vind;
  lind = bits_of integer4 s.lind;
  flags = bits_of integer4 s.flags;
  xnext = record { 0 = 1 };
  nextrec = record { 0 = 2 };
  nextword = record { 0 = 1 };
  lex1 = bits_of integer4 s.lex1;
  nex = 0;
  gex = bits_of integer4 s.gex;
}

-- the address of extension i + 1
abbrev pub aex_at : List ℕ → ℕ → RecordNumber
aex_at file i = record { 0 = field8 file (aex_word i) }

-- 16 places of addresses, those past nex zero
unfoldable pub addresses_of : List ℕ → ℕ → List RecordNumber
addresses_of file nex = places 16 nex (aex_at file) (record { 0 = 0 })

-- the address of extension k in a table of addresses
abbrev pub aex_of : List RecordNumber → ℕ → RecordNumber
aex_of addresses k = get_or addresses (k - 1) (record { 0 = 0 })

-- the most extensions that a first record has room for: the smaller of 16 and (reclen-14)/2, fraction dropped
unfoldable pub mex_of : ℕ → ℕ
mex_of reclen = min 16 ((reclen - 14) / 2)

-- how the extensions of a file grow
abbrev pub growth_in : DescriptorNumbers → Growth
growth_in d = growth_of d.lex1 d.gex

-- the next free position
abbrev pub free_of : DescriptorNumbers → ℕ
free_of d = position_of d.reclen d.nextrec d.nextword
