-- What is written into the first record, in the byte order that the numbers have: the settings, how far the file is filled, and the growth.
use Rattle.std.specs.Prelude.{ℕ, ◌-◌, List, [], ◌∷◌}
use Rattle.image.specs.Image.{zeros}
use Rattle.image.specs.Writes.{Write, put, writes}
use Rattle.words.specs.Word.{numeral}
use Rattle.geometry.specs.declared.units.WordNumber.{WordNumber}
use Rattle.geometry.specs.Units.{offset_of, first_record_offset_of}
use Rattle.layout.specs.FirstRecordWords.{file_code_word, reclen_word, kind_word, vind_word, lind_word, flags_word, xnext_word, nextrec_word, nextword_word, lex1_word, nex_word, gex_word, aex_word}
use Rattle.layout.specs.FileCode.{file_code}
use Rattle.descriptor.specs.declared.numbers.DescriptorNumbers.{DescriptorNumbers}

-- bytes at a word of the first record
abbrev pub field : WordNumber → List ℕ → Write
field w bytes = put (first_record_offset_of w) bytes

-- the code of the order, and the settings that come first
abbrev pub setting_writes : DescriptorNumbers → List Write
setting_writes d =
    field file_code_word (file_code d.order) ∷
    field reclen_word (numeral d.order 4 d.reclen) ∷
    field kind_word (numeral d.order 4 d.kind) ∷
    field vind_word (numeral d.order 4 d.vind) ∷
    field lind_word (numeral d.order 4 d.lind) ∷
    field flags_word (numeral d.order 4 d.flags) ∷
    []

-- how far the file is filled
abbrev pub count_writes : DescriptorNumbers → List Write
count_writes d =
    field xnext_word (numeral d.order 8 d.xnext.0) ∷
    field nextrec_word (numeral d.order 8 d.nextrec.0) ∷
    field nextword_word (numeral d.order 4 d.nextword.0) ∷
    []

-- the growth; and the rest of the record, zero
abbrev pub growth_writes : DescriptorNumbers → List Write
growth_writes d =
    field lex1_word (numeral d.order 4 d.lex1) ∷
    field nex_word (numeral d.order 4 d.nex) ∷
    field gex_word (numeral d.order 4 d.gex) ∷
    field (aex_word 0) (zeros (offset_of (d.reclen - 14))) ∷
    []

-- the file with the first record of a new file; later bytes stay
unfoldable pub first_written : List ℕ → DescriptorNumbers → List ℕ
first_written file d = writes (writes (writes file (setting_writes d)) (count_writes d)) (growth_writes d)
