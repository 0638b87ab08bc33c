-- The words of the first record (the memo's Table 1), each by its number.
use Rattle.std.specs.Prelude.{ℕ, ◌+◌, ◌*◌}
use Rattle.geometry.specs.declared.units.WordNumber.{WordNumber}

-- word n
abbrev word : ℕ → WordNumber
word n = record { 0 = n }

-- word 1: the file's code (FileCode.antt)
abbrev pub file_code_word : WordNumber
file_code_word = word 1

-- word 2: reclen, the words of a record
abbrev pub reclen_word : WordNumber
reclen_word = word 2

-- word 3: kind, whose file it is
abbrev pub kind_word : WordNumber
kind_word = word 3

-- word 4: vind, the version of the application's index words
abbrev pub vind_word : WordNumber
vind_word = word 4

-- word 5: lind, the words of a slot
abbrev pub lind_word : WordNumber
lind_word = word 5

-- word 6: flags, of which the lowest bit is in use
abbrev pub flags_word : WordNumber
flags_word = word 6

-- words 7 and 8: xnext, the number of the next entry
abbrev pub xnext_word : WordNumber
xnext_word = word 7

-- words 9 and 10: nextrec, the record of the next free word
abbrev pub nextrec_word : WordNumber
nextrec_word = word 9

-- word 11: nextword, the next free word in that record
abbrev pub nextword_word : WordNumber
nextword_word = word 11

-- word 12: lex1, the capacity of the first extension
abbrev pub lex1_word : WordNumber
lex1_word = word 12

-- word 13: nex, the extensions in use
abbrev pub nex_word : WordNumber
nex_word = word 13

-- word 14: gex, how capacities grow, in tenths
abbrev pub gex_word : WordNumber
gex_word = word 14

-- from word 15: aex, two words for each extension: the first record of the index area of extension i + 1
abbrev pub aex_word : ℕ → WordNumber
aex_word i = word (15 + 2 * i)

-- the word after the addresses of nex extensions
abbrev pub after_aex : ℕ → WordNumber
after_aex nex = word (15 + 2 * nex)
