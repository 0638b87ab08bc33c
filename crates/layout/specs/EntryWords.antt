-- The words of an entry descriptor (the memo's Table 4), each by its address in the entry, and the code that the first holds.
use Rattle.std.specs.Prelude.{ℕ, ◌+◌, ◌*◌, List, [], ◌∷◌}
use Rattle.geometry.specs.declared.units.EntryAddress.{EntryAddress}

-- word n of the entry
abbrev word : ℕ → EntryAddress
word n = record { 0 = n }

-- word 1: the entry's code
abbrev pub entry_code_word : EntryAddress
entry_code_word = word 1

-- word 2: version, the application's
abbrev pub version_word : EntryAddress
version_word = word 2

-- word 3: nsec, the count of sections
abbrev pub nsec_word : EntryAddress
nsec_word = word 3

-- words 4 and 5: nword, the words of the whole entry
abbrev pub nword_word : EntryAddress
nword_word = word 4

-- words 6 and 7: adata, the address of the data
abbrev pub adata_word : EntryAddress
adata_word = word 6

-- words 8 and 9: ldata, the words of data
abbrev pub ldata_word : EntryAddress
ldata_word = word 8

-- words 10 and 11: xnum, the entry's number
abbrev pub xnum_word : EntryAddress
xnum_word = word 10

-- from word 12: nsec identifiers of a word, nsec lengths of two, nsec addresses of two. Section i, counted from 0, has the i-th of each: its identifier,
abbrev pub identifier_word : ℕ → EntryAddress
identifier_word i = word (12 + i)

-- its length in words,
abbrev pub length_word : ℕ → ℕ → EntryAddress
length_word nsec i = word (12 + nsec + 2 * i)

-- and its address
abbrev pub address_word : ℕ → ℕ → EntryAddress
address_word nsec i = word (12 + 3 * nsec + 2 * i)

-- the first word that content may have: 12 + 5 × nsec
abbrev pub first_content : ℕ → EntryAddress
first_content nsec = word (12 + 5 * nsec)

-- the words before the tables
abbrev pub head_words : ℕ
head_words = 11

-- the words of a descriptor with nsec sections
abbrev pub descriptor_words : ℕ → ℕ
descriptor_words nsec = head_words + 5 * nsec

-- an entry has 64 sections at most
abbrev pub sections_max : ℕ
sections_max = 64

-- the entry code: 32 20 20 20
abbrev pub entry_code : List ℕ
entry_code = 0x32 ∷ 0x20 ∷ 0x20 ∷ 0x20 ∷ []
