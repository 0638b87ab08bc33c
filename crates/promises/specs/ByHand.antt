-- The stored words of file A of 01, spelled by hand after the memo's Tables 1 and 4 and 01. Nothing of the library's own definitions is used here, so that
-- a fault that stands in reader and writer alike shows in the worked examples.
use Rattle.std.specs.Prelude.{ℕ, ◌+◌, ◌*◌, ◌-◌, List, [], ◌∷◌, ◌++◌, take, drop, replicate}

-- n words from record r, word w on, of a file with records of 20 words: the bytes from 4 × ((r-1) × 20 + (w-1)) on
abbrev pub words_at : List ℕ → ℕ → ℕ → ℕ → List ℕ
words_at file r w n = take (4 * n) (drop (4 * ((r - 1) * 20 + (w - 1))) file)

-- how a file is spelled: its code, a word that holds a number below 256, and an Integer*8 that does, which is two words
pub record Spelling : Type 0 where
  pub code : List ℕ
  pub word : ℕ → List ℕ
  pub two_words : ℕ → List ℕ

-- a word with the least significant byte first
abbrev pub word : ℕ → List ℕ
word x = x ∷ 0 ∷ 0 ∷ 0 ∷ []

-- and an Integer*8
abbrev pub two_words : ℕ → List ℕ
two_words x = x ∷ 0 ∷ 0 ∷ 0 ∷ 0 ∷ 0 ∷ 0 ∷ 0 ∷ []

-- a little-endian file
abbrev pub little : Spelling
little = record { code = 0x32 ∷ 0x41 ∷ 0x20 ∷ 0x20 ∷ []; word = word; two_words = two_words }

-- a big-endian file: the most significant byte first
abbrev pub big : Spelling
big = record {
  code = 0x32 ∷ 0x42 ∷ 0x20 ∷ 0x20 ∷ [];
  word = λ x. 0 ∷ 0 ∷ 0 ∷ x ∷ [];
  two_words = λ x. 0 ∷ 0 ∷ 0 ∷ 0 ∷ 0 ∷ 0 ∷ 0 ∷ x ∷ [];
}

-- n words of zero
abbrev pub zero_words : ℕ → List ℕ
zero_words n = replicate (4 * n) 0

-- the first record in the order of Table 1, with the settings of A: reclen 20, kind 1, vind 2, lind 4, flags 0, lex1 2, gex 20. It has room for three addresses
abbrev pub first_record : Spelling → ℕ → ℕ → ℕ → ℕ → ℕ → ℕ → List ℕ
first_record s xnext nextrec nextword nex aex1 aex2 =
    s.code ++
    -- reclen, kind, vind, lind, flags
    s.word 20 ++ s.word 1 ++ s.word 2 ++ s.word 4 ++ s.word 0 ++
    s.two_words xnext ++ s.two_words nextrec ++ s.word nextword ++
    -- lex1, nex, gex
    s.word 2 ++ s.word nex ++ s.word 20 ++
    -- aex
    s.two_words aex1 ++ s.two_words aex2 ++ s.two_words 0

-- words 1 to 11 of an entry in the order of Table 4. The entry code is the same in every file
abbrev pub entry_head : Spelling → ℕ → ℕ → ℕ → ℕ → ℕ → ℕ → List ℕ
entry_head s version nsec nword adata ldata xnum =
    -- code
    (0x32 ∷ 0x20 ∷ 0x20 ∷ 0x20 ∷ []) ++
    s.word version ++ s.word nsec ++ s.two_words nword ++ s.two_words adata ++ s.two_words ldata ++ s.two_words xnum

-- the index of an entry: the record and the word where it starts, and the application's bytes
abbrev pub slot : Spelling → ℕ → ℕ → List ℕ → List ℕ
slot s start_record start_word index = s.two_words start_record ++ s.word start_word ++ index
