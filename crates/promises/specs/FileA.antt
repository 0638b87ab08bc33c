-- File A of 01, "Examples worked by hand": its settings, what is appended to it, the buffer that it is made in, and the file after each call.
use Rattle.std.specs.Prelude.{ℕ, ◌+◌, ◌*◌, ◌%◌, List, [], ◌∷◌, map, ℤ, pos}
use Rattle.geometry.specs.Units.{offset_of}
use Rattle.descriptor.specs.declared.numbers.Settings.{Settings}
use Rattle.writer.specs.Creation.{created_file}
use Rattle.storing.specs.Handed.{Handed, handed_in}
use Rattle.writer.specs.Answers.{file_after}
use Rattle.promises.specs.Calls.{following}

-- settings by order, reclen, lind, lex1 and gex; the others are A's in every case: kind 1, vind 2, flags 0
abbrev pub settings_in : ℤ → ℕ → ℕ → ℕ → ℕ → Settings
settings_in order reclen lind lex1 gex = record {
  order = order;
  reclen = pos reclen;
  kind = pos 1;
  vind = pos 2;
  lind = pos lind;
  flags = pos 0;
  lex1 = pos lex1;
  gex = pos gex;
}

-- those of a little-endian file
abbrev pub settings : ℕ → ℕ → ℕ → ℕ → Settings
settings reclen lind lex1 gex = settings_in (pos 0) reclen lind lex1 gex

-- append (1): version 1, identifier 7 of 3 words, 5 data words; one index word. The section's bytes are 1 to 12, the data's 101 to 120
abbrev pub append1 : Handed
append1 = handed_in (pos 1) (following 200 4) (pos 7 ∷ []) (pos 3 ∷ []) (following 0 12) (following 100 20)

-- append (2): version 1, nothing else; one index word
abbrev pub append2 : Handed
append2 = handed_in (pos 1) (following 210 4) [] [] [] []

-- append (3): the same, with other bytes in its index word
abbrev pub append3 : Handed
append3 = handed_in (pos 1) (following 220 4) [] [] [] []

-- a lent buffer of so many records of 20 words. Byte k, counted from 1, is k % 255 + 1: none is zero, so what is not written shows
abbrev pub lent : ℕ → List ℕ
lent records = map (λ k. k % 255 + 1) (following 0 (offset_of (20 * records)))

-- A of so many records of 20 words, as it is created
abbrev pub created : ℕ → List ℕ
created records = created_file (lent records) (settings 20 4 2 20)

-- after append (1)
abbrev pub after1 : ℕ → List ℕ
after1 records = file_after (created records) append1

-- after append (2)
abbrev pub after2 : ℕ → List ℕ
after2 records = file_after (after1 records) append2

-- after append (3)
abbrev pub after3 : ℕ → List ℕ
after3 records = file_after (after2 records) append3

-- A itself, of 6 records
abbrev pub A : List ℕ
A = after3 6

-- A in the big order, as it is created
abbrev pub big_created : List ℕ
big_created = created_file (lent 6) (settings_in (pos 1) 20 4 2 20)

-- and after the three appends
abbrev pub big_a : List ℕ
big_a = file_after (file_after (file_after big_created append1) append2) append3

-- the created file after another append, of two sections: identifiers 7 and 9 of 3 words and 1, no data
abbrev pub two_sections : List ℕ
two_sections = file_after (created 6) (handed_in (pos 1) (following 200 4) (pos 7 ∷ pos 9 ∷ []) (pos 3 ∷ pos 1 ∷ []) (following 0 16) [])
