-- The lines of printed bytes, and a lent buffer that holds lines.
use Rattle.std.specs.Prelude.{ℕ, suc, ◌≡◌, cond, List, [], ◌∷◌, ◌++◌, eqb, length, take, drop}
use Rattle.descriptor.specs.FirstRecord.{numbers_of, addresses_of}
use Rattle.listing.specs.Text.{newline, joined}
use Rattle.listing.specs.Listing.{header, rows_of}

-- how many lines bytes have: their newlines
abbrev pub lines_in : List ℕ → ℕ
lines_in [] = 0
lines_in (b ∷ bytes) = cond (eqb b newline) (suc (lines_in bytes)) (lines_in bytes)

-- bytes that are one line: a newline at their end, and none before it
pub record OneLine (bytes : List ℕ) : Type 0 where
  pub text : List ℕ
  pub ended : bytes ≡ text ++ (newline ∷ [])
  pub plain : lines_in text ≡ 0

-- each of several is
abbrev pub AllLines : List (List ℕ) → Type 0
AllLines [] = Unit
AllLines (line ∷ lines) = OneLine line × AllLines lines

-- the lines of an admitted file's listing: the header, and a row for each entry
abbrev pub listing_lines : List ℕ → List (List ℕ)
listing_lines file = header ∷ rows_of file (numbers_of file) (addresses_of file (numbers_of file).nex)

-- what a call leaves in a lent buffer that prints these lines
pub record LeavesLines (lines : List (List ℕ)) (out : List ℕ) (answer : ℕ) (after : List ℕ) : Type 0 where
  -- each of them is one line
  pub each : AllLines lines
  -- the answer is the count of their bytes
  pub counted : answer ≡ length (joined lines)
  -- so many bytes of the buffer are theirs
  pub printed : take answer after ≡ joined lines
  -- and have as many newlines as there are lines
  pub count : lines_in (take answer after) ≡ length lines
  -- the bytes behind stay
  pub behind : drop answer after ≡ drop answer out
