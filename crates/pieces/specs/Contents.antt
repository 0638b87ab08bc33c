-- What an entry holds: its sections and its data, each a piece of it. When a piece lies within the entry, and when two share no word.
use Rattle.std.specs.Prelude.{ℕ, zero, suc, ◌+◌, Bool, true, ◌&&◌, ◌||◌, List, leb, eqb}
use Rattle.words.specs.Word.{integer8, signed_of}
use Rattle.words.specs.Range.{at_least}
use Rattle.layout.specs.EntryWords.{first_content}
use Rattle.pieces.specs.declared.contents.Piece.{Piece}
use Rattle.pieces.specs.EntryDescriptor.{section_of}

-- a piece lies within the words 12 + 5 × nsec to nword
unfoldable pub piece_within : ℕ → ℕ → Piece → Bool
piece_within nsec nword p = at_least (first_content nsec).0 (signed_of integer8 p.address.0) && leb (p.address.0 + p.words) (nword + 1)

-- data has no negative length, and lies within those words if there is any
unfoldable pub data_within : ℕ → ℕ → Piece → Bool
data_within nsec nword p = eqb p.words 0 || piece_within nsec nword p

-- the first k sections have a word at least and lie within those words
unfoldable pub sections_within : List ℕ → ℕ → ℕ → ℕ → ℕ → Bool
sections_within file start nsec nword zero = true
sections_within file start nsec nword (suc k) =
    sections_within file start nsec nword k
    && (at_least 1 (signed_of integer8 (section_of file start nsec k).words) && piece_within nsec nword (section_of file start nsec k))

-- two pieces share no word
unfoldable pub apart : Piece → Piece → Bool
apart p q = leb (p.address.0 + p.words) q.address.0 || leb (q.address.0 + q.words) p.address.0

-- a piece shares no word with one of the first k sections
unfoldable pub apart_from : List ℕ → ℕ → ℕ → Piece → ℕ → Bool
apart_from file start nsec p zero = true
apart_from file start nsec p (suc k) = apart_from file start nsec p k && apart (section_of file start nsec k) p

-- no two of the first k sections share a word
unfoldable pub sections_apart : List ℕ → ℕ → ℕ → ℕ → Bool
sections_apart file start nsec zero = true
sections_apart file start nsec (suc k) = sections_apart file start nsec k && apart_from file start nsec (section_of file start nsec k) k

-- nor does the data with one of them, if there is any
unfoldable pub data_apart : List ℕ → ℕ → ℕ → Piece → Bool
data_apart file start nsec p = eqb p.words 0 || apart_from file start nsec p nsec
