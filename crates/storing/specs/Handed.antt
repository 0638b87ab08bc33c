-- What is handed to an append, and its numbers.
use Rattle.std.specs.Prelude.{ℕ, zero, suc, ◌+◌, ◌/◌, ◌<◌, Bool, true, not, ◌&&◌, List, [], ◌∷◌, ℤ, pos, negsuc, length, get_or}
use Rattle.std.proofs.Common.{SFits}
use Rattle.std.specs.Borrow.{Bor}
use denote.Triple.Both.{Both}
use Rattle.words.specs.Word.{integer4}
use Rattle.words.specs.Range.{at_least}
use Rattle.layout.specs.EntryWords.{descriptor_words}
use Rattle.pieces.specs.Tables.{same_integer}
use Rattle.storing.specs.declared.new_entry.NewEntry.{NewEntry}

-- version, index words, identifiers, lengths, section bytes one after another, and data
pub record Handed : Type 0 where
  pub version : ℤ
  pub index : List ℕ
  pub ids : List ℤ
  pub lengths : List ℤ
  pub sections : List ℕ
  pub values : List ℕ

-- the integers handed in are ones that their words can hold, as an i32's are
pub record Integers (h : Handed) : Type 0 where
  pub version : SFits integer4 h.version
  pub ids : (i : ℕ) → i < length h.ids → SFits integer4 (get_or h.ids i (pos 0))

-- a length as a count of words; a negative one is refused and counts as none
abbrev pub words_of : ℤ → ℕ
words_of (pos n) = n
words_of (negsuc n) = 0

-- the lengths together, exactly
abbrev pub sum_of : List ℤ → ℕ
sum_of [] = 0
sum_of (z ∷ zs) = words_of z + sum_of zs

-- an identifier is none of the first k
unfoldable pub absent : List ℤ → ℤ → ℕ → Bool
absent ids z zero = true
absent ids z (suc k) = absent ids z k && not (same_integer (get_or ids k (pos 0)) z)

-- no two of the first k identifiers are equal
unfoldable pub distinct : List ℤ → ℕ → Bool
distinct ids zero = true
distinct ids (suc k) = distinct ids k && absent ids (get_or ids k (pos 0)) k

-- the first k lengths are 1 or more
unfoldable pub positive : List ℤ → ℕ → Bool
positive lengths zero = true
positive lengths (suc k) = positive lengths k && at_least 1 (get_or lengths k (pos 0))

-- the entry's nsec
abbrev pub nsec_in : Handed → ℕ
nsec_in h = length h.ids

-- its ldata
abbrev pub ldata_in : Handed → ℕ
ldata_in h = length h.values / 4

-- its nword
abbrev pub nword_in : Handed → ℕ
nword_in h = descriptor_words (nsec_in h) + sum_of h.lengths + ldata_in h

-- the arguments of an append together
abbrev pub handed_in : ℤ → List ℕ → List ℤ → List ℤ → List ℕ → List ℕ → Handed
handed_in version index ids lengths sections values = record {
  version = version;
  index = index;
  ids = ids;
  lengths = lengths;
  sections = sections;
  values = values;
}

-- a slice that is lent to be read, as a contract sees it: at exit it is as at entry
abbrev pub Slice : Type 0 → Type 0
Slice A = Both (Bor (List A)) (Bor (List A))

-- and as parameters of a function
abbrev pub handed : ℤ → Slice ℕ → Slice ℤ → Slice ℤ → Slice ℕ → Slice ℕ → Handed
handed version index ids lengths sections values =
    handed_in version index.entry.now ids.entry.now lengths.entry.now sections.entry.now values.entry.now

-- and as a new entry of which a function is lent the slices
abbrev pub handed_of : NewEntry → Handed
handed_of e = handed_in e.version e.index.now e.ids.now e.lengths.now e.sections.now e.values.now
