-- How the sections of an entry stand in it, which one pass over them finds: where all lie within it, whether they stand in order, and the highest of their ends.
use Rattle.std.specs.Prelude.{ℕ, zero, suc, ◌+◌, max, Bool, true, cond, ◌&&◌, List, leb, Option, Some, None}
use Rattle.pieces.specs.declared.spread.Spread.{Spread}
use Rattle.pieces.specs.EntryDescriptor.{section_of}
use Rattle.pieces.specs.Contents.{sections_within}

-- the highest end of the first k sections, which is the address behind a section's last word; 0 where there is none
unfoldable pub highest_end : List ℕ → ℕ → ℕ → ℕ → ℕ
highest_end file start nsec zero = 0
highest_end file start nsec (suc k) =
    max (highest_end file start nsec k) ((section_of file start nsec k).address.0 + (section_of file start nsec k).words)

-- the first k sections stand in order: none starts before the highest end of those before it
unfoldable pub in_order : List ℕ → ℕ → ℕ → ℕ → Bool
in_order file start nsec zero = true
in_order file start nsec (suc k) = in_order file start nsec k && leb (highest_end file start nsec k) (section_of file start nsec k).address.0

-- how the nsec sections stand in an entry of nword words; None where one does not lie within it
unfoldable pub spread_of : List ℕ → ℕ → ℕ → ℕ → Option Spread
spread_of file start nsec nword =
    cond (sections_within file start nsec nword nsec)
    (Some (record { ordered = in_order file start nsec nsec; end = record { 0 = highest_end file start nsec nsec } }))
    None
