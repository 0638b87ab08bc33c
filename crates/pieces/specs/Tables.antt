-- The three tables of 64 places, and which section an identifier names.
use Rattle.std.specs.Prelude.{ℕ, zero, suc, ◌+◌, Bool, cond, ◌&&◌, List, ltb, Option, Some, None, ℤ, pos, replicate}
use Rattle.std.specs.Int.Signed.{le_z}
use Rattle.words.specs.Table.{places}
use Rattle.geometry.specs.declared.units.EntryAddress.{EntryAddress}
use Rattle.layout.specs.EntryWords.{sections_max}
use Rattle.pieces.specs.declared.tables.Sections.{Sections}
use Rattle.pieces.specs.EntryDescriptor.{identifier_at, section_of}

-- the identifiers of nsec sections, zero in the places past nsec
unfoldable pub section_identifiers : List ℕ → ℕ → ℕ → List ℤ
section_identifiers file start nsec = places sections_max nsec (identifier_at file start) (pos 0)

-- their lengths, zero past nsec
unfoldable pub section_lengths : List ℕ → ℕ → ℕ → List ℕ
section_lengths file start nsec = places sections_max nsec (λ i. (section_of file start nsec i).words) 0

-- their addresses, zero past nsec
unfoldable pub section_addresses : List ℕ → ℕ → ℕ → List EntryAddress
section_addresses file start nsec = places sections_max nsec (λ i. (section_of file start nsec i).address) (record { 0 = 0 })

-- the three tables of an entry with nsec sections
unfoldable pub sections_of : List ℕ → ℕ → ℕ → Sections
sections_of file start nsec = record {
  identifiers = section_identifiers file start nsec;
  lengths = section_lengths file start nsec;
  addresses = section_addresses file start nsec;
}

-- tables with nothing in them
abbrev pub no_sections : Sections
no_sections = record {
  identifiers = replicate sections_max (pos 0);
  lengths = replicate sections_max 0;
  addresses = replicate sections_max (record { 0 = 0 });
}

-- two integers are equal
unfoldable pub same_integer : ℤ → ℤ → Bool
same_integer x y = le_z x y && le_z y x

-- the first of the sections from i on, left of them, that has the identifier; i + left where none has
unfoldable pub section_named : List ℕ → ℕ → ℤ → ℕ → ℕ → ℕ
section_named file start identifier i zero = i
section_named file start identifier i (suc left) =
    let later = section_named file start identifier (i + 1) left in
    cond (same_integer (identifier_at file start i) identifier) i later

-- the first of the nsec sections that has the identifier; None where none has
unfoldable pub named_of : List ℕ → ℕ → ℕ → ℤ → Option ℕ
named_of file start nsec identifier =
    let i = section_named file start identifier 0 nsec in
    cond (ltb i nsec) (Some i) None
