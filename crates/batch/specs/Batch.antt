-- What is handed to a batch: each kind laid end to end, and a row of counts for each entry. And the entries that it makes up.
use Rattle.std.specs.Prelude.{ℕ, ◌+◌, ◌<◌, List, [], ◌∷◌, ℤ, pos, length, get_or, take, drop}
use Rattle.std.proofs.Common.{SFits}
use Rattle.words.specs.Word.{integer4}
use Rattle.storing.specs.Handed.{Handed, handed_in, Slice}
use Rattle.batch.specs.declared.new_entries.Columns.{Columns}
use Rattle.batch.specs.declared.new_entries.NewEntries.{NewEntries}

-- index words, identifiers, lengths, section bytes and data: of several entries, each kind laid end to end
pub record Laid : Type 0 where
  pub index : List ℕ
  pub ids : List ℤ
  pub lengths : List ℤ
  pub sections : List ℕ
  pub values : List ℕ

-- a batch: its versions, its rows of counts, and what is laid end to end
pub record Batch : Type 0 where
  pub versions : List ℤ
  pub counts : List (List ℕ)
  pub laid : Laid

-- the integers of a batch are ones that their words can hold, as an i32's are
pub record IntegersIn (b : Batch) : Type 0 where
  pub versions : (i : ℕ) → i < length b.versions → SFits integer4 (get_or b.versions i (pos 0))
  pub ids : (i : ℕ) → i < length b.laid.ids → SFits integer4 (get_or b.laid.ids i (pos 0))

-- ---- a row of counts

-- the number in a column of a row
abbrev pub count_in : List ℕ → ℕ → ℕ
count_in counts column = get_or counts column 0

-- the columns: index bytes
abbrev pub index_bytes : ℕ
index_bytes = 0

-- identifiers
abbrev pub id_count : ℕ
id_count = 1

-- lengths
abbrev pub length_count : ℕ
length_count = 2

-- section bytes
abbrev pub section_bytes : ℕ
section_bytes = 3

-- data bytes
abbrev pub data_bytes : ℕ
data_bytes = 4

-- the numbers of a column together, exactly
abbrev pub together : ℕ → List (List ℕ) → ℕ
together column [] = 0
together column (counts ∷ rows) = count_in counts column + together column rows

-- ---- the entries

-- an entry: its version, and the first of what is laid, as much as its row counts
abbrev pub entry_of : ℤ → List ℕ → Laid → Handed
entry_of version counts x =
    handed_in version
    (take (count_in counts index_bytes) x.index)
    (take (count_in counts id_count) x.ids)
    (take (count_in counts length_count) x.lengths)
    (take (count_in counts section_bytes) x.sections)
    (take (count_in counts data_bytes) x.values)

-- what it leaves for the entries behind it
abbrev pub left_by : List ℕ → Laid → Laid
left_by counts x = record {
  index = drop (count_in counts index_bytes) x.index;
  ids = drop (count_in counts id_count) x.ids;
  lengths = drop (count_in counts length_count) x.lengths;
  sections = drop (count_in counts section_bytes) x.sections;
  values = drop (count_in counts data_bytes) x.values;
}

-- an entry for each version and row, each from what the entries before it left
abbrev pub entries_of : List ℤ → List (List ℕ) → Laid → List Handed
entries_of [] rows x = []
entries_of (version ∷ versions) [] x = []
entries_of (version ∷ versions) (counts ∷ rows) x = entry_of version counts x ∷ entries_of versions rows (left_by counts x)

-- the entries of a batch
abbrev pub entries_in : Batch → List Handed
entries_in b = entries_of b.versions b.counts b.laid

-- ---- as arguments

-- what is laid, of the arguments of a batch
abbrev pub laid_in : List ℕ → List ℤ → List ℤ → List ℕ → List ℕ → Laid
laid_in index ids lengths sections values = record { index = index; ids = ids; lengths = lengths; sections = sections; values = values }

-- all of them
abbrev pub batch_in : List ℤ → List (List ℕ) → Laid → Batch
batch_in versions counts x = record { versions = versions; counts = counts; laid = x }

-- what is laid, as parameters of a function
abbrev pub laid : Slice ℕ → Slice ℤ → Slice ℤ → Slice ℕ → Slice ℕ → Laid
laid index ids lengths sections values = laid_in index.entry.now ids.entry.now lengths.entry.now sections.entry.now values.entry.now

-- and all of them
abbrev pub batch : Slice ℤ → Slice (List ℕ) → Laid → Batch
batch versions counts x = batch_in versions.entry.now counts.entry.now x

-- what is laid, as slices that a function is lent
abbrev pub laid_of : Columns → Laid
laid_of c = laid_in c.index.now c.ids.now c.lengths.now c.sections.now c.values.now

-- and a batch
abbrev pub batch_handed : NewEntries → Batch
batch_handed e = batch_in e.versions.now e.counts.now (laid_of e.columns)
