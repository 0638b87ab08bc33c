-- The regions of a file: the first record, the index areas in use, and the entries. No two of them share a word.
use Rattle.std.specs.Prelude.{ℕ, ◌≤◌, ◌≡◌, ◌⊎◌, List}
use Rattle.geometry.specs.declared.units.RecordNumber.{RecordNumber}
use Rattle.geometry.specs.Units.{entries_before}
use Rattle.descriptor.specs.declared.numbers.DescriptorNumbers.{DescriptorNumbers}
use Rattle.descriptor.specs.FirstRecord.{numbers_of, addresses_of}
use Rattle.descriptor.specs.Rules.{file_refusal}
use Rattle.entry.specs.Opening.{entry_refusal, entered_of}
use Rattle.descriptor.specs.Areas.{area_start_of, area_end_of}
use Rattle.entry.specs.Opening.{end_of}

-- a region: the first record, an index area by its extension's number, or an entry by its number
pub data Region : Type 0 where
  first_record : Region
  area : ℕ → Region
  entry : ℕ → Region

-- the first record always, the areas 1 to nex, the entries 1 to xnext - 1
abbrev pub InUse : DescriptorNumbers → Region → Type 0
InUse d first_record = Unit
InUse d (area k) = (1 ≤ k) × (k ≤ d.nex)
InUse d (entry e) = (1 ≤ e) × (e ≤ entries_before d.xnext)

-- the position of a region's first word
unfoldable pub from_of : List ℕ → DescriptorNumbers → List RecordNumber → Region → ℕ
from_of file d addresses first_record = 0
from_of file d addresses (area k) = area_start_of d addresses k
from_of file d addresses (entry e) = (entered_of file d addresses (record { 0 = e })).start

-- and the position behind its last
unfoldable pub to_of : List ℕ → DescriptorNumbers → List RecordNumber → Region → ℕ
to_of file d addresses first_record = d.reclen
to_of file d addresses (area k) = area_end_of d addresses k
to_of file d addresses (entry e) = end_of (entered_of file d addresses (record { 0 = e }))

-- two regions in use that are not one and the same share no word: one ends before the other starts
abbrev pub NoneShared : List ℕ → DescriptorNumbers → List RecordNumber → Type 0
NoneShared file d addresses =
    (p q : Region) → InUse d p → InUse d q → (p ≡ q → ⊥)
    → (to_of file d addresses p ≤ from_of file d addresses q) ⊎ (to_of file d addresses q ≤ from_of file d addresses p)

-- validated numbers all of whose entries open, and no two of whose regions share a word
pub record SoundIn (file : List ℕ) (d : DescriptorNumbers) (addresses : List RecordNumber) : Type 0 where
  pub opens : (e : ℕ) → 1 ≤ e → e ≤ entries_before d.xnext → entry_refusal file d addresses (record { 0 = e }) ≡ 0
  pub apart : NoneShared file d addresses

-- a file from which appends are safe: it is admitted, and its numbers are such
pub record Sound (file : List ℕ) : Type 0 where
  pub admitted : file_refusal file ≡ 0
  pub inside : SoundIn file (numbers_of file) (addresses_of file (numbers_of file).nex)
