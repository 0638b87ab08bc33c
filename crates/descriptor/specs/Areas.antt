-- The index areas of a file (01, "Extensions"): where each starts and ends, and that they keep their order.
use Rattle.std.specs.Prelude.{ℕ, zero, suc, ◌+◌, Bool, true, ◌&&◌, List, leb}
use Rattle.words.specs.Word.{integer8, signed_of}
use Rattle.words.specs.Range.{at_least}
use Rattle.geometry.specs.declared.units.RecordNumber.{RecordNumber}
use Rattle.geometry.specs.Units.{position_of}
use Rattle.geometry.specs.Growth.{capacity_of}
use Rattle.geometry.specs.Area.{area_records}
use Rattle.descriptor.specs.declared.numbers.DescriptorNumbers.{DescriptorNumbers}
use Rattle.descriptor.specs.FirstRecord.{aex_of, growth_in, free_of}

-- the record after area k; record 2 is the first that an area may have
unfoldable pub area_after : DescriptorNumbers → List RecordNumber → ℕ → RecordNumber
area_after d addresses zero = record { 0 = 2 }
area_after d addresses (suc k) = record { 0 = (aex_of addresses (suc k)).0 + area_records (capacity_of (growth_in d) (suc k)) d.lind d.reclen }

-- the position where area k starts
abbrev pub area_start_of : DescriptorNumbers → List RecordNumber → ℕ → ℕ
area_start_of d addresses k = position_of d.reclen (aex_of addresses k) (record { 0 = 1 })

-- and where it ends, with its last record
abbrev pub area_end_of : DescriptorNumbers → List RecordNumber → ℕ → ℕ
area_end_of d addresses k = position_of d.reclen (area_after d addresses k) (record { 0 = 1 })

-- the first k areas start at record 2 or later, each at or after the end of the one before
unfoldable pub areas_start : DescriptorNumbers → List RecordNumber → ℕ → Bool
areas_start d addresses zero = true
areas_start d addresses (suc k) =
    areas_start d addresses k && at_least (area_after d addresses k).0 (signed_of integer8 (aex_of addresses (suc k)).0)

-- the last area ends at or before the next free position
unfoldable pub areas_end : DescriptorNumbers → List RecordNumber → Bool
areas_end d addresses = leb (area_end_of d addresses d.nex) (free_of d)
