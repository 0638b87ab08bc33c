-- Index areas: the records that one takes (the memo's Eq. 3), and the slot of an entry in it.
use Rattle.std.specs.Prelude.{ℕ, zero, suc, ◌+◌, ◌*◌, ◌-◌, ◌/◌, cond, leb}
use Rattle.geometry.specs.declared.growth.Growth.{Growth}
use Rattle.geometry.specs.declared.units.EntryNumber.{EntryNumber}
use Rattle.geometry.specs.declared.area.Slot.{Slot}
use Rattle.geometry.specs.Growth.{total_of}

-- words in whole records, rounded up
unfoldable pub records_for : ℕ → ℕ → ℕ
records_for words reclen = (words + (reclen - 1)) / reclen

-- the records of an index area: capacity × lind words, rounded up to whole records
abbrev pub area_records : ℕ → ℕ → ℕ → ℕ
area_records capacity lind reclen = records_for (capacity * lind) reclen

-- which of the first k extensions entry e stands in: the last of them, unless those before it reach so far
unfoldable pub extension_for : Growth → ℕ → ℕ → ℕ
extension_for g zero e = 0
extension_for g (suc k) e = cond (leb e (total_of g k)) (extension_for g k e) (suc k)

-- entry j of extension k, where the slots are lind words long: at word offset (j-1) × lind from the area's start
abbrev pub slot_at : ℕ → ℕ → ℕ → Slot
slot_at k j lind = record { extension = record { 0 = k }; place = j; offset = (j - 1) * lind }

-- the slot of entry e among those of the first nex extensions
unfoldable pub slot_of : Growth → ℕ → ℕ → EntryNumber → Slot
slot_of g nex lind e =
    let k = extension_for g nex e.0 in
    slot_at k (e.0 - total_of g (k - 1)) lind
