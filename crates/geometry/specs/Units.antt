-- Units counted from 1, positions counted in words from 0, offsets in bytes. A number 0 of a unit names nothing, and no rule admits one.
use Rattle.std.specs.Prelude.{ℕ, ◌+◌, ◌*◌, ◌-◌, ◌/◌, ◌%◌, List, map}
use Rattle.geometry.specs.declared.units.RecordNumber.{RecordNumber}
use Rattle.geometry.specs.declared.units.WordNumber.{WordNumber}
use Rattle.geometry.specs.declared.units.EntryNumber.{EntryNumber}
use Rattle.geometry.specs.declared.units.ExtensionNumber.{ExtensionNumber}
use Rattle.geometry.specs.declared.units.EntryAddress.{EntryAddress}
use Rattle.geometry.specs.declared.units.Place.{Place}

-- record r, word w: (r-1) × reclen + (w-1)
unfoldable pub position_of : ℕ → RecordNumber → WordNumber → ℕ
position_of reclen r w = (r.0 - 1) * reclen + (w.0 - 1)

-- the record and word at a position
unfoldable pub place_of : ℕ → ℕ → Place
place_of reclen p = record { «record» = record { 0 = p / reclen + 1 }; word = record { 0 = p % reclen + 1 } }

-- word a of the entry that starts at a position: start + (a-1)
abbrev pub entry_position_of : ℕ → EntryAddress → ℕ
entry_position_of start a = start + (a.0 - 1)

-- which word of that entry a position is
abbrev pub entry_address_of : ℕ → ℕ → EntryAddress
entry_address_of start p = record { 0 = p - start + 1 }

-- a position, or a count of words, in bytes
abbrev pub offset_of : ℕ → ℕ
offset_of words = 4 * words

-- word w of the first record, in bytes
abbrev pub first_record_offset_of : WordNumber → ℕ
first_record_offset_of w = offset_of (w.0 - 1)

-- how many entries come before entry e
abbrev pub entries_before : EntryNumber → ℕ
entries_before e = e.0 - 1

-- where extension k stands in a table, counted from 0
abbrev pub index_of : ExtensionNumber → ℕ
index_of k = k.0 - 1

-- the numbers of a table of records
abbrev pub record_numbers : List RecordNumber → List ℕ
record_numbers table = map (λ (r : RecordNumber). r.0) table
