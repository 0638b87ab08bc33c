-- Where an append puts things: the new index area, if one is needed, and the entry.
use Rattle.std.specs.Prelude.{ℕ, ◌+◌, Bool, cond, List, eqb, set}
use Rattle.geometry.specs.declared.units.RecordNumber.{RecordNumber}
use Rattle.geometry.specs.Units.{position_of, place_of, entries_before}
use Rattle.geometry.specs.Growth.{capacity_of, total_of}
use Rattle.geometry.specs.Area.{records_for, area_records}
use Rattle.descriptor.specs.declared.numbers.DescriptorNumbers.{DescriptorNumbers}
use Rattle.descriptor.specs.FirstRecord.{growth_in, free_of}

-- entry n + 1 exceeds the capacities in use
unfoldable pub full : DescriptorNumbers → Bool
full d = eqb (entries_before d.xnext) (total_of (growth_in d) d.nex)

-- the new area's first record: the first record boundary at or after the next free position
unfoldable pub new_area : DescriptorNumbers → RecordNumber
new_area d = record { 0 = records_for (free_of d) d.reclen + 1 }

-- the position where it starts
abbrev pub new_start : DescriptorNumbers → ℕ
new_start d = position_of d.reclen (new_area d) (record { 0 = 1 })

-- the record after the new area
unfoldable pub after_new_area : DescriptorNumbers → RecordNumber
after_new_area d = record { 0 = (new_area d).0 + area_records (capacity_of (growth_in d) (d.nex + 1)) d.lind d.reclen }

-- the entry starts at the next free position, or right after the new area
unfoldable pub entry_start : DescriptorNumbers → ℕ
entry_start d = cond (full d) (position_of d.reclen (after_new_area d) (record { 0 = 1 })) (free_of d)

-- the extensions in use after an append
unfoldable pub nex_after : DescriptorNumbers → ℕ
nex_after d = cond (full d) (d.nex + 1) d.nex

-- the numbers after an append whose entry ends at a position
unfoldable pub numbers_after : DescriptorNumbers → ℕ → DescriptorNumbers
numbers_after d end =
    let next = place_of d.reclen end in
    record {
      order = d.order;
      reclen = d.reclen;
      kind = d.kind;
      vind = d.vind;
      lind = d.lind;
      flags = d.flags;
      xnext = record { 0 = d.xnext.0 + 1 };
      nextrec = next.«record»;
      nextword = next.word;
      lex1 = d.lex1;
      nex = nex_after d;
      gex = d.gex;
    }

-- and the addresses
unfoldable pub addresses_after : DescriptorNumbers → List RecordNumber → List RecordNumber
addresses_after d addresses = cond (full d) (set addresses d.nex (new_area d)) addresses
