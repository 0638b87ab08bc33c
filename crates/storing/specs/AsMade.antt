-- The writes of an accepted append in the order in which they are made: the entry, its index, the rest of a new area, and the counts. No two share a byte, and
-- together they leave `appended`: `made-apart` and `made-appended`, in proofs/Made.antt.
use Rattle.std.specs.Prelude.{ℕ, ◌+◌, ◌-◌, cond, List, [], ◌∷◌, ◌++◌, ℤ, length}
use Rattle.image.specs.Image.{zeros}
use Rattle.image.specs.Writes.{Write, put}
use Rattle.words.specs.declared.byte_order.ByteOrder.{ByteOrder}
use Rattle.words.specs.Word.{numeral}
use Rattle.geometry.specs.declared.units.RecordNumber.{RecordNumber}
use Rattle.geometry.specs.declared.units.EntryNumber.{EntryNumber}
use Rattle.geometry.specs.declared.units.EntryAddress.{EntryAddress}
use Rattle.geometry.specs.declared.units.Place.{Place}
use Rattle.geometry.specs.Units.{place_of, offset_of}
use Rattle.layout.specs.FirstRecordWords.{nex_word, aex_word}
use Rattle.layout.specs.EntryWords.{first_content}
use Rattle.descriptor.specs.declared.numbers.DescriptorNumbers.{DescriptorNumbers}
use Rattle.descriptor.specs.FirstRecord.{free_of}
use Rattle.pieces.specs.EntryDescriptor.{word_offset}
use Rattle.entry.specs.Opening.{slot_position_of}
use Rattle.placing.specs.declared.placement.Placement.{Placement}
use Rattle.placing.specs.Placing.{full, new_area, new_start, entry_start, numbers_after, addresses_after}
use Rattle.placing.specs.Placement.{placed_at}
use Rattle.fields.specs.FieldWrites.{field, count_writes}
use Rattle.pieces.specs.declared.head.Head.{Head}
use Rattle.storing.specs.Handed.{Handed}
use Rattle.storing.specs.Writing.{head_of, head_writes, table_writes, slot_writes}

-- the descriptor of an entry that starts at a position: its head and its tables
abbrev pub descriptor_writes : ByteOrder → ℕ → Head → List ℤ → List ℤ → List Write
descriptor_writes o start head ids lengths = head_writes o start head ++ table_writes o start ids lengths

-- its sections from a word of it on, and its data behind them
abbrev pub pieces_writes : ℕ → EntryAddress → List ℕ → List ℕ → List Write
pieces_writes start first sections values =
    put (word_offset start first) sections ∷
    put (word_offset start first + length sections) values ∷
    []

-- the index of an entry, by its number
abbrev pub index_writes : DescriptorNumbers → List RecordNumber → EntryNumber → Place → List ℕ → List Write
index_writes after addresses number place index = slot_writes after.order (slot_position_of after addresses number) place index

-- zeros in the words from one position to another
abbrev pub clear : ℕ → ℕ → Write
clear from to = put (offset_of from) (zeros (offset_of (to - from)))

-- and in those of them that do not stand from a slot's start to its end
abbrev pub clear_around : ℕ → ℕ → ℕ → ℕ → List Write
clear_around from slot slot_end to =
    clear from slot ∷
    clear slot_end to ∷
    []

-- nex and the address of a new area
abbrev pub extension_writes : DescriptorNumbers → List Write
extension_writes d =
    field nex_word (numeral d.order 4 (d.nex + 1)) ∷
    field (aex_word d.nex) (numeral d.order 8 (new_area d).0) ∷
    []

-- the rest of a new area, if one is needed: the words skipped before it and its words behind slot 1 become zero, nex and its address are set
abbrev pub rest_writes : DescriptorNumbers → List Write
rest_writes d = cond (full d) (clear_around (free_of d) (new_start d) (new_start d + d.lind) (entry_start d) ++ extension_writes d) []

-- all of them, for an entry with this head at its place
abbrev pub store_writes : DescriptorNumbers → List RecordNumber → Placement → Head → Handed → List Write
store_writes d addresses placed head h =
    let after = numbers_after d (placed.start + head.nword) in
    descriptor_writes d.order placed.start head h.ids h.lengths ++
    (pieces_writes placed.start (first_content head.nsec) h.sections h.values ++
    (index_writes after (addresses_after d addresses) d.xnext (place_of d.reclen placed.start) h.index ++
    (rest_writes d ++
    count_writes after)))

-- for what is handed in
abbrev pub append_writes : DescriptorNumbers → List RecordNumber → Handed → List Write
append_writes d addresses h = store_writes d addresses (placed_at d) (head_of h d.xnext) h
