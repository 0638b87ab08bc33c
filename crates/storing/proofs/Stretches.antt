-- Writes of an append that follow one another: those of the entry, of its index, and of the counts. Assumes nothing.
use Prim.Native.Nat.{ℕ, ◌*◌, ◌-◌, ◌≤◌}
use mathlib.Core.Path.{◌≡◌}
use mathlib.Core.List.{List, ◌++◌}
use native.Mathlib.Omega.{arith}
use lib.ListN.{length, length-append}
use Rattle.image.specs.Writes.{Write}
use Rattle.image.proofs.Writes.{Stretch}
use Rattle.words.specs.declared.byte_order.ByteOrder.{ByteOrder}
use Rattle.words.proofs.Number.{length-numeral}
use Rattle.geometry.specs.declared.units.EntryNumber.{EntryNumber}
use Rattle.geometry.specs.declared.units.Place.{Place}
use Rattle.descriptor.specs.declared.numbers.DescriptorNumbers.{DescriptorNumbers}
use Rattle.fields.specs.FieldWrites.{count_writes}
use Rattle.storing.specs.Handed.{Handed, nword_in}
use Rattle.storing.specs.Writing.{head_of, head_writes, table_writes, content_writes, slot_writes}
use Rattle.storing.specs.Bounds.{Fitting}
use Rattle.storing.proofs.TableBytes.{length-identifier_bytes, length-length_bytes, length-address_bytes}
use Rattle.storing.proofs.Accepting.{value-bytes}

-- the writes of the entry that starts at a position, in the order of its words
abbrev pub entry_writes : ByteOrder → ℕ → Handed → EntryNumber → List Write
entry_writes o start h number = head_writes o start (head_of h number) ++ (table_writes o start h.ids h.lengths ++ content_writes start h)

-- they write its nword words
pub entry-stretch : (o : ByteOrder) (start : ℕ) (h : Handed) (number : EntryNumber) (d : DescriptorNumbers) → Fitting d h → Stretch (4 * start) (4 * nword_in h) (entry_writes o start h number)
entry-stretch o start h number d f = (
  simp (length-numeral, length-identifier_bytes, length-length_bytes, length-address_bytes) (omega (arith, f.pairs, f.sections)),
  simp (length-append, length-numeral, length-identifier_bytes, length-length_bytes, length-address_bytes) (omega (arith, f.pairs, f.sections, value-bytes d h f)),
)

-- those of its index the lind words of a slot
pub slot-stretch : (o : ByteOrder) (slot lind : ℕ) (place : Place) (index : List ℕ) → 3 ≤ lind → length index ≡ 4 * (lind - 3) → Stretch (4 * slot) (4 * lind) (slot_writes o slot place index)
slot-stretch o slot lind place index low e = (simp length-numeral (omega arith), simp (length-append, length-numeral) (omega arith))

-- and those of the counts words 7 to 11 of the first record
pub count-stretch : (d : DescriptorNumbers) → Stretch 24 20 (count_writes d)
count-stretch d = (simp length-numeral (omega arith), simp (length-append, length-numeral) (omega arith))
