-- What becomes of each byte of a file (01, "Create and append"): every offset has one class, by tests in turn, and its class says what the byte is afterwards.
use Rattle.std.specs.Prelude.{ℕ, ◌+◌, ◌*◌, ◌-◌, ◌≡◌, Bool, cond, ◌&&◌, List, [], ◌∷◌, leb, ltb, length, get_or}
use Rattle.geometry.specs.declared.units.RecordNumber.{RecordNumber}
use Rattle.geometry.specs.Units.{offset_of, first_record_offset_of}
use Rattle.descriptor.specs.declared.numbers.DescriptorNumbers.{DescriptorNumbers}
use Rattle.descriptor.specs.FirstRecord.{free_of}
use Rattle.entry.specs.Opening.{slot_position_of}
use Rattle.storing.specs.Handed.{Handed, nword_in}
use Rattle.placing.specs.Placing.{full, entry_start, numbers_after, addresses_after}

-- the byte at offset i; 0 past the file's end
abbrev pub byte_at : List ℕ → ℕ → ℕ
byte_at file i = get_or file i 0

-- offset i lies in the n words from offset a on
unfoldable pub covers : ℕ → ℕ → ℕ → Bool
covers a n i = leb a i && ltb i (a + offset_of n)

-- in the n words from position p on
abbrev pub in_words : ℕ → ℕ → ℕ → Bool
in_words p n i = covers (offset_of p) n i

-- in the n words from word w of the first record on
abbrev pub in_fields : ℕ → ℕ → ℕ → Bool
in_fields w n i = covers (first_record_offset_of (record { 0 = w })) n i

-- ---- the classes

-- a field of the first record that the call sets, the new entry's slot, a word that becomes zero, the new entry, and any other
pub data Class : Type 0 where
  field slot cleared entry other : Class

-- what a class says of a byte before and after. What the fields, the slot and the entry hold is said by what is read of them again
abbrev pub Says : Class → ℕ → ℕ → Type 0
Says field before after = Unit
Says slot before after = Unit
Says cleared before after = after ≡ 0
Says entry before after = Unit
Says other before after = after ≡ before

-- a test, and the class that it gives where it holds
pub data Test : Type 0 where
  when : Bool → Class → Test

-- the class of the first test that holds, and other where none does
abbrev pub first_of : List Test → Class
first_of [] = other
first_of (when holds class ∷ tests) = cond holds class (first_of tests)

-- the length stays, and every byte is as the class says that the tests give its offset
pub record AsClassed (tests : ℕ → List Test) (before after : List ℕ) : Type 0 where
  pub size : length after ≡ length before
  pub each : (i : ℕ) → Says (first_of (tests i)) (byte_at before i) (byte_at after i)

-- ---- an accepted creation

-- words 1 to 14 hold the fields; the rest of the first record becomes zero
abbrev pub create_classes : ℕ → ℕ → List Test
create_classes reclen i = when (in_fields 1 14 i) field ∷ when (in_fields 15 (reclen - 14) i) cleared ∷ []

-- ---- an accepted append

-- the position of the new entry's slot
abbrev pub new_slot : DescriptorNumbers → List RecordNumber → Handed → ℕ
new_slot d addresses h = slot_position_of (numbers_after d (entry_start d + nword_in h)) (addresses_after d addresses) d.xnext

-- xnext, nextrec and nextword; where an extension is made, nex and the new address; the slot of lind words; the words skipped and the new area, which reach from the
-- next free position to the entry's start, and are none where no extension is made; and the entry
abbrev pub append_classes : DescriptorNumbers → List RecordNumber → Handed → ℕ → List Test
append_classes d addresses h i =
    when (in_fields 7 2 i) field ∷
    when (in_fields 9 2 i) field ∷
    when (in_fields 11 1 i) field ∷
    when (full d && in_fields 13 1 i) field ∷
    when (full d && in_fields (15 + 2 * d.nex) 2 i) field ∷
    when (in_words (new_slot d addresses h) d.lind i) slot ∷
    when (in_words (free_of d) (entry_start d - free_of d) i) cleared ∷
    when (in_words (entry_start d) (nword_in h) i) entry ∷
    []
