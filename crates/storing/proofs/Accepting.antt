-- What holds of an accepted append: its words are within the bytes lent, its numbers are admitted again, and its index has a slot before it. Assumes nothing.
use Prim.Native.Nat.{ℕ, ◌+◌, ◌*◌, ◌-◌, ◌/◌, ◌^◌, ◌≤◌}
use mathlib.Core.Path.{◌≡◌, refl, ap}
use mathlib.Core.Bool.{true, false}
use mathlib.Core.List.{List}
use native.Mathlib.Omega.{arith}
use borrow.Author.Tests.{eqb-true, eqb-false}
use lib.ListN.{length}
use Rattle.geometry.specs.declared.units.RecordNumber.{RecordNumber}
use Rattle.geometry.specs.declared.units.EntryNumber.{EntryNumber}
use Rattle.geometry.specs.Units.{position_of, entries_before}
use Rattle.geometry.specs.Growth.{total_of}
use Rattle.geometry.proofs.Slots.{Holds, slot_held, slot-begins}
use Rattle.descriptor.specs.declared.numbers.DescriptorNumbers.{DescriptorNumbers}
use Rattle.descriptor.specs.FirstRecord.{aex_of, growth_in}
use Rattle.descriptor.specs.Bounds.{Admitted}
use Rattle.descriptor.proofs.Fitting.{fit-reach, fit-full}
use Rattle.pieces.specs.EntryDescriptor.{word_offset}
use Rattle.layout.specs.EntryWords.{first_content}
use Rattle.entry.specs.Opening.{slot_position_of}
use Rattle.entry.proofs.Entering.{slot-inside, slot-low}
use Rattle.storing.specs.Handed.{Handed, sum_of, nsec_in, ldata_in, nword_in}
use Rattle.placing.specs.Placing.{full, new_start, entry_start, numbers_after, addresses_after}
use Rattle.storing.specs.Writing.{behind, head_from, head_of}
use Rattle.storing.specs.Bounds.{Fitting, Accepted}
use Rattle.placing.specs.Bounds.{Extensible}
use Rattle.placing.proofs.Kept.{kept, in_use, nex-full, nex-kept, addresses-kept, address-new, free-after}

-- ---- the numbers of what is handed in

-- the nword that the head has
pub head-nword : (h : Handed) (number : EntryNumber) → (head_of h number).nword ≡ nword_in h
unfolding head_from
head-nword h number = refl

-- the version
pub head-version : (h : Handed) (number : EntryNumber) → (head_of h number).version ≡ h.version
unfolding head_from
head-version h number = refl

-- and the nsec
pub head-nsec : (h : Handed) (number : EntryNumber) → (head_of h number).nsec ≡ nsec_in h
unfolding head_from
head-nsec h number = refl

module _ (d : DescriptorNumbers) (h : Handed) (f : Fitting d h) where
  -- the sections' bytes are whole words, as many as the lengths say
  pub section-words : length h.sections / 4 ≡ sum_of h.lengths
  section-words = omega (arith, f.sections)

  -- and so are the data's
  pub value-bytes : length h.values ≡ 4 * ldata_in h
  value-bytes = omega (arith, f.whole)

  -- the data follow them
  pub data-next : (start : ℕ) → word_offset start (behind (first_content (nsec_in h)) (sum_of h.lengths)) ≡ word_offset start (first_content (nsec_in h)) + length h.sections
  data-next start = omega (arith, f.sections)

  -- so the head is made of counts of bytes
  pub head-counted : (number : EntryNumber) → head_from h.version (length h.ids) (length h.sections / 4) (length h.values / 4) number ≡ head_of h number
  head-counted number = ap (λ (n : ℕ). head_from h.version (length h.ids) n (length h.values / 4) number) section-words

-- ---- the slot of a new entry

-- the last extension in use holds it, where they are not full
pub held_next : (bytes : ℕ) (d : DescriptorNumbers) (addresses : List RecordNumber) → Admitted bytes d addresses → full d ≡ false → Holds (growth_in d) d.xnext.0 d.nex
unfolding full
held_next bytes d addresses a q =
    let g = growth_in d in
    let n = entries_before d.xnext in
    let other = eqb-false n (total_of g d.nex) q in
    let used = in_use g n d.nex a.fit other in
    let reach = fit-reach g n d.nex a.fit in
    record { counted = used; behind = omega (arith, a.counted, fit-full g n d.nex used a.fit); reached = omega (arith, a.counted) }

module _ (bytes : ℕ) (d : DescriptorNumbers) (addresses : List RecordNumber) (a : Admitted bytes d addresses) (x : Extensible d) where
  -- it stands before the entry: it is where it would be if the file ended where the entry starts
  pub slot-before : entry_start d ≤ bytes / 4 → slot_position_of (numbers_after d (entry_start d)) (addresses_after d addresses) d.xnext + d.lind ≤ entry_start d
  unfolding numbers_after
  slot-before inside =
      let k = kept bytes d addresses a x (entry_start d) (omega arith) inside in
      let free = free-after bytes d addresses a x (entry_start d) (omega arith) inside in
      omega (arith, slot-inside bytes (numbers_after d (entry_start d)) (addresses_after d addresses) k d.xnext a.counted (omega arith))

  module _ (end : ℕ) where
    -- in a new area it is slot 1
    pub slot-new : full d ≡ true → slot_position_of (numbers_after d end) (addresses_after d addresses) d.xnext ≡ new_start d
    unfolding full slot_position_of numbers_after
    slot-new q =
        let all = eqb-true (entries_before d.xnext) (total_of (growth_in d) d.nex) q in
        let first = slot-begins (growth_in d) d.nex d.lind d.xnext (omega (arith, all, a.counted)) in
        rw (nex-full d q, first, address-new bytes d addresses a x q) (omega arith)

    -- otherwise the next one of the last area in use
    pub slot_next : full d ≡ false → slot_position_of (numbers_after d end) (addresses_after d addresses) d.xnext
        ≡ position_of d.reclen (aex_of addresses d.nex) (record { 0 = 1 }) + (entries_before d.xnext - total_of (growth_in d) (d.nex - 1)) * d.lind
    unfolding slot_position_of numbers_after
    slot_next q =
        let held = held_next bytes d addresses a q in
        let place : d.xnext.0 - total_of (growth_in d) (d.nex - 1) - 1 ≡ entries_before d.xnext - total_of (growth_in d) (d.nex - 1) = omega (arith, held.behind) in
        let there = slot_held (growth_in d) d.nex d.lind d.xnext d.nex held.reached held in
        rw (nex-kept d q, ← there, addresses-kept bytes d addresses a x d.nex held.counted (omega arith)) (rw place)

-- ---- the accepted append

module _ (bytes : ℕ) (d : DescriptorNumbers) (addresses : List RecordNumber) (h : Handed) (x : Accepted bytes d addresses h) where
  -- the entry ends within the bytes lent
  pub entry-within : 4 * (entry_start d + nword_in h) ≤ bytes
  entry-within = omega (arith, x.inside)

  -- and so its end is small
  pub entry-small : entry_start d + nword_in h ≤ 2 ^ 28
  entry-small = omega (arith, x.inside, x.admitted.lent.high)

  -- the numbers after it
  abbrev pub after : DescriptorNumbers
  after = numbers_after d (entry_start d + nword_in h)

  -- the addresses after it
  abbrev pub addresses_then : List RecordNumber
  addresses_then = addresses_after d addresses

  -- which are admitted again
  pub admitted-after : Admitted bytes after addresses_then
  admitted-after = kept bytes d addresses x.admitted x.extensible (entry_start d + nword_in h) (omega arith) x.inside

  -- the entry is the last of them
  pub number-last : entries_before after.xnext ≡ d.xnext.0
  unfolding numbers_after
  number-last = omega arith

  -- where its index stands
  abbrev pub slot_then : ℕ
  slot_then = slot_position_of after addresses_then d.xnext

  -- behind the first record
  pub slot-first : d.reclen ≤ slot_then
  unfolding numbers_after
  slot-first = slot-low bytes after addresses_then admitted-after d.xnext x.admitted.counted (omega (arith, number-last))

  -- and before the entry
  pub slot-last : slot_then + d.lind ≤ entry_start d
  unfolding numbers_after slot_position_of
  slot-last = slot-before bytes d addresses x.admitted x.extensible (omega (arith, x.inside))
