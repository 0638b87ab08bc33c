-- What an accepted append leaves: its names, and their laws. The file, the numbers and addresses after it, the areas, the new slot, where the entry stands, and what
-- stays of each. Which bytes stay is in Frame, and that the file validates with these numbers in ReadBack. Assumes nothing.
use Prim.Native.Nat.{ℕ, ◌+◌, ◌*◌, ◌^◌, ◌≤◌}
use mathlib.Core.Path.{◌≡◌, refl, ap, ◌∙◌}
use mathlib.Core.Bool.{true}
use mathlib.Core.List.{List}
use native.Mathlib.Omega.{arith}
use lib.ListN.{length}
use Rattle.image.specs.Writes.{writes}
use Rattle.image.proofs.Writes.{length-writes}
use Rattle.outcome.proofs.Either.{either}
use Rattle.geometry.specs.declared.units.RecordNumber.{RecordNumber}
use Rattle.geometry.specs.declared.units.EntryNumber.{EntryNumber}
use Rattle.geometry.specs.Units.{place_of, entries_before}
use Rattle.geometry.specs.Area.{slot_of}
use Rattle.geometry.proofs.Slots.{slot-more}
use Rattle.descriptor.specs.declared.numbers.DescriptorNumbers.{DescriptorNumbers}
use Rattle.descriptor.specs.FirstRecord.{aex_of, growth_in, free_of}
use Rattle.descriptor.specs.Areas.{area_start_of, area_end_of}
use Rattle.descriptor.specs.Bounds.{Admitted}
use Rattle.descriptor.proofs.Admitting.{first-free}
use Rattle.descriptor.proofs.Fitting.{fit-reach}
use Rattle.entry.specs.Opening.{slot_position_of}
use Rattle.entry.proofs.Entering.{slot-in-use}
use Rattle.storing.specs.Handed.{Handed, nword_in}
use Rattle.placing.specs.Placing.{full, entry_start, nex_after, numbers_after, addresses_after}
use Rattle.fields.specs.FieldWrites.{count_writes}
use Rattle.storing.specs.Writing.{area_writes, slot_writes, area_written, entry_written, index_written, appended}
use Rattle.storing.specs.Bounds.{Accepted}
use Rattle.placing.proofs.Places.{new-low, start-low}
use Rattle.placing.proofs.Kept.{nex-full, nex-kept, addresses-kept, address-new, area-ends-after, free-after}
use Rattle.placing.proofs.AreasAgree.{after_same, after-agree}
use Rattle.written.proofs.Cases.{by_last}
use Rattle.storing.proofs.Accepting.{after, admitted-after, slot_then, slot-first, slot-last, entry-within, entry-small}

-- a new area keeps the length of the file
pub length-area : (file : List ℕ) (d : DescriptorNumbers) → length (area_written file d) ≡ length file
unfolding area_written
length-area file d = either (full d) (λ q. rw q (length-writes file (area_writes d))) (λ q. rw q)

-- and so does an entry
pub length-entry : (file : List ℕ) (d : DescriptorNumbers) (h : Handed) → length (entry_written file d h) ≡ length file
unfolding entry_written
length-entry file d h = simp length-writes

module _ (file : List ℕ) {d : DescriptorNumbers} {addresses : List RecordNumber} {h : Handed} (x : Accepted (length file) d addresses h) where
  -- ---- the names

  -- the file after it
  abbrev pub new : List ℕ
  new = appended file d addresses h

  -- the numbers after it
  abbrev pub then : DescriptorNumbers
  then = after (length file) d addresses h x

  -- the addresses after it
  abbrev pub areas_then : List RecordNumber
  areas_then = addresses_after d addresses

  -- the position of the new entry's slot
  abbrev pub slot : ℕ
  slot = slot_then (length file) d addresses h x

  -- the position behind the new entry
  abbrev pub end : ℕ
  end = entry_start d + nword_in h

  -- the file as its index left it, before the counts are written
  abbrev pub indexed : List ℕ
  indexed = writes (entry_written (area_written file d) d h) (slot_writes d.order slot (place_of d.reclen (entry_start d)) h.index)

  -- the file that is left is this one with the counts written
  pub counted-last : new ≡ writes indexed (count_writes then)
  unfolding appended index_written numbers_after
  counted-last = refl

  -- ---- the numbers

  -- what holds of them
  pub record Left : Type 0 where
    -- the length stays
    pub size : length new ≡ length file
    pub size-indexed : length indexed ≡ length file
    -- they are admitted, and the settings stay
    pub admitted : Admitted (length file) then areas_then
    pub reclen : then.reclen ≡ d.reclen
    pub lind : then.lind ≡ d.lind
    pub growth : growth_in then ≡ growth_in d
    -- there are as many extensions or one more, and one entry more, the new one
    pub nex : then.nex ≡ nex_after d
    pub extensions : d.nex ≤ nex_after d
    pub entries : entries_before then.xnext ≡ entries_before d.xnext + 1
    pub last : d.xnext.0 ≡ entries_before d.xnext + 1
    -- the entry starts at the next free position or behind, and ends at the one after it, within the file
    pub first : d.reclen ≤ free_of d
    pub start : free_of d ≤ entry_start d
    pub free : free_of then ≡ end
    pub within : 4 * end ≤ length file
    pub small : end ≤ 2 ^ 28
    -- its slot stands behind the first record and before the entry
    pub slot-first : d.reclen ≤ slot
    pub slot-last : slot + d.lind ≤ entry_start d

  -- and that it does
  pub left : Left
  unfolding numbers_after
  left =
      let a = admitted-after (length file) d addresses h x in
      let size : length indexed ≡ length file = simp length-writes (length-entry (area_written file d) d h ∙ length-area file d) in
      record {
        size = ap length counted-last ∙ length-writes indexed (count_writes then) ∙ size;
        size-indexed = size;
        admitted = a;
        reclen = refl;
        lind = refl;
        growth = refl;
        nex = refl;
        extensions = either (full d) (λ q. omega (arith, nex-full d q)) (λ q. omega (arith, nex-kept d q));
        entries = omega (arith, x.admitted.counted);
        last = omega (arith, x.admitted.counted);
        first = first-free (length file) d addresses x.admitted;
        start = start-low d x.admitted.settled;
        free = free-after (length file) d addresses x.admitted x.extensible end (omega arith) x.inside;
        within = entry-within (length file) d addresses h x;
        small = entry-small (length file) d addresses h x;
        slot-first = slot-first (length file) d addresses h x;
        slot-last = slot-last (length file) d addresses h x;
      }

  -- ---- the entries and the areas that were there

  -- an entry keeps its place in its extension
  pub slot_same : (e : EntryNumber) → 1 ≤ e.0 → e.0 ≤ entries_before d.xnext → slot_of (growth_in then) then.nex then.lind e ≡ slot_of (growth_in d) d.nex d.lind e
  unfolding numbers_after
  slot_same e low high =
      slot-more (growth_in d) d.nex (nex_after d) d.lind e low
      (omega (arith, fit-reach (growth_in d) (entries_before d.xnext) d.nex x.admitted.fit)) left.extensions

  module _ (k : ℕ) (low : 1 ≤ k) (high : k ≤ d.nex) where
    -- an area in use keeps its address
    address_same : aex_of areas_then k ≡ aex_of addresses k
    address_same = addresses-kept (length file) d addresses x.admitted x.extensible k low high

    -- so it starts where it started
    pub area-from : area_start_of then areas_then k ≡ area_start_of d addresses k
    unfolding numbers_after
    area-from = rw address_same

    -- and ends where it ended
    pub area-to : area_end_of then areas_then k ≡ area_end_of d addresses k
    unfolding numbers_after
    area-to = rw (after_same d end areas_then k, after-agree d areas_then addresses k (λ o. address_same))

  -- an entry's slot stays where it was
  pub slot-stays : (e : EntryNumber) → 1 ≤ e.0 → e.0 ≤ entries_before d.xnext → slot_position_of then areas_then e ≡ slot_position_of d addresses e
  unfolding slot_position_of numbers_after
  slot-stays e low high =
      let u = slot-in-use (length file) d addresses x.admitted e low high in
      rw (slot_same e low high, address_same (slot_of (growth_in d) d.nex d.lind e).extension.0 u.held.counted u.used)

  -- ---- the new area

  -- it starts at or after the next free position
  pub area-new : full d ≡ true → free_of d ≤ area_start_of then areas_then (d.nex + 1)
  unfolding numbers_after
  area-new q = rw (address-new (length file) d addresses x.admitted x.extensible q) (new-low d x.admitted.settled)

  -- an area in use after the append is one that was, or the new one
  pub by-area {ℓ} : {X : Type ℓ} (k : ℕ) → k ≤ then.nex → (k ≤ d.nex → X) → (full d ≡ true → k ≡ d.nex + 1 → X) → X
  by-area k m f g =
      either (full d)
      (λ q. by_last d.nex k (omega (arith, left, nex-full d q)) f (g q))
      (λ q. f (omega (arith, left, nex-kept d q)))

  -- the last of them ends before the new entry starts
  pub area-last : area_end_of then areas_then then.nex ≤ entry_start d
  unfolding numbers_after
  area-last = rw (after_same d end areas_then (nex_after d)) (area-ends-after (length file) d addresses x.admitted x.extensible)
