-- The frame of an append: which bytes it leaves as they are. Assumes nothing.
use Prim.Native.Nat.{ℕ, ◌+◌, ◌*◌, ◌-◌, ◌≤◌}
use mathlib.Core.Path.{◌≡◌, ap, ◌∙◌}
use mathlib.Core.Bool.{true}
use Rattle.outcome.proofs.Either.{either}
use mathlib.Core.Logic.{inl, inr}
use mathlib.Core.List.{List, [], ◌∷◌}
use native.Mathlib.Omega.{arith}
use lib.ListN.{length}
use Rattle.image.specs.Image.{part, splice, zeros}
use Rattle.image.specs.Writes.{writes}
use Rattle.image.proofs.Part.{part-within}
use Rattle.image.proofs.Splice.{length-zeros}
use Rattle.image.proofs.Writes.{Beside, beside-part, stretch-keep, writes-keep}
use Rattle.words.specs.declared.byte_order.ByteOrder.{ByteOrder}
use Rattle.words.specs.Word.{numeral}
use Rattle.words.proofs.Number.{length-numeral}
use Rattle.geometry.specs.declared.units.RecordNumber.{RecordNumber}
use Rattle.geometry.specs.declared.units.Place.{Place}
use Rattle.geometry.specs.Units.{place_of}
use Rattle.layout.specs.FirstRecordWords.{nex_word, aex_word}
use Rattle.descriptor.specs.declared.numbers.DescriptorNumbers.{DescriptorNumbers}
use Rattle.descriptor.specs.FirstRecord.{free_of}
use Rattle.storing.specs.Handed.{Handed, nword_in}
use Rattle.placing.specs.Placing.{full, new_area, entry_start}
use Rattle.fields.specs.FieldWrites.{field, count_writes}
use Rattle.storing.specs.Writing.{area_writes, slot_writes, area_written, entry_written}
use Rattle.storing.specs.Bounds.{Fitting, Accepted}
use Rattle.storing.proofs.Stretches.{entry_writes, entry-stretch, slot-stretch, count-stretch}
use Rattle.placing.proofs.Places.{nex-more}
use Rattle.written.proofs.AppendLeaves.{new, then, slot, indexed, counted-last, left}

-- ---- each write of an append

module _ (a n : ℕ) where
  -- the counts change words 7 to 11 of the first record
  pub counts-keep : (file : List ℕ) (d : DescriptorNumbers) → Beside a n 24 20 → part (writes file (count_writes d)) a n ≡ part file a n
  counts-keep file d = stretch-keep a n file 24 20 (count_writes d) (count-stretch d)

  -- the index changes its slot of lind words
  slot-keep : (o : ByteOrder) (file : List ℕ) (slot lind : ℕ) (place : Place) (index : List ℕ) → 3 ≤ lind → length index ≡ 4 * (lind - 3)
      → Beside a n (4 * slot) (4 * lind) → part (writes file (slot_writes o slot place index)) a n ≡ part file a n
  slot-keep o file slot lind place index low e = stretch-keep a n file (4 * slot) (4 * lind) (slot_writes o slot place index) (slot-stretch o slot lind place index low e)

  module _ (file : List ℕ) (d : DescriptorNumbers) where
    -- the entry changes its nword words
    entry-keep : (h : Handed) → Fitting d h → Beside a n (4 * entry_start d) (4 * nword_in h) → part (entry_written file d h) a n ≡ part file a n
    unfolding entry_written
    entry-keep h f = stretch-keep a n file (4 * entry_start d) (4 * nword_in h) (entry_writes d.order (entry_start d) h d.xnext) (entry-stretch d.order (entry_start d) h d.xnext d f)

    -- a new area changes nex, its address, and the words from the next free position to the entry
    area-keep : Beside a n (4 * free_of d) (4 * (entry_start d - free_of d)) → (full d ≡ true → Beside a n 48 4 × Beside a n (56 + 8 * d.nex) 8)
        → part (area_written file d) a n ≡ part file a n
    unfolding area_written
    area-keep far b =
        either (full d)
        (λ q.
        let address = beside-part a n (56 + 8 * d.nex) 8 (4 * (15 + 2 * d.nex - 1)) 8 (b q).1 (omega arith) (omega arith) in
        rw q (writes-keep file (area_writes d) a n (simp (length-zeros, length-numeral) (far, ((b q).0, (address, tt))))))
        (λ q. rw q)

-- an accepted append, at the n bytes from offset a on
module _ (file : List ℕ) {d : DescriptorNumbers} {addresses : List RecordNumber} {h : Handed} (x : Accepted (length file) d addresses h) (a n : ℕ) where
  -- beside words 7 to 11 of the first record and the slot of the new entry they are as the entry left them
  pub entry-left : Beside a n 24 20 → Beside a n (4 * slot file x) (4 * d.lind) → part (new file x) a n ≡ part (entry_written (area_written file d) d h) a n
  entry-left counts far =
      ap (λ (f : List ℕ). part f a n) (counted-last file x)
      ∙ counts-keep a n (indexed file x) (then file x) counts
      ∙ slot-keep a n d.order (entry_written (area_written file d) d h) (slot file x) d.lind (place_of d.reclen (entry_start d)) h.index x.admitted.settled.lind-low x.fitting.index far

  -- beside the entry too, as the new area left them
  pub area-left : Beside a n 24 20 → Beside a n (4 * slot file x) (4 * d.lind) → Beside a n (4 * entry_start d) (4 * nword_in h) → part (new file x) a n ≡ part (area_written file d) a n
  area-left counts far entry = entry-left counts far ∙ entry-keep a n (area_written file d) d h x.fitting entry

  -- the words skipped and the new area are zero but for the slot
  pub area-zero : full d ≡ true → 4 * free_of d ≤ a → a + n ≤ 4 * entry_start d → Beside a n (4 * slot file x) (4 * d.lind)
      → part (new file x) a n ≡ part (zeros (4 * (entry_start d - free_of d))) (a - 4 * free_of d) n
  unfolding area_written
  area-zero q low high far =
      let zeroed = zeros (4 * (entry_start d - free_of d)) in
      let m = length-zeros (4 * (entry_start d - free_of d)) in
      let l = left file x in
      let words = x.admitted.settled.reclen-low in
      let room = (nex-more d x.admitted.settled x.extensible q).1 in
      area-left (inr (omega arith)) far (inl high)
      ∙ rw q
      (writes-keep (splice file (4 * free_of d) zeroed) (field nex_word (numeral d.order 4 (d.nex + 1)) ∷ field (aex_word d.nex) (numeral d.order 8 (new_area d).0) ∷ []) a n (simp length-numeral (inr (omega arith), (inr (omega arith), tt)))
      ∙ part-within file a n (4 * free_of d) zeroed (a - 4 * free_of d) (omega arith) (omega arith) (omega arith))

  -- an accepted append changes words 7 to 11 of the first record, nex and the new address where an extension is made, the slot of the new entry, and the
  -- words from the next free position to the entry's end. All other bytes stay
  pub frame : Beside a n (4 * free_of d) (4 * (entry_start d + nword_in h - free_of d)) → Beside a n 24 20
      → (full d ≡ true → Beside a n 48 4 × Beside a n (56 + 8 * d.nex) 8) → Beside a n (4 * slot file x) (4 * d.lind) → part (new file x) a n ≡ part file a n
  frame far counts extended slots =
      let l = left file x in
      let all = 4 * (entry_start d + nword_in h - free_of d) in
      area-left counts slots (beside-part a n (4 * free_of d) all (4 * entry_start d) (4 * nword_in h) far (omega arith) (omega arith))
      ∙ area-keep a n file d (beside-part a n (4 * free_of d) all (4 * free_of d) (4 * (entry_start d - free_of d)) far (omega arith) (omega arith)) extended
