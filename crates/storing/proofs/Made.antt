-- The writes of an accepted append as they are made: they are pairwise apart, and together leave the file that 01 names. Assumes nothing.
use Prim.Native.Nat.{ℕ, ◌+◌, ◌*◌, ◌-◌, ◌≤◌}
use mathlib.Core.Path.{◌≡◌, sym, ap, subst, ◌∙◌}
use mathlib.Core.Logic.{inl, inr}
use mathlib.Core.Bool.{true}
use mathlib.Core.List.{List, [], ◌∷◌, ◌++◌}
use native.Mathlib.Omega.{arith}
use lib.ListN.{length}
use Rattle.outcome.proofs.Either.{either}
use Rattle.image.specs.Image.{splice, zeros}
use Rattle.image.specs.Writes.{Write, put, writes, written, Apart, PairwiseApart}
use Rattle.image.proofs.Splice.{length-zeros}
use Rattle.image.proofs.Writes.{Beside, Stretch, apart-append, apart-stretch, stretch-pairwise, writes-append, writes_one, writes-past, zeros-beside}
use Rattle.words.proofs.Number.{length-numeral}
use Rattle.geometry.specs.declared.units.RecordNumber.{RecordNumber}
use Rattle.geometry.specs.Units.{place_of}
use Rattle.layout.specs.EntryWords.{first_content}
use Rattle.descriptor.specs.declared.numbers.DescriptorNumbers.{DescriptorNumbers}
use Rattle.descriptor.specs.FirstRecord.{free_of}
use Rattle.descriptor.proofs.Admitting.{first-free}
use Rattle.pieces.specs.EntryDescriptor.{word_offset}
use Rattle.fields.specs.FieldWrites.{count_writes}
use Rattle.placing.specs.Placing.{full, new_start, entry_start, numbers_after}
use Rattle.placing.proofs.Places.{start-extended, new-low, new-slot, start-low, nex-more}
use Rattle.storing.specs.Handed.{Handed, nsec_in, nword_in}
use Rattle.storing.specs.Writing.{head_from, head_of, head_writes, table_writes, slot_writes, area_writes, area_written, entry_written, index_written, appended}
use Rattle.storing.specs.AsMade.{clear_around, extension_writes, rest_writes, append_writes}
use Rattle.storing.specs.Bounds.{Accepted}
use Rattle.storing.proofs.Accepting.{data-next, after, slot_then, slot-first, slot-last, slot-new}
use Rattle.storing.proofs.Stretches.{entry_writes, entry-stretch, slot-stretch, count-stretch}

module _ (bytes : ℕ) (d : DescriptorNumbers) (addresses : List RecordNumber) (h : Handed) (x : Accepted bytes d addresses h) where
  -- where the entry starts
  abbrev start : ℕ
  start = entry_start d

  -- where its index stands
  abbrev slot : ℕ
  slot = slot_then bytes d addresses h x

  -- the writes of the entry
  abbrev entry : List Write
  entry = entry_writes d.order start h d.xnext

  -- those of its index
  abbrev index : List Write
  index = slot_writes d.order slot (place_of d.reclen start) h.index

  -- and those of the counts
  abbrev counts : List Write
  counts = count_writes (after bytes d addresses h x)

  -- all of them in order
  in_order : append_writes d addresses h ≡ entry ++ (index ++ (rest_writes d ++ counts))
  unfolding head_from numbers_after
  in_order =
      ap
      (λ (at : ℕ).
      head_writes d.order start (head_of h d.xnext)
      ++ (table_writes d.order start h.ids h.lengths
      ++ (put (word_offset start (first_content (nsec_in h))) h.sections ∷ put at h.values ∷ (index ++ (rest_writes d ++ counts)))))
      (sym (data-next d h x.fitting start))

  -- ---- where they write

  -- the entry's nword words
  entry-words : Stretch (4 * start) (4 * nword_in h) entry
  entry-words = entry-stretch d.order start h d.xnext d x.fitting

  -- and its slot
  slot-words : Stretch (4 * slot) (4 * d.lind) index
  slot-words = slot-stretch d.order slot d.lind (place_of d.reclen start) h.index x.admitted.settled.lind-low x.fitting.index

  -- the first record has 16 words or more, and ends before the next free position, and that before the entry
  first : (16 ≤ d.reclen) × (d.reclen ≤ free_of d) × (free_of d ≤ start)
  first = (x.admitted.settled.reclen-low, first-free bytes d addresses x.admitted, start-low d x.admitted.settled)

  -- a new area with slot 1 stands between the next free position and the entry, and its address in the first record
  record Extended : Type 0 where
    low : free_of d ≤ new_start d
    high : new_start d + d.lind ≤ start
    here : slot ≡ new_start d
    room : 16 + 2 * d.nex ≤ d.reclen

  extended : full d ≡ true → Extended
  extended q =
      let s = x.admitted.settled in
      record { low = new-low d s; high = omega (arith, new-slot d s, start-extended d q); here = slot-new bytes d addresses x.admitted x.extensible _ q; room = (nex-more d s x.extensible q).1 }

  -- ---- they are apart

  -- bytes beside words 7 to 11 are apart from the counts
  counts-apart : (a n : ℕ) → Beside a n 24 20 → Apart a n counts
  counts-apart a n b = apart-stretch a n 24 20 counts b (count-stretch (after bytes d addresses h x))

  -- bytes behind the first record are apart from nex and the address of a new area
  extension-apart : full d ≡ true → (a n : ℕ) → 4 * d.reclen ≤ a → Apart a n (extension_writes d)
  extension-apart q a n low = simp length-numeral (inr (omega (arith, first)), (inr (omega (arith, first, (extended q).room)), tt))

  -- and from all that is written there with it
  first-apart : full d ≡ true → (a n : ℕ) → 4 * d.reclen ≤ a → Apart a n (extension_writes d ++ counts)
  first-apart q a n low = apart-append a n (extension_writes d) counts (extension-apart q a n low) (counts-apart a n (inr (omega (arith, first))))

  -- where they are also beside the zeros of a new area, they are apart from all of the rest
  rest-apart : (a n : ℕ) → 4 * d.reclen ≤ a
      → (full d ≡ true → Beside a n (4 * free_of d) (4 * (new_start d - free_of d)) × Beside a n (4 * (new_start d + d.lind)) (4 * (start - (new_start d + d.lind))))
      → Apart a n (rest_writes d ++ counts)
  rest-apart a n low b =
      either (full d)
      (λ q. rw q (rw length-zeros (b q).0, (rw length-zeros (b q).1, first-apart q a n low)))
      (λ q. rw q (counts-apart a n (inr (omega (arith, first)))))

  -- the writes of the rest are pairwise apart
  rest-pairwise : PairwiseApart (rest_writes d ++ counts)
  rest-pairwise =
      let last : PairwiseApart counts = stretch-pairwise 24 20 counts [] (count-stretch (after bytes d addresses h x)) tt tt in
      either (full d)
      (λ q.
      let e = extended q in
      let skipped = length-zeros (4 * (new_start d - free_of d)) in
      let nex = length-numeral d.order 4 (d.nex + 1) in
      rw q (
        (inl (omega (arith, skipped, e.low)), first-apart q _ _ (omega (arith, first))),
        (
          first-apart q _ _ (omega (arith, first, e.low)),
          ((inl (omega (arith, nex)), counts-apart _ _ (inr (omega arith))), (counts-apart _ _ (inr (omega arith)), last)),
        ),
      ))
      (λ q. rw q last)

  -- no two of the writes of an accepted append share a byte
  pub made-apart : PairwiseApart (append_writes d addresses h)
  made-apart =
      let before = slot-first bytes d addresses h x in
      let behind = slot-last bytes d addresses h x in
      subst PairwiseApart (sym in_order)
      (stretch-pairwise (4 * start) (4 * nword_in h) entry (index ++ (rest_writes d ++ counts)) entry-words
      (apart-append (4 * start) (4 * nword_in h) index (rest_writes d ++ counts)
      (apart-stretch (4 * start) (4 * nword_in h) (4 * slot) (4 * d.lind) index (inr (omega (arith, behind))) slot-words)
      (rest-apart (4 * start) (4 * nword_in h) (omega (arith, first)) (λ q. let e = extended q in (inr (omega (arith, e.low, e.high)), inr (omega (arith, e.high))))))
      (stretch-pairwise (4 * slot) (4 * d.lind) index (rest_writes d ++ counts) slot-words
      (rest-apart (4 * slot) (4 * d.lind) (omega (arith, before)) (λ q. let e = extended q in (inr (omega (arith, e.low, e.here)), inl (omega (arith, e.here)))))
      rest-pairwise))

  -- ---- they leave the file that 01 names

  -- zeros in all words from the next free position to the entry and slot 1 over them are slot 1 and zeros around it
  around : full d ≡ true → (image : List ℕ) → splice (splice image (4 * free_of d) (zeros (4 * (start - free_of d)))) (4 * slot) (written index)
      ≡ writes (splice image (4 * slot) (written index)) (clear_around (free_of d) (new_start d) (new_start d + d.lind) start)
  around q image =
      let e = extended q in
      let long = slot-words.1 in
      let skipped : 4 * slot - 4 * free_of d ≡ 4 * (new_start d - free_of d) = omega (arith, e.here) in
      let behind : 4 * slot + length (written index) ≡ 4 * (new_start d + d.lind) = omega (arith, e.here, long) in
      let tail : 4 * free_of d + 4 * (start - free_of d) - (4 * slot + length (written index)) ≡ 4 * (start - (new_start d + d.lind)) = omega (arith, e.here, e.low, e.high, long) in
      zeros-beside image (4 * free_of d) (4 * (start - free_of d)) (4 * slot) (written index) (omega (arith, e.low, e.here)) (omega (arith, e.low, e.high, e.here, long))
      ∙ (λ i. writes (splice image (4 * slot) (written index)) (put (4 * free_of d) (zeros (skipped i)) ∷ put (behind i) (zeros (tail i)) ∷ []))

  -- with a new area: the entry before it, and its index before nex, the address and the zeros around it
  area-last : full d ≡ true → (file : List ℕ) → writes (writes (writes file entry) index) (clear_around (free_of d) (new_start d) (new_start d + d.lind) start ++ extension_writes d) ≡ writes (writes (writes file (area_writes d)) entry) index
  area-last q file =
      let rest = clear_around (free_of d) (new_start d) (new_start d + d.lind) start ++ extension_writes d in
      let put-entry = splice file (4 * start) (written entry) in
      let cleared = length-zeros (4 * (start - free_of d)) in
      ap (λ (l : List ℕ). writes (writes l index) rest) (writes_one file (4 * start) entry entry-words.0)
      ∙ ap (λ (l : List ℕ). writes l rest) (writes_one put-entry (4 * slot) index slot-words.0)
      ∙ sym
      (writes_one (writes (writes file (area_writes d)) entry) (4 * slot) index slot-words.0
      ∙ ap (λ (l : List ℕ). splice l (4 * slot) (written index))
      (writes_one (writes file (area_writes d)) (4 * start) entry entry-words.0
      ∙ writes-past file (4 * start) (written entry) (area_writes d) (inr (omega (arith, cleared, first)), extension-apart q _ _ (omega (arith, first))))
      ∙ writes-past (splice put-entry (4 * free_of d) (zeros (4 * (start - free_of d)))) (4 * slot) (written index) (extension_writes d)
      (extension-apart q _ _ (omega (arith, slot-first bytes d addresses h x)))
      ∙ ap (λ (l : List ℕ). writes l (extension_writes d)) (around q put-entry))

  -- the file after them is the one after an accepted append
  pub made-appended : (file : List ℕ) → writes file (append_writes d addresses h) ≡ appended file d addresses h
  unfolding area_written entry_written index_written appended numbers_after
  made-appended file =
      ap (writes file) in_order
      ∙ writes-append (writes (writes file entry) index) (rest_writes d) counts
      ∙ ap (λ (l : List ℕ). writes l counts) (either (full d) (λ q. rw q (area-last q file)) (λ q. rw q))
