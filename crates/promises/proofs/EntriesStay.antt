-- An accepted append leaves every entry that opens, and that its slot does not meet, as it was: its numbers, its tables, and the bytes of its parts. Assumes nothing.
use Prim.Native.Nat.{ℕ, ◌+◌, ◌*◌, ◌≤◌}
use mathlib.Core.Path.{◌≡◌}
use mathlib.Core.Logic.{inl, inr}
use mathlib.Core.List.{List}
use native.Mathlib.Omega.{arith}
use lib.ListN.{length}
use Rattle.image.specs.Image.{part}
use Rattle.image.proofs.Writes.{Beside}
use Rattle.geometry.specs.declared.units.RecordNumber.{RecordNumber}
use Rattle.geometry.specs.declared.units.EntryNumber.{EntryNumber}
use Rattle.geometry.specs.Units.{entries_before}
use Rattle.geometry.specs.Area.{slot_of}
use Rattle.layout.specs.EntryWords.{descriptor_words}
use Rattle.geometry.proofs.Slots.{slots_apart}
use Rattle.descriptor.specs.declared.numbers.DescriptorNumbers.{DescriptorNumbers}
use Rattle.descriptor.specs.FirstRecord.{growth_in, free_of}
use Rattle.entry.specs.Entered.{Entered}
use Rattle.entry.specs.Opening.{slot_position_of, entry_refusal, entered_of}
use Rattle.entry.proofs.Entering.{slot-in-use, slot-inside, slot-low, entry-opens, entered-numbers}
use Rattle.alike.proofs.EntryFields.{bytes_same}
use Rattle.alike.proofs.Agreeing.{Agrees}
use Rattle.descriptor.specs.Areas.{area_start_of}
use Rattle.storing.specs.Handed.{Handed}
use Rattle.storing.specs.Bounds.{Accepted}
use Rattle.placing.proofs.Places.{nex-more}
use Rattle.written.proofs.AppendLeaves.{new, then, areas_then, slot, left, slot-stays}
use Rattle.written.proofs.FirstRecordAfter.{order-kept}
use Rattle.written.proofs.Frame.{frame}
use Rattle.promises.proofs.Areas.{areas-order, area-holds}
use Rattle.promises.proofs.Spread.{opened-behind, opened-free}

module _ (file : List ℕ) {d : DescriptorNumbers} {addresses : List RecordNumber} {h : Handed} (x : Accepted (length file) d addresses h) where
  -- the slot of an entry that was there ends before the new one
  slots-beside : (e : EntryNumber) → 1 ≤ e.0 → e.0 ≤ entries_before d.xnext → slot_position_of d addresses e + d.lind ≤ slot file x
  unfolding slot_position_of
  slots-beside e low high =
      let t = then file x in
      let l = left file x in
      let holds = area-holds (length file) t (areas_then file x) l.admitted in
      let ordered = areas-order (length file) t (areas_then file x) l.admitted in
      let this = slot-in-use (length file) t (areas_then file x) l.admitted e low (omega arith) in
      let that = slot-in-use (length file) t (areas_then file x) l.admitted d.xnext x.admitted.counted (omega arith) in
      let apart =
      slots_apart (growth_in t) t.nex t.lind (area_start_of t (areas_then file x))
      (λ k i m. omega (arith, holds k i (omega arith), ordered k (k + 1) i (omega arith) (omega arith)))
      e.0 d.xnext.0 (slot_of (growth_in t) t.nex t.lind e) (slot_of (growth_in t) t.nex t.lind d.xnext) (omega arith) this that in
      omega (arith, slot-stays file x e low high)

  -- bytes behind the first record and before the next free position that the new slot does not meet stay
  stays : (a n : ℕ) → 4 * d.reclen ≤ a → a + n ≤ 4 * free_of d → Beside a n (4 * slot file x) (4 * d.lind) → part (new file x) a n ≡ part file a n
  stays a n l m b =
      let low = x.admitted.settled.reclen-low in
      frame file x a n (inl m) (inr (omega arith)) (λ q. (inr (omega arith), inr (omega (arith, (nex-more d x.admitted.settled x.extensible q).1)))) b

  module _ (e : EntryNumber) (opens : entry_refusal file d addresses e ≡ 0) where
    abbrev here : Entered
    here = entered_of file d addresses e

    -- an entry that the new slot does not meet stays, all of it
    pub agrees : Beside here.start here.nword (slot file x) d.lind → Agrees file (new file x) d (then file x) addresses (areas_then file x) e
    agrees clear =
        let o = entry-opens file d addresses e x.admitted opens in
        let l = left file x in
        let at = slot_position_of d addresses e in
        let inside = slot-inside (length file) d addresses x.admitted e o.number-low o.number-high in
        let low = slot-low (length file) d addresses x.admitted e o.number-low o.number-high in
        record {
          described = record {
            admitted = x.admitted;
            opens = opens;
            order = order-kept file x;
            reclen = l.reclen;
            lind = l.lind;
            entries = omega arith;
            free = omega arith;
            slot = slot-stays file x e o.number-low o.number-high;
            index = stays (4 * at) (4 * d.lind) (omega arith) (omega arith) (inl (omega (arith, slots-beside e o.number-low o.number-high)));
            same = bytes_same (new file x) file here.start here.nword words-stay (4 * here.start) (4 * descriptor_words here.nsec) (omega arith) (omega (arith, descriptor-fits));
          };
          same = words-stay;
        }
      where
        wide : Beside here.start here.nword (slot file x) d.lind → Beside (4 * here.start) (4 * here.nword) (4 * slot file x) (4 * d.lind)
        wide (inl l) = inl (omega arith)
        wide (inr l) = inr (omega arith)

        words-stay : part (new file x) (4 * here.start) (4 * here.nword) ≡ part file (4 * here.start) (4 * here.nword)
        words-stay =
            stays (4 * here.start) (4 * here.nword) (omega (arith, opened-behind file d addresses x.admitted e opens)) (omega (arith, opened-free file d addresses x.admitted e opens)) (wide clear)

        descriptor-fits : descriptor_words here.nsec ≤ here.nword
        descriptor-fits = rw (entered-numbers file d addresses e opens) (entry-opens file d addresses e x.admitted opens).nword-low
