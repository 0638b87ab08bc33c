-- An accepted append opened by its number: its index is read back, every rule of an entry holds of it, and it has the numbers of what was handed in. Assumes nothing.
use Prim.Native.Nat.{ℕ, ◌+◌, ◌*◌, ◌^◌, ◌≤◌}
use mathlib.Core.Path.{◌≡◌, refl, sym, ap, ap₂, ◌∙◌}
use mathlib.Core.Logic.{inr}
use mathlib.Core.List.{List}
use native.Mathlib.Omega.{arith}
use native.Mathlib.Nat.{le-div_iff_mul-le, div-le_self}
use borrow.Author.Tests.{le-leb, eq-eqb}
use lib.ListN.{length}
use mir.Val.{SFits}
use Rattle.image.specs.Image.{part}
use Rattle.image.specs.Writes.{put, Follows}
use Rattle.words.specs.declared.byte_order.ByteOrder.{ByteOrder}
use Rattle.words.specs.Word.{numeral, integer4, integer8, bits_at}
use Rattle.image.proofs.Writes.{BehindOf, follow-read}
use Rattle.words.proofs.Number.{length-numeral}
use Rattle.words.proofs.Codes.{same_self}
use Rattle.words.proofs.Access.{bits-of}
use Rattle.geometry.specs.declared.units.RecordNumber.{RecordNumber}
use Rattle.geometry.specs.declared.units.Place.{Place}
use Rattle.geometry.specs.Units.{place_of, entries_before}
use Rattle.geometry.proofs.Positions.{position-place, place-word}
use Rattle.descriptor.specs.declared.numbers.DescriptorNumbers.{DescriptorNumbers}
use Rattle.descriptor.specs.Refusal.{refusal_in}
use Rattle.layout.specs.FileCode.{byte_order_of}
use Rattle.layout.specs.EntryWords.{entry_code}
use Rattle.entry.specs.Opening as opening
use Rattle.entry.proofs.Entering.{entry-content, entered-numbers}
use Rattle.storing.specs.Handed.{Handed, nsec_in, ldata_in, nword_in}
use Rattle.placing.specs.Placing.{entry_start, numbers_after}
use Rattle.storing.specs.Writing.{slot_writes, area_written, entry_written}
use Rattle.storing.specs.Bounds.{Accepted}
use Rattle.written.proofs.AppendLeaves.{new, then, areas_then, slot, indexed, counted-last, left, length-area, length-entry}
use Rattle.written.proofs.Frame.{counts-keep}
use Rattle.written.proofs.FirstRecordAfter.{order-new}
use Rattle.written.proofs.EntryRead.{code-new, version-new, nsec-new, nword-new, xnum-new}
use Rattle.written.proofs.EntryPieces.{sections-within, sections-apart, array, data-new, data-within, data-apart}
use Rattle.words.proofs.Ranges.{within-row, at_least-row}

module _ (file : List ℕ) {d : DescriptorNumbers} {addresses : List RecordNumber} {h : Handed} (x : Accepted (length file) d addresses h) (o : d.order ≡ byte_order_of file) where
  abbrev start : ℕ
  start = entry_start d

  abbrev place : Place
  place = place_of d.reclen start

  -- ---- its index

  -- what the write behind k others wrote of the slot
  slot_read : (k at : ℕ) (ys : List ℕ) → BehindOf k (put at ys) (slot_writes d.order (slot file x) place h.index) → 4 * slot file x ≤ at → at + length ys ≤ 4 * (slot file x + d.lind)
      → part (new file x) at (length ys) ≡ ys
  slot_read k at ys e low high =
      ap (λ (f : List ℕ). part f at (length ys)) (counted-last file x)
      ∙ counts-keep at (length ys) (indexed file x) (then file x) (inr (omega (arith, left file x, x.admitted.settled.reclen-low)))
      ∙ follow-read (entry_written (area_written file d) d h) (4 * slot file x) (slot_writes d.order (slot file x) place h.index) follows k at ys e
      (omega (arith, left file x, length-entry (area_written file d) d h, length-area file d))
    where
      follows : Follows (4 * slot file x) (slot_writes d.order (slot file x) place h.index)
      follows = simp length-numeral (omega arith)

  -- the application's words
  pub index-new : part (new file x) (4 * (slot file x + 3)) (length h.index) ≡ h.index
  index-new = slot_read 2 (4 * (slot file x + 3)) h.index refl (omega arith) (omega (arith, x.fitting.index, x.admitted.settled.lind-low))

  -- the numbers of the place fit their words
  place-small : (place.«record».0 ≤ 2 ^ 28 + 1) × (2 ≤ place.«record».0) × (place.word.0 ≤ d.reclen) × (1 ≤ place.word.0)
  unfolding place_of
  place-small =
      let some : 1 ≤ d.reclen = omega (arith, x.admitted.settled.reclen-low) in
      let l = left file x in
      (omega (arith, div-le_self start d.reclen), omega (arith, (le-div_iff_mul-le {k = d.reclen} {x = 1} {y = start} some).1 (omega arith)), place-word d.reclen start some, omega arith)

  -- the place where the entry starts
  place-new : opening.place_stored (new file x) (slot file x) ≡ place
  unfolding opening.place_stored
  place-new =
      let low = x.admitted.settled.lind-low in
      let r = place.«record».0 in
      let w = place.word.0 in
      ap₂ (λ (r w : ℕ). record { «record» = record { 0 = r }; word = record { 0 = w } })
      (ap (λ (p : ByteOrder). bits_at p integer8 (new file x) (4 * slot file x)) (order-new file x o)
      ∙ bits-of d.order integer8 (new file x) (4 * slot file x) r (omega (arith, place-small.0))
      (slot_read 0 (4 * slot file x) (numeral d.order 8 r) refl (omega arith) (omega (arith, length-numeral d.order 8 r))))
      (ap (λ (p : ByteOrder). bits_at p integer4 (new file x) (4 * (slot file x + 2))) (order-new file x o)
      ∙ bits-of d.order integer4 (new file x) (4 * (slot file x + 2)) w (omega (arith, place-small.2, x.admitted.settled.reclen-high))
      (slot_read 1 (4 * (slot file x + 2)) (numeral d.order 4 w) refl (omega arith) (omega (arith, length-numeral d.order 4 w))))

  -- ---- every rule holds

  start_is : opening.start_of (then file x) place ≡ start
  unfolding numbers_after
  start_is = position-place d.reclen start

  -- rule 12
  number-none : refusal_in (opening.number_rules (then file x) d.xnext) ≡ 0
  number-none =
      rw (le-leb 1 d.xnext.0 x.admitted.counted, le-leb d.xnext.0 (entries_before (then file x).xnext) (omega (arith, left file x)))

  -- rule 13
  start_none : opening.start_refusal (then file x) place ≡ 0
  unfolding opening.start_refusal
  start_none =
      rw (
        start_is,
        (left file x).free,
        (left file x).reclen,
        at_least-row 2 place.«record».0 place-small.1 (omega (arith, place-small.0)),
        within-row 1 d.reclen place.word.0 (omega (arith, x.admitted.settled.reclen-high)) place-small.3 place-small.2,
        le-leb (start + 11) (start + nword_in h) (omega arith),
      )

  -- rules 14 to 16
  head-none : opening.head_refusal (new file x) (then file x) start d.xnext ≡ 0
  unfolding opening.head_refusal
  head-none =
      rw (
        code-new file x o,
        nsec-new file x o,
        nword-new file x o,
        (left file x).free,
        xnum-new file x o,
        same_self entry_code,
        within-row 0 64 (nsec_in h) (omega arith) (omega arith) x.fitting.few,
        at_least-row (11 + 5 * nsec_in h) (nword_in h) (omega arith) (omega (arith, (left file x).small)),
        le-leb (start + nword_in h) (start + nword_in h) (omega arith),
        eq-eqb d.xnext.0 d.xnext.0 refl,
      )

  -- rules 17 to 19
  content-none : opening.content_refusal (new file x) start (nsec_in h) (nword_in h) (array file x o) ≡ 0
  unfolding opening.content_refusal
  content-none =
      rw (at_least-row 0 (ldata_in h) (omega arith) (omega (arith, (left file x).small)), data-within file x o, sections-within file x o, sections-apart file x o, data-apart file x o)

  -- so the entry opens
  pub not-refused : opening.entry_refusal (new file x) (then file x) (areas_then file x) d.xnext ≡ 0
  not-refused =
      entry-content (new file x) (then file x) (areas_then file x) d.xnext number-none place (sym place-new) 0 start_none
      (rw start_is head-none) (rw (start_is, nsec-new file x o, nword-new file x o, data-new file x o) content-none)

  -- with the numbers of what was handed in
  pub entered-new : SFits integer4 h.version → opening.entered_of (new file x) (then file x) (areas_then file x) d.xnext
      ≡ record { refusal = 0; place = place; start = start; version = h.version; nsec = nsec_in h; nword = nword_in h; array = array file x o }
  entered-new g =
      entered-numbers (new file x) (then file x) (areas_then file x) d.xnext not-refused ∙ rw (place-new, start_is, version-new file x o g, nsec-new file x o, nword-new file x o, data-new file x o)
