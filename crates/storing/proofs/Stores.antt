-- What an accepted append at its place gives to each step of storing. Assumes nothing.
use Prim.Native.Nat.{ℕ, ◌+◌, ◌*◌, ◌^◌, ◌≤◌, ◌<◌}
use mathlib.Core.Path.{◌≡◌, refl, ap, ◌∙◌}
use mathlib.Core.List.{List}
use native.Mathlib.Omega.{arith}
use lib.ListN.{length}
use Rattle.geometry.specs.declared.units.EntryAddress.{EntryAddress}
use Rattle.geometry.specs.Units.{place_of}
use Rattle.geometry.proofs.Positions.{place-word}
use Rattle.layout.specs.EntryWords.{first_content}
use Rattle.descriptor.specs.declared.numbers.DescriptorNumbers.{DescriptorNumbers}
use Rattle.descriptor.specs.FirstRecord.{addresses_of}
use Rattle.pieces.specs.EntryDescriptor.{word_offset}
use Rattle.entry.specs.Opening.{slot_position_of}
use Rattle.placing.specs.declared.placement.Placement.{Placement}
use Rattle.placing.specs.Placing.{full, entry_start, numbers_after, addresses_after}
use Rattle.pieces.specs.declared.head.Head.{Head}
use Rattle.storing.specs.Handed.{Handed, nsec_in, nword_in}
use Rattle.storing.specs.Bounds.{Describing, Accepted, Storing}
use Rattle.storing.proofs.Accepting.{head-nword, head-nsec, value-bytes, entry-within, entry-small, slot-before}

module _ (file : List ℕ) (d : DescriptorNumbers) (placed : Placement) (head : Head) (h : Handed) (q : Storing file d placed head h) where
  abbrev x : Accepted (length file) d (addresses_of file d.nex) h
  x = q.accepted

  -- where the entry starts
  pub start-placed : placed.start ≡ entry_start d
  start-placed = ap (λ (p : Placement). p.start) q.stands

  -- whether an extension is made for it
  pub extends-placed : placed.extends ≡ full d
  extends-placed = ap (λ (p : Placement). p.extends) q.stands

  -- how many sections it has
  pub nsec-headed : head.nsec ≡ nsec_in h
  nsec-headed = ap (λ (r : Head). r.nsec) q.headed ∙ head-nsec h d.xnext

  -- it has no more words than the bytes lent
  pub start-inside : 4 * (placed.start + nword_in h) ≤ length file
  start-inside = omega (arith, start-placed, entry-within (length file) d (addresses_of file d.nex) h x)

  -- and so its place is small
  pub start_small : placed.start + nword_in h ≤ 2 ^ 28
  start_small = omega (arith, start-placed, entry-small (length file) d (addresses_of file d.nex) h x)

  -- its descriptor has its words in the file
  pub describing : Describing (length file) placed.start head h.ids h.lengths
  describing =
      let f = x.fitting in
      record {
        low = omega (arith, start_small);
        few = f.few;
        pairs = f.pairs;
        nsec = nsec-headed;
        counted = f.counted;
        small = omega (arith, start_small);
        inside = omega (arith, start-inside);
      }

  -- and so have its sections and its data
  pub content-inside : (first : EntryAddress) → first ≡ first_content head.nsec
      → (1 ≤ first.0) × (placed.start + first.0 < 2 ^ 32) × (word_offset placed.start first + length h.sections + length h.values ≤ length file)
  content-inside first e =
      let f = x.fitting in
      let at : first.0 ≡ (first_content (nsec_in h)).0 = ap (λ (a : EntryAddress). a.0) (e ∙ ap first_content nsec-headed) in
      (omega (arith, at), omega (arith, at, start_small), omega (arith, at, start-inside, f.sections, value-bytes d h f))

  -- where it ends
  pub end-placed : placed.start + head.nword ≡ entry_start d + nword_in h
  end-placed = (λ i. start-placed i + (ap (λ (r : Head). r.nword) q.headed ∙ head-nword h d.xnext) i)

  -- its slot has its words in the file, and its index fills them
  pub slot_placed : (slot : ℕ) → slot ≡ slot_position_of (numbers_after d (entry_start d)) (addresses_after d (addresses_of file d.nex)) d.xnext
      → (slot < 2 ^ 32) × (4 * (slot + 3) + length h.index ≤ length file)
  slot_placed slot e =
      let f = x.fitting.index in
      let a = x.admitted in
      let before = slot-before (length file) d (addresses_of file d.nex) a x.extensible (omega (arith, x.inside)) in
      (omega (arith, e, x.inside, a.lent.high), omega (arith, e, x.inside, a.settled.lind-low))

  -- it is the slot of the entry wherever that ends
  pub slot_same : (end : ℕ) → slot_position_of (numbers_after d (entry_start d)) (addresses_after d (addresses_of file d.nex)) d.xnext
      ≡ slot_position_of (numbers_after d end) (addresses_after d (addresses_of file d.nex)) d.xnext
  unfolding slot_position_of numbers_after
  slot_same end = refl

  -- the word of the next free position is one of a record
  pub word_after : (end : ℕ) → (numbers_after d end).nextword.0 ≤ 4096
  unfolding numbers_after
  word_after end =
      let s = x.admitted.settled in
      omega (arith, place-word d.reclen end (omega (arith, s.reclen-low)), s.reclen-high)

  -- the word where it starts is one of a record
  pub word_small : (place_of d.reclen placed.start).word.0 ≤ 4096
  word_small =
      let s = x.admitted.settled in
      omega (arith, place-word d.reclen placed.start (omega (arith, s.reclen-low)), s.reclen-high)
