-- An entry that stands alike in two files, as a reader finds it: where its slot and its descriptor do, it stands where it stood; where all its words do, it reads the same and
-- is unchanged. Assumes nothing.
use Prim.Native.Nat.{ℕ, ◌-◌, ◌≤◌}
use mathlib.Core.Path.{◌≡◌, sym, ap, ap₂, ◌∙◌}
use mathlib.Core.List.{List}
use Rattle.geometry.specs.declared.units.RecordNumber.{RecordNumber}
use Rattle.geometry.specs.declared.units.EntryNumber.{EntryNumber}
use Rattle.descriptor.specs.declared.numbers.DescriptorNumbers.{DescriptorNumbers}
use Rattle.pieces.specs.declared.contents.Piece.{Piece}
use Rattle.pieces.specs.EntryDescriptor.{section_of}
use Rattle.entry.specs.Entered.{Entered}
use Rattle.entry.specs.Answers.{open_of}
use Rattle.entry.proofs.Entering.{entered-numbers}
use Rattle.entry.proofs.OpenedEntry.{open-numbers}
use Rattle.handing.specs.Parts.{part_in, piece_from, bytes_of}
use Rattle.alike.proofs.Described.{Describes, open-there, section-place}
use Rattle.alike.proofs.Agreeing.{Agrees, index-there, piece-there, data-part-there}
use Rattle.descriptor.specs.Answers.{Validates}
use Rattle.promises.specs.Contents.{opened_in, start_in, piece_at, reading_of, slot_in, slot_bytes, entry_bytes, InPlace, Unchanged}
use Rattle.promises.proofs.Readings.{numbers-shown, reading-alike}
use Rattle.promises.proofs.OpenEntries.{OpenEntry, stored, open-shown, start-shown, piece-shown, piece-placed}

-- two files whose validations are known, and an entry whose slot and descriptor stand alike in both
module _ {f g : List ℕ} {d d' : DescriptorNumbers} {addresses addresses' : List RecordNumber} {e : EntryNumber} (p : Validates f d addresses) (q : Validates g d' addresses')
    (t : Describes f g d d' addresses addresses' e) where
  -- its open answers the same
  pub opens-alike : open_of g e ≡ open_of f e
  opens-alike = open-numbers g e q ∙ open-there f g d d' addresses addresses' e t ∙ sym (open-numbers f e p)

  -- it starts where it started
  pub start-alike : start_in g e ≡ start_in f e
  start-alike = rw (opens-alike, numbers-shown g q, numbers-shown f p, t.reclen)

  slot-alike : slot_in g e ≡ slot_in f e
  slot-alike = rw (numbers-shown g q, numbers-shown f p, q, p) t.slot

  -- so it stands in its place, with its sections and its slot
  pub stands-there : InPlace f g e
  unfolding slot_bytes part_in
  stands-there = record {
    opened = opens-alike;
    started = start-alike;
    placed = λ z. rw (q, p) (section-place f g d d' addresses addresses' e t z);
    slotted = slot-alike;
    slot = rw (slot-alike, numbers-shown g q, numbers-shown f p, t.lind, p) t.index;
  }

-- and an entry all of whose words stand alike in both
module _ {f g : List ℕ} {d d' : DescriptorNumbers} {addresses addresses' : List RecordNumber} {e : EntryNumber} (p : Validates f d addresses) (q : Validates g d' addresses')
    (t : Agrees f g d d' addresses addresses' e) where
  abbrev told : Describes f g d d' addresses addresses' e
  told = t.described

  o : OpenEntry f d addresses e
  o = record { shown = p; admitted = told.admitted; opens = told.opens }

  abbrev here : Entered
  here = stored o

  piece-alike : (k : ℕ) → 1 ≤ k → k ≤ (opened_in f e).nsec → bytes_of g (piece_from (start_in g e) (piece_at f e k)) ≡ bytes_of f (piece_from (start_in f e) (piece_at f e k))
  piece-alike k l h =
      let few : k ≤ here.nsec = rw (open-shown o) at h in
      let piece = section_of f here.start here.nsec (k - 1) in
      let shown : (file : List ℕ) → bytes_of file (piece_from (start_in f e) (piece_at f e k)) ≡ bytes_of file (piece_from here.start piece) = λ file.
      ap₂ (λ (s : ℕ) (p : Piece). bytes_of file (piece_from s p)) (start-shown o) (piece-shown o k l few) in
      ap (λ (s : ℕ). bytes_of g (piece_from s (piece_at f e k))) (start-alike p q told)
      ∙ shown g
      ∙ piece-there f g d d' addresses addresses' e t piece (piece-placed o k l few)
      ∙ sym (shown f)

  -- a reader finds the same
  pub reading-there : reading_of g e ≡ reading_of f e
  unfolding part_in
  reading-there =
      reading-alike f g e (opens-alike p q told)
      (rw (q, p) (index-there f g d d' addresses addresses' e t))
      piece-alike
      (rw (q, p) (data-part-there f g d d' addresses addresses' e t))

  -- and the entry is unchanged
  pub unchanged-there : Unchanged f g e
  unfolding entry_bytes
  unchanged-there = record {
    place = stands-there p q told;
    words = rw (start-alike p q told, opens-alike p q told, start-shown o, open-shown o) (rw (entered-numbers f d addresses e told.opens) at t.same);
  }
