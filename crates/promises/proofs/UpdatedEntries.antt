-- An accepted update of a sound file: the section lies within its entry, so every other region and every slot stands beside it. So each entry opens as it did, all words
-- of every other entry stay, and the file is sound. Assumes nothing.
use Prim.Native.Nat.{ℕ, ◌+◌, ◌-◌, ◌≤◌}
use mathlib.Core.Path.{◌≡◌, sym, ap, ◌∙◌}
use mathlib.Core.Bool.{false}
use mathlib.Core.List.{List}
use native.Mathlib.Omega.{arith}
use borrow.Author.Tests.{eqb-true, eqb-false}
use lib.Dec.{eqb}
use lib.ListN.{length}
use Rattle.outcome.proofs.Either.{either}
use Rattle.geometry.specs.declared.units.RecordNumber.{RecordNumber}
use Rattle.geometry.specs.declared.units.EntryNumber.{EntryNumber}
use Rattle.geometry.specs.Units.{entries_before}
use Rattle.descriptor.specs.declared.numbers.DescriptorNumbers.{DescriptorNumbers}
use Rattle.descriptor.specs.declared.validating.Validation.{Validation}
use Rattle.descriptor.specs.FirstRecord.{numbers_of, addresses_of}
use Rattle.descriptor.specs.Answers.{validated_case, Validates}
use Rattle.descriptor.specs.Bounds.{Admitted}
use Rattle.descriptor.proofs.Answered.{file-admitted, answer-numbers}
use Rattle.entry.specs.Opening.{slot_position_of, entry_refusal, entered_of}
use Rattle.order.specs.Order.{all_pass, check_of}
use Rattle.alike.proofs.Described.{Describes, opens-there, entered-there}
use Rattle.alike.proofs.Agreeing.{Agrees}
use Rattle.update.specs.Answers.{Update, update_of, file_after_update}
use Rattle.updated.proofs.EntryAfter.{BesideNamed, file-admits, number-given, section-inside, agrees, describes-named, update-validates}
use Rattle.promises.specs.Contents.{entries_of, InPlace, Unchanged}
use Rattle.promises.specs.Regions.{Region, area, entry, InUse, from_of, to_of, Sound}
use Rattle.promises.proofs.SlotAreas.{slot_in_area}
use Rattle.promises.proofs.Spread.{clear_in, apart-spread, sound-shown}
use Rattle.promises.proofs.OrderPassed.{slot_at, Passed, check-passed, check-passes}
use Rattle.promises.proofs.OrderSound.{order-sound}
use Rattle.promises.proofs.Readings.{numbers-shown}
use Rattle.promises.proofs.EntryAlike.{stands-there, unchanged-there}
use Rattle.promises.proofs.RefusedEntries.{RefusedEntry, by-entry}

-- an accepted update names an entry of its file
pub update-number : (file : List ℕ) (u : Update) → update_of file u ≡ 0 → (1 ≤ u.number.0) × (u.number.0 ≤ entries_of file)
update-number file u a = rw (numbers-shown file (answer-numbers file (file-admits file u a))) (number-given file u a)

-- a file has as many entries after an update, accepted or refused, as before it
pub update-entries : (file : List ℕ) (u : Update) → entries_of (file_after_update file u) ≡ entries_of file
update-entries file u = ap (λ (v : Validation). entries_before (validated_case v.numbers).numbers.xnext) (update-validates file u)

module _ (file : List ℕ) (u : Update) (s : Sound file) (a : update_of file u ≡ 0) where
  abbrev d : DescriptorNumbers
  d = numbers_of file

  abbrev addresses : List RecordNumber
  addresses = addresses_of file d.nex

  abbrev after : List ℕ
  after = file_after_update file u

  abbrev n : ℕ
  n = entries_before d.xnext

  admits : Admitted (length file) d addresses
  admits = file-admitted file s.admitted

  -- the file validates before it
  pub shown-before : Validates file d addresses
  shown-before = answer-numbers file s.admitted

  -- and after it, with the same numbers and addresses
  pub shown-after : Validates after d addresses
  shown-after = update-validates file u ∙ shown-before

  -- words within another region stand beside the section
  region-beside : (r : Region) → InUse d r → (r ≡ entry u.number.0 → ⊥) → (at k : ℕ) → from_of file d addresses r ≤ at → at + k ≤ to_of file d addresses r → BesideNamed file u at k
  unfolding from_of to_of
  region-beside r i o at k l h =
      let inside = section-inside file u a in
      clear_in l h (omega (arith, inside.0)) inside.1 (s.inside.apart r (entry u.number.0) i (number-given file u a) o)

  module _ (e : ℕ) (low : 1 ≤ e) (high : e ≤ n) where
    -- so does the slot of every entry
    pub slot-beside : BesideNamed file u (slot_position_of d addresses (record { 0 = e })) d.lind
    unfolding from_of to_of
    slot-beside =
        let i = slot_in_area (length file) d addresses admits (record { 0 = e }) low high in
        region-beside (area (slot_at d e).extension.0) (i.0, i.1) (λ q. let z : ◌≡◌ {A = ℕ} 0 1 = cc in omega arith)
        (slot_position_of d addresses (record { 0 = e })) d.lind i.2 i.3

    -- every other entry is as it was
    pub entry-agrees : eqb u.number.0 e ≡ false → Agrees file after d d addresses addresses (record { 0 = e })
    unfolding from_of to_of
    entry-agrees q =
        let x = entered_of file d addresses (record { 0 = e }) in
        let other = eqb-false u.number.0 e q in
        agrees file u a (record { 0 = e }) (s.inside.opens e low high) slot-beside
        (region-beside (entry e) (low, high) (λ p. let same : u.number.0 ≡ e = cc in other same) x.start x.nword (omega arith) (omega arith))

  -- and the entry of the update has its slot and its descriptor
  pub own-described : Describes file after d d addresses addresses u.number
  own-described = let l = number-given file u a in describes-named file u a (slot-beside u.number.0 l.0 l.1)

  entry-described : (e : ℕ) → 1 ≤ e → e ≤ n → Describes file after d d addresses addresses (record { 0 = e })
  entry-described e l h =
      either (eqb u.number.0 e)
      (λ q. rw (← (eqb-true u.number.0 e q)) own-described)
      (λ q. (entry-agrees e l h q).described)

  -- a number is that of the update, or that of another entry, or refused with 12 before and after
  pub by_number {ℓ} : {X : Type ℓ} (e : EntryNumber) → (u.number ≡ e → X) → (Agrees file after d d addresses addresses e → X)
      → (RefusedEntry file d addresses e 12 → RefusedEntry after d addresses e 12 → X) → X
  by_number e own other none =
      by-entry d addresses e
      (λ l h.
      either (eqb u.number.0 e.0)
      (λ q. own (ap {B = EntryNumber} (λ (k : ℕ). record { 0 = k }) (eqb-true u.number.0 e.0 q)))
      (λ q. other (entry-agrees e.0 l h q)))
      (λ refused. none (refused file shown-before) (refused after shown-after))

  -- ---- the file

  -- every number gives the entry that it gave
  entered-same : (e : EntryNumber) → entered_of after d addresses e ≡ entered_of file d addresses e
  entered-same e =
      by_number e
      (λ same. rw (← same) (entered-there file after d d addresses addresses u.number own-described))
      (λ t. entered-there file after d d addresses addresses e t.described)
      (λ f g. g.entered ∙ sym f.entered)

  opens-after : (e : ℕ) → 1 ≤ e → e ≤ n → entry_refusal after d addresses (record { 0 = e }) ≡ 0
  opens-after e l h = opens-there file after d d addresses addresses (record { 0 = e }) (entry-described e l h)

  -- the file is sound again
  pub update-sound : Sound after
  update-sound =
      let spread = apart-spread s.inside.apart in
      sound-shown shown-after opens-after (record {
        areas = λ e k l h m o. rw (entered-same (record { 0 = e })) (spread.areas e k l h m o);
        entries = λ e f l h m. rw (entered-same (record { 0 = e }), entered-same (record { 0 = f })) (spread.entries e f l h m);
      })

  -- where every entry passed the order check, each passes it
  passed-after : (e : ℕ) → 1 ≤ e → e ≤ n → Passed file d addresses e → Passed after d addresses e
  passed-after e l h p = record {
    opens = opens-after e l h;
    first = rw (entered-same (record { 0 = e })) p.first;
    next = rw (entered-same (record { 0 = e }), entered-same (record { 0 = e - 1 })) p.next;
    last = rw (entered-same (record { 0 = e })) p.last;
  }

  -- ---- an entry, as a reader finds it

  module _ (e : ℕ) (low : 1 ≤ e) (high : e ≤ entries_of file) where
    within : e ≤ n
    within = rw (numbers-shown file shown-before) at high

    -- every entry opens as it did, and it and its slot stand where they stood
    pub update-stands : InPlace file after (record { 0 = e })
    update-stands = stands-there shown-before shown-after (entry-described e low within)

    -- every other entry is unchanged
    pub update-stays : eqb u.number.0 e ≡ false → Unchanged file after (record { 0 = e })
    update-stays q = unchanged-there shown-before shown-after (entry-agrees e low within q)

-- a file that passes the order check passes it after an accepted update
pub update-again : (file : List ℕ) (u : Update) → check_of file ≡ all_pass → update_of file u ≡ 0 → check_of (file_after_update file u) ≡ all_pass
update-again file u c a =
    let s = order-sound file c in
    check-passes (file_after_update file u) (numbers_of file) (addresses_of file (numbers_of file).nex) (shown-after file u s a)
    (λ e l h. passed-after file u s a e l h ((check-passed file c).1 e l h))
