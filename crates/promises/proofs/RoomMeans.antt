-- "No room" means it (Q-13 of 02): what append answers of room, and that the place of an accepted entry is the best. Assumes nothing.
use Prim.Native.Nat.{ℕ}
use mathlib.Core.Path.{◌≡◌, refl, sym, ◌∙◌}
use mathlib.Core.Logic.{◌↔◌, inl, inr}
use mathlib.Core.Bool.{true, false}
use mathlib.Core.List.{List}
use native.Mathlib.Omega.{arith}
use borrow.Author.Tests.{eqb-true, eqb-false}
use lib.Dec.{eqb}
use lib.ListN.{length}
use Rattle.outcome.proofs.Either.{either}
use Rattle.image.specs.Image.{part}
use Rattle.geometry.specs.declared.units.RecordNumber.{RecordNumber}
use Rattle.geometry.specs.Units.{offset_of}
use Rattle.geometry.proofs.Positions.{position-place}
use Rattle.descriptor.specs.declared.numbers.DescriptorNumbers.{DescriptorNumbers}
use Rattle.descriptor.specs.FirstRecord.{numbers_of, addresses_of}
use Rattle.descriptor.specs.Refusal.{Rule, refusal_in}
use Rattle.descriptor.specs.Rules.{file_refusal}
use Rattle.descriptor.specs.Answers.{Validates}
use Rattle.descriptor.proofs.Answered.{file-admitted, answer-refused}
use Rattle.placing.specs.Placing.{full, new_area, entry_start, numbers_after}
use Rattle.placing.specs.Rules.{placement_refusal}
use Rattle.placing.proofs.Kept.{nex-full, address-new}
use Rattle.storing.specs.Handed.{Handed, Integers, nword_in}
use Rattle.storing.specs.Bounds.{Accepted}
use Rattle.writer.specs.Rules.{handed_rules, handed_refusal}
use Rattle.writer.specs.Answers.{append_in, append_of, file_after}
use Rattle.writer.proofs.HandedIn.{append-parts}
use Rattle.alike.proofs.FirstAlike.{numbers-alike}
use Rattle.written.proofs.AppendLeaves.{then, areas_then}
use Rattle.written.proofs.ReadBack.{admits, file-written, validated-after}
use Rattle.written.proofs.Returned.{opened-again}
use Rattle.promises.specs.Contents.{opened_in, start_in}
use Rattle.promises.specs.Tables.{validate_tests}
use Rattle.promises.specs.Room.{EntryPlace, Admissible, NoPlace, Unextendable, Ready, place_in, NoRoom, BestPlace, RoomMeans}
use Rattle.promises.proofs.Readings.{numbers-shown}
use Rattle.promises.proofs.RefusalMeans.{EachNumber, refusal-among}
use Rattle.promises.proofs.AppendNumbers.{refusal_there, answer-there, accepted-file, number-there}
use Rattle.promises.proofs.Scan.{by-file}
use Rattle.promises.proofs.RoomPlaces.{start_first, own-place, by-placement}

-- ---- the cases of a refusal

-- file and input are not ready, and it is none of 0, 23 and 24; or they are, and it is 23, 24 or 0
data Verdict (file : List ℕ) (h : Handed) (n : ℕ) : Type 0 where
  unready : (Ready file h → ⊥) → (n ≡ 0 → ⊥) → (NoRoom n → ⊥) → Verdict file h n
  unextended : Ready file h → n ≡ 23 → Unextendable (numbers_of file) → NoPlace file h → Verdict file h n
  outside : Ready file h → n ≡ 24 → (Unextendable (numbers_of file) → ⊥) → NoPlace file h → Verdict file h n
  placed : Ready file h → n ≡ 0 → (Unextendable (numbers_of file) → ⊥) → (p : EntryPlace) → Admissible file h p → Verdict file h n

-- 0 is neither of the two
some-room : {n : ℕ} → n ≡ 0 → NoRoom n → ⊥
some-room e (inl q) = omega arith
some-room e (inr q) = omega arith

-- what each of the three says, exactly, by the cases
module _ {file : List ℕ} {h : Handed} {n : ℕ} where
  is-accepted : Verdict file h n → (n ≡ 0) ↔ (Ready file h × ((p : EntryPlace) × Admissible file h p))
  is-accepted (unready never some other) = (λ e. absurd (some e), λ x. absurd (never x.0))
  is-accepted (unextended r e u none) = (λ q. absurd (omega arith), λ x. absurd (none x.1.0 x.1.1))
  is-accepted (outside r e u none) = (λ q. absurd (omega arith), λ x. absurd (none x.1.0 x.1.1))
  is-accepted (placed r e u p a) = (λ q. (r, (p, a)), λ x. e)

  is-refused : Verdict file h n → NoRoom n ↔ (Ready file h × NoPlace file h)
  is-refused (unready never some other) = (λ q. absurd (other q), λ x. absurd (never x.0))
  is-refused (unextended r e u none) = (λ q. (r, none), λ x. inl e)
  is-refused (outside r e u none) = (λ q. (r, none), λ x. inr e)
  is-refused (placed r e u p a) = (λ q. absurd (some-room e q), λ x. absurd (x.1 p a))

  is-23 : Verdict file h n → (n ≡ 23) ↔ (Ready file h × Unextendable (numbers_of file))
  is-23 (unready never some other) = (λ q. absurd (other (inl q)), λ x. absurd (never x.0))
  is-23 (unextended r e u none) = (λ q. (r, u), λ x. e)
  is-23 (outside r e u none) = (λ q. absurd (omega arith), λ x. absurd (u x.1))
  is-23 (placed r e u p a) = (λ q. absurd (omega arith), λ x. absurd (u x.1))

  is-24 : Verdict file h n → (n ≡ 24) ↔ (Ready file h × NoPlace file h × (Unextendable (numbers_of file) → ⊥))
  is-24 (unready never some other) = (λ q. absurd (other (inr q)), λ x. absurd (never x.0))
  is-24 (unextended r e u none) = (λ q. absurd (omega arith), λ x. absurd (x.2 u))
  is-24 (outside r e u none) = (λ q. (r, none, u), λ x. e)
  is-24 (placed r e u p a) = (λ q. absurd (omega arith), λ x. absurd (x.1 p a))

-- ---- an append

-- the refusal of a table without 23 and 24 is neither of them
other : (rules : List Rule) → EachNumber (λ k. k ≡ 23 → ⊥) rules → EachNumber (λ k. k ≡ 24 → ⊥) rules → (refusal_in rules ≡ 0 → ⊥) → NoRoom (refusal_in rules) → ⊥
other rules m n some (inl q) = refusal-among (λ k. k ≡ 23 → ⊥) rules m some q
other rules m n some (inr q) = refusal-among (λ k. k ≡ 24 → ⊥) rules n some q

module _ (file : List ℕ) (h : Handed) where
  abbrev d : DescriptorNumbers
  d = numbers_of file

  abbrev addresses : List RecordNumber
  addresses = addresses_of file d.nex

  -- the refusal by 21 and 22
  abbrev given : ℕ
  given = handed_refusal d h.index h.ids h.lengths h.sections h.values

  -- nor is that of a file
  file-other : eqb (file_refusal file) 0 ≡ false → NoRoom (file_refusal file) → ⊥
  unfolding file_refusal
  file-other q = other (validate_tests file) (omega arith) (omega arith) (eqb-false (file_refusal file) 0 q)

  -- nor that of what is handed in
  given-other : eqb given 0 ≡ false → NoRoom given → ⊥
  unfolding handed_refusal
  given-other q = other (handed_rules d h.index h.ids h.lengths h.sections h.values) (omega arith) (omega arith) (eqb-false given 0 q)

  -- an append to a file that is refused answers its number
  file-refused : eqb (file_refusal file) 0 ≡ false → (append_of file h).refusal ≡ file_refusal file
  unfolding append_in
  file-refused q = rw (answer-refused file (file_refusal file) refl q)

  -- one to an admitted file answers by 21 and 22
  given-refused : file_refusal file ≡ 0 → eqb given 0 ≡ false → (append_of file h).refusal ≡ given
  given-refused z q = answer-there file h z ∙ append-parts d h (length file) ∙ rw q

  -- and where these pass, by the entry's place
  by_place : Ready file h → (append_of file h).refusal ≡ placement_refusal (length file) d (nword_in h)
  by_place r = answer-there file h r.admitted ∙ append-parts d h (length file) ∙ rw r.handed

  -- so its refusal is one of the cases
  verdict : Verdict file h (append_of file h).refusal
  verdict =
      by-file file
      (λ z. either (eqb given 0)
      (λ q. ready (record { admitted = z; handed = eqb-true given 0 q }))
      (λ q. rw (given-refused z q) (unready (λ r. eqb-false given 0 q r.handed) (eqb-false given 0 q) (given-other q))))
      (λ q. rw (file-refused q) (unready (λ r. eqb-false (file_refusal file) 0 q r.admitted) (eqb-false (file_refusal file) 0 q) (file-other q)))
    where
      ready : Ready file h → Verdict file h (append_of file h).refusal
      ready r =
          by-placement (length file) d addresses (file-admitted file r.admitted) (nword_in h)
          (λ e u n. unextended r (by_place r ∙ e) u n)
          (λ e u n. outside r (by_place r ∙ e) u n)
          (λ e u own. placed r (by_place r ∙ e) u (record { start = entry_start d; area = new_area d }) own)

  -- ---- where an accepted entry stands

  module _ (g : Integers h) (z : file_refusal file ≡ 0) (a : refusal_there file h ≡ 0) where
    abbrev after : List ℕ
    after = file_after file h

    abbrev x : Accepted (length file) d addresses h
    x = admits file h z a

    shown : Validates after (then file x) (areas_then file x)
    shown = rw (file-written file h z a) (validated-after file z x)

    -- it starts where it was put
    starts : start_in after d.xnext ≡ entry_start d
    unfolding numbers_after
    starts = rw (numbers-shown after shown, opened-again file h g z a) (position-place d.reclen (entry_start d))

    -- the last area of the file is the new one, where one was made
    area-last : full d ≡ true → (place_in after d.xnext).area ≡ new_area d
    unfolding numbers_after
    area-last q = rw (numbers-shown after shown, shown, nex-full d q) (address-new (length file) d addresses x.admitted x.extensible q)

    -- it has the words that were handed in
    words : (opened_in after d.xnext).nword ≡ nword_in h
    words = rw (opened-again file h g z a)

    stands : BestPlace file h after d.xnext
    stands = record {
      opens = rw (opened-again file h g z a);
      words = words;
      place = rw starts (own-place (length file) d addresses x.admitted (nword_in h) (record { extensible = x.extensible; inside = x.inside }) (place_in after d.xnext).area area-last);
      earliest = λ p e. omega (arith, starts, words, start_first (length file) d addresses x.admitted (nword_in h) p e);
    }

  -- an accepted entry stands at the best place
  pub stands-best : Integers h → (append_of file h).refusal ≡ 0 → BestPlace file h (file_after file h) (append_of file h).number
  stands-best g e =
      let z = accepted-file file h e in
      let a = sym (answer-there file h z) ∙ e in
      rw (number-there file h z a) (stands g z a)

  -- what an append means, to any file and with any input
  pub append-room : RoomMeans file h (append_of file h) (file_after file h)
  append-room =
      let v = verdict in
      record { accepted = is-accepted v; refused = is-refused v; by-23 = is-23 v; by-24 = is-24 v; best = stands-best }

-- told 23, no file with this first record, however long, accepts any entry
pub takes_none : (file : List ℕ) (h : Handed) → (append_of file h).refusal ≡ 23 → (longer : List ℕ)
    → part longer 0 (offset_of (numbers_of file).reclen) ≡ part file 0 (offset_of (numbers_of file).reclen) → (other : Handed) → (append_of longer other).refusal ≡ 0 → ⊥
takes_none file h e longer first other accepted =
    let said = (append-room file h).by-23.0 e in
    let ready = ((append-room longer other).accepted.0 accepted).0 in
    let again : (append_of longer other).refusal ≡ 23 = (append-room longer other).by-23.1 (ready, rw (numbers-alike file longer said.0.admitted first) said.1) in
    omega arith
