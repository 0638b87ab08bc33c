-- What an update of an admitted file answers is fixed by the contents of the file and its arguments. Assumes nothing.
use Prim.Native.Nat.{ℕ, zero, suc, ◌≤◌}
use mathlib.Core.Path.{◌≡◌, refl, sym, ap, ◌∙◌}
use mathlib.Core.Bool.{false, false≢true}
use mathlib.Core.List.{List}
use native.Mathlib.Omega.{arith}
use borrow.Author.Tests.{eqb-true}
use lib.Dec.{eqb, ltb}
use lib.ListN.{get_or-eq_default}
use Rattle.outcome.proofs.Either.{either}
use Rattle.geometry.specs.declared.units.RecordNumber.{RecordNumber}
use Rattle.geometry.specs.declared.units.EntryNumber.{EntryNumber}
use Rattle.descriptor.specs.declared.numbers.DescriptorNumbers.{DescriptorNumbers}
use Rattle.descriptor.specs.FirstRecord.{numbers_of, addresses_of}
use Rattle.descriptor.specs.Rules.{file_refusal}
use Rattle.descriptor.specs.Answers.{Validates}
use Rattle.descriptor.proofs.Answered.{file-admitted, answer-numbers}
use Rattle.pieces.specs.Tables.{section_named}
use Rattle.entry.specs.Opening.{entry_refusal}
use Rattle.entry.proofs.Entering.{entered-numbers, entered-refused}
use Rattle.handing.specs.declared.place.PartPlace.{PartPlace}
use Rattle.handing.specs.Parts.{section_part, part_in}
use Rattle.update.specs.Answers.{Update, update_at, place_named, update_of}
use Rattle.updated.proofs.Rewritten.{space-length}
use Rattle.written.proofs.Cases.{split}
use Rattle.promises.specs.Contents.{entries_of, refused, reading_of, contents}
use Rattle.promises.specs.UpdateAnswers.{reading_under, answer_read, answer_from}
use Rattle.promises.proofs.Readings.{numbers-shown, length-contents, contents-at}
use Rattle.promises.proofs.OpenEntries.{OpenEntry, stored, open-shown}
use Rattle.promises.proofs.SectionFirst.{section-first}
use Rattle.promises.proofs.RefusedEntries.{RefusedEntry, by-entry, section-none, reading-none}

module _ (file : List ℕ) (z : file_refusal file ≡ 0) where
  abbrev d : DescriptorNumbers
  d = numbers_of file

  abbrev addresses : List RecordNumber
  addresses = addresses_of file d.nex

  shown : Validates file d addresses
  shown = answer-numbers file z

  -- a number that no entry has finds 12
  number-none : (e : EntryNumber) → (1 ≤ e.0 → e.0 ≤ entries_of file → ⊥) → reading_of file e ≡ refused 12
  number-none e f = by-entry d addresses e (λ l h. absurd (f l (rw (numbers-shown file shown) h))) (λ none. reading-none (none file shown))

  -- what is found under a number is what stands there in the contents
  reading-under : (k : ℕ) → reading_under k (contents file) ≡ reading_of file (record { 0 = k })
  reading-under zero = sym (number-none (record { 0 = zero }) (λ l h. omega arith))
  reading-under (suc k) =
      split (suc k) (entries_of file) (contents-at file k (refused 12))
      (λ h. get_or-eq_default (contents file) (refused 12) (omega (arith, length-contents file)) ∙ sym (number-none (record { 0 = suc k }) (λ l m. omega arith)))

  module _ (u : Update) where
    abbrev place : PartPlace
    place = place_named file u

    -- an update of an entry that opens
    module _ (o : OpenEntry file d addresses u.number) where
      section-missing : eqb place.refusal 0 ≡ false → place.refusal ≡ 20
      unfolding part_in section_part
      section-missing =
          let x = stored o in
          rw (shown, entered-numbers file d addresses u.number o.opens)
          (either (ltb (section_named file x.start u.identifier 0 x.nsec) x.nsec) (λ t. rw t (λ q. absurd (false≢true (sym q)))) (λ t. rw t (λ q. refl)))

      answer-open : update_of file u ≡ answer_read u (reading_of file u.number)
      unfolding update_at reading_of
      answer-open =
          rw (open-shown o, ← (section-first o u.identifier))
          (either (eqb place.refusal 0) (λ q. rw (q, space-length file u)) (λ q. rw q (section-missing q)))

    -- and of one that is refused
    answer-refused : {n : ℕ} → RefusedEntry file d addresses u.number n → update_of file u ≡ answer_read u (reading_of file u.number)
    unfolding update_at
    answer-refused r = rw (section-none r u.identifier, reading-none r, r.some)

    -- an update answers what the contents say
    pub update-answered : update_of file u ≡ answer_from (contents file) u
    unfolding answer_from
    update-answered =
        let n = entry_refusal file d addresses u.number in
        either (eqb n 0)
        (λ q. answer-open (record { shown = shown; admitted = file-admitted file z; opens = eqb-true n 0 q }))
        (λ q. answer-refused (record { shown = shown; entered = entered-refused file d addresses u.number n refl q; some = q }))
        ∙ ap (answer_read u) (sym (reading-under u.number.0))
