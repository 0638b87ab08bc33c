-- What the functions give that work from a record which is true of the file: the outcome of the call through it. Assumes nothing.
use Prim.Native.Nat.{ℕ}
use mathlib.Core.Path.{◌≡◌, sym, ap, subst, ◌∙◌}
use mathlib.Core.List.{List}
use lib.ListN.{length}
use Rattle.std.specs.Prelude.{Result}
use Rattle.outcome.specs.declared.refusal.Refusal.{Refusal}
use Rattle.geometry.specs.declared.units.RecordNumber.{RecordNumber}
use Rattle.geometry.specs.declared.units.EntryNumber.{EntryNumber}
use Rattle.descriptor.specs.declared.numbers.DescriptorNumbers.{DescriptorNumbers}
use Rattle.descriptor.specs.declared.validating.Validation.{Validation}
use Rattle.descriptor.specs.Answers.{Validates}
use Rattle.descriptor.specs.FirstRecord.{numbers_of, addresses_of}
use Rattle.descriptor.specs.Rules.{file_refusal}
use Rattle.descriptor.specs.Bounds.{AdmittedIn, TotalsOf}
use Rattle.handing.specs.declared.place.PartPlace.{PartPlace}
use Rattle.handing.specs.Parts.{section_part, part_in}
use Rattle.storing.specs.Handed.{Handed}
use Rattle.writer.specs.declared.answers.Appended.{Appended}
use Rattle.writer.specs.Answers.{answer_of, appended_from, file_from, append_of, file_after, AppendsFrom}
use Rattle.writer.proofs.ByRefusal.{given-answer}
use Rattle.written.proofs.ReadBack.{shows}
use Rattle.batch.specs.declared.answers.Batched.{Batched}
use Rattle.batch.specs.Batch.{Batch, entries_in}
use Rattle.batch.specs.Rules.{batch_refusal}
use Rattle.batch.specs.Answers.{file_in_turn, AppendsInTurn}
use Rattle.batch.proofs.Appending.{admitted-own, answer-from, file-from, kept_from}
use Rattle.batch.proofs.Whole.{in-turn, file-in-turn}
use Rattle.update.specs.Answers.{Update, update_at, file_at, place_named, UpdatesAt}
use Rattle.update.specs.Bounds.{Writable}
use Rattle.update.proofs.Places.{named-writable}
use Rattle.updated.proofs.EntryAfter.{update-validates}
use Rattle.held.specs.declared.answers.OpenFile.{OpenFile}
use Rattle.held.specs.Record.{open_file_in, open_file_of, TrueOf}
use Rattle.held.specs.Rules.{held_refusal}
use Rattle.held.proofs.Held.{held-true, true-shown}
use Rattle.through.specs.Answers.{Outcome, stays, leaving, append_through, batch_through, update_through, Gives}
use Rattle.through.specs.Bounds.{Grown}
use Rattle.through.proofs.Kept.{append-grows, turns-grow, grown}
use Rattle.through.proofs.Outcomes.{record-then, append-done, batch-done, update-done}

module _ {A : Type 0} {x : Outcome A} where
  -- an outcome in which nothing changes is given
  pub given-staying : {file : List ℕ} {held : OpenFile} {answer : A} → x ≡ stays file held answer → Gives x answer held file
  given-staying e = (sym (ap (λ (y : Outcome A). y.answer) e), sym (ap (λ (y : Outcome A). y.held) e), sym (ap (λ (y : Outcome A). y.file) e))

  -- and so is one that leaves a file, by what equals its answer, the file's record and the file
  pub given-leaving : {given answer : A} {held : OpenFile} {last after : List ℕ} → x ≡ leaving answer after → given ≡ answer → held ≡ (open_file_of after).file → last ≡ after
      → Gives x given held last
  given-leaving e a h l =
      (a ∙ sym (ap (λ (y : Outcome A). y.answer) e), h ∙ sym (ap (λ (y : Outcome A). y.held) e), l ∙ sym (ap (λ (y : Outcome A). y.file) e))

-- ---- a record that is true of the file

module _ (file : List ℕ) (held : OpenFile) (z : held_refusal file held ≡ 0) where
  abbrev d : DescriptorNumbers
  d = held.numbers

  abbrev addresses : List RecordNumber
  addresses = held.addresses

  abbrev true-there : TrueOf file held
  true-there = held-true file held z

  -- the file validates with its numbers and addresses
  validates : Validates file d addresses
  validates = (true-shown file held true-there).validates

  -- it is not refused
  pub passed : file_refusal file ≡ 0
  passed = (shows file d addresses validates).admitted

  -- the numbers are those that it has
  pub numbers-there : d ≡ numbers_of file
  numbers-there = sym (shows file d addresses validates).numbers

  -- and so are the addresses
  addresses-there : addresses ≡ addresses_of file d.nex
  addresses-there = sym (shows file d addresses validates).table ∙ ap (λ (x : DescriptorNumbers). addresses_of file x.nex) (sym numbers-there)

  -- which are admitted
  pub admitted-there : AdmittedIn file d (addresses_of file d.nex)
  admitted-there = admitted-own file d passed numbers-there

  -- and the totals are those of the extensions in use
  pub totals-there : TotalsOf d held.totals
  totals-there = ap (λ (x : OpenFile). x.totals) (true-there.same ∙ sym (record-then file d addresses validates))

  -- ---- an append from them

  module _ (h : Handed) (outcome : Result EntryNumber Refusal) (last : List ℕ) (m : AppendsFrom file d h outcome last) where
    -- it answers as one to the file does
    answered : answer_of outcome ≡ append_of file h
    answered = given-answer file d h outcome m.0 ∙ ap (λ (x : DescriptorNumbers). appended_from (length file) x h) numbers-there ∙ sym (answer-from file h passed)

    -- and leaves the same file
    left-file : last ≡ file_after file h
    left-file = m.1 ∙ ap (λ (x : DescriptorNumbers). file_from file x (addresses_of file x.nex) h) numbers-there ∙ sym (file-from file h passed)

    -- which is as the code asks
    pub append-grown : Grown last held
    append-grown = rw left-file (grown file (file_after file h) held true-there (append-grows file h passed))

    -- it gives the append through the record, with the record of that file
    pub append-given : {after : OpenFile} → after ≡ (open_file_of last).file → Gives (append_through file held h) (answer_of outcome) after last
    append-given k = given-leaving (append-done file held z h) answered (k ∙ ap (λ (f : List ℕ). (open_file_of f).file) left-file) left-file

    -- refused, with the record as it was
    pub append-undone : ((answer_of outcome).refusal ≡ 0 → ⊥) → Gives (append_through file held h) (answer_of outcome) held last
    append-undone some =
        let same = left-file ∙ kept_from file h passed (λ q. some (ap (λ (x : Appended). x.refusal) answered ∙ q)) in
        append-given (true-there.same ∙ ap (λ (f : List ℕ). (open_file_of f).file) (sym same))

  -- ---- appends in turn from them

  module _ (b : Batch) (counted : batch_refusal b ≡ 0) (r : Batched) (last : List ℕ) (m : AppendsInTurn file (entries_in b) r last) where
    -- the file that they leave is as the code asks
    pub batch-grown : Grown last held
    batch-grown = rw m.1 (grown file (file_in_turn file (entries_in b)) held true-there (turns-grow (entries_in b) file passed))

    -- they give the batch through the record, with the record of that file
    pub batch-given : {after : OpenFile} → after ≡ (open_file_of last).file → Gives (batch_through file held b) r after last
    batch-given k =
        let same = m.1 ∙ sym (file-in-turn file b counted) in
        given-leaving (batch-done file held z b counted) (m.0 ∙ sym (in-turn file b counted)) (k ∙ ap (λ (f : List ℕ). (open_file_of f).file) same) same

  -- ---- an update at the place that they give

  -- the section that they lead to is the one that is named
  pub section-named : (u : Update) → section_part file d (addresses_of file d.nex) u.number u.identifier ≡ place_named file u
  unfolding part_in
  section-named u = ap (λ (a : List RecordNumber). section_part file d a u.number u.identifier) (sym addresses-there) ∙ rw validates

  module _ (u : Update) (p : PartPlace) (there : p ≡ place_named file u) where
    -- an update may write there
    pub place-writable : Writable (length file) p
    place-writable = subst (Writable (length file)) (sym there) (named-writable file u)

    -- it gives the update through the record
    pub update-given : (n : ℕ) (last : List ℕ) → UpdatesAt file p u.content n last → Gives (update_through file held u) n held last
    update-given n last m =
        given-leaving (update-done file held z u)
        (m.0 ∙ ap (λ (q : PartPlace). update_at q u.content) there)
        (true-there.same ∙ ap (λ (v : Validation). (open_file_in v.numbers v.addresses).file) (sym (update-validates file u)))
        (m.1 ∙ ap (λ (q : PartPlace). file_at file q u.content) there)
