-- Calls through a record of the open file (Q-5 of 02): through a true record they equal those without it, and leave a true one; through a false one they are refused
-- with 26 or 27, and change neither record nor file; and none gives a refusal of the file's own. So demand 3 holds of a series through the record of its file. Assumes nothing.
use Prim.Native.Nat.{ℕ}
use mathlib.Core.Path.{◌≡◌, refl, sym, ap, ap₂, ◌∙◌}
use mathlib.Core.List.{List, [], ◌∷◌, ◌++◌}
use native.Mathlib.Omega.{arith}
use borrow.Author.Tests.{eqb-true, eqb-false}
use lib.Dec.{eqb}
use lib.ListN.{length}
use Rattle.outcome.proofs.Either.{either}
use Rattle.geometry.specs.declared.units.RecordNumber.{RecordNumber}
use Rattle.descriptor.specs.declared.numbers.DescriptorNumbers.{DescriptorNumbers}
use Rattle.descriptor.specs.FirstRecord.{numbers_of}
use Rattle.descriptor.specs.Rules.{file_refusal}
use Rattle.descriptor.specs.Answers.{Validates}
use Rattle.descriptor.proofs.Answered.{answer-numbers}
use Rattle.storing.specs.Handed.{Handed}
use Rattle.writer.specs.Rules.{append_rules}
use Rattle.writer.specs.Answers.{file_after}
use Rattle.batch.specs.Batch.{entries_in}
use Rattle.batch.specs.Rules.{batch_rules, batch_refusal}
use Rattle.written.proofs.ReadBack.{shows}
use Rattle.batch.specs.Answers.{batch_of, file_after_batch}
use Rattle.batch.proofs.Appending.{validates-from}
use Rattle.update.specs.Rules.{content_rules}
use Rattle.update.specs.Answers.{space_of, place_named}
use Rattle.updated.proofs.Rewritten.{update-kept}
use Rattle.updated.proofs.EntryAfter.{update-validates}
use Rattle.held.specs.declared.answers.OpenFile.{OpenFile}
use Rattle.held.specs.declared.answers.OpenFileAnswer.{OpenFileAnswer}
use Rattle.held.specs.Record.{open_file_of, TrueOf}
use Rattle.held.specs.Rules.{held_rules, held_refusal}
use Rattle.held.proofs.Held.{held-true, true-held, held-27, validated-record, true-shown}
use Rattle.through.specs.Answers.{Outcome, stays, leaving, no_append, no_batch, append_through, batch_through, update_through}
use Rattle.through.proofs.Kept.{turns-grow}
use Rattle.through.proofs.Outcomes.{append-refused, batch-refused, update-refused, batch-counted, append-done, batch-done, update-done}
use Rattle.promises.specs.Calls.{Call, append, batch, update, AllFit, Answer, appended, batched, updated, refusal_of, count_of, answer_of, after_call, run, answers}
use Rattle.promises.specs.Tables.{entry_rows, section_rows, append_to_tests, turn_rows, batch_to_tests, update_to_tests}
use Rattle.promises.specs.Demand.{Start, Promised}
use Rattle.promises.specs.Records.{with_answer, call_through, run_through, answers_through, TrueThroughout, PastFile}
use Rattle.promises.proofs.RefusalMeans.{EachNumber, given-among, each-joined}
use Rattle.promises.proofs.ThroughMeans.{append-to-means, batch-to-means, update-to-means}
use Rattle.promises.proofs.RefusedAnswers.{append-kept, whole-26}
use Rattle.promises.proofs.Batches.{batch-none}
use Rattle.promises.proofs.OrderSound.{order-sound}
use Rattle.promises.proofs.Demand3.{start-ordered, demand-3}

-- ---- what a call leaves of a file

-- a file that validates has a record, which is true of it
own-record : (file : List ℕ) (d : DescriptorNumbers) (addresses : List RecordNumber) → Validates file d addresses → TrueOf file (open_file_of file).file
own-record file d addresses v = record { admitted = ap (λ (x : OpenFileAnswer). x.refusal) (validated-record file d addresses v); same = refl }

-- so has one that is not refused
admitted-record : (file : List ℕ) → file_refusal file ≡ 0 → TrueOf file (open_file_of file).file
admitted-record file z = own-record file _ _ (answer-numbers file z)

-- and the file after a call
after-record : (file : List ℕ) → file_refusal file ≡ 0 → (c : Call) → let after = after_call file c in TrueOf after (open_file_of after).file
unfolding file_after_batch
after-record file z (append h) = admitted-record _ (validates-from file h z)
after-record file z (batch b) =
    either (eqb (batch_refusal b) 0) (λ q. rw q (admitted-record _ (turns-grow (entries_in b) file z).passed)) (λ q. rw q (admitted-record file z))
after-record file z (update u) = own-record _ _ _ (update-validates file u ∙ answer-numbers file z)

-- a refused call that accepts no entry changes no byte
call_kept : (file : List ℕ) (c : Call) → (refusal_of (answer_of file c) ≡ 0 → ⊥) → count_of (answer_of file c) ≡ 0 → after_call file c ≡ file
call_kept file (append h) some none = append-kept file h some
call_kept file (batch b) some none = batch-none file b none
call_kept file (update u) some none = update-kept file u some

-- ---- one call

module _ (file : List ℕ) (held : OpenFile) where
  abbrev n : ℕ
  n = held_refusal file held

  -- a record is true, or false
  pub by-record {ℓ} : {X : Type ℓ} → (TrueOf file held → X) → ((TrueOf file held → ⊥) → X) → X
  by-record f g = either (eqb n 0) (λ q. f (held-true file held (eqb-true n 0 q))) (λ q. g (λ t. eqb-false n 0 q (true-held file held t)))

  -- through a true record a call comes to what it does without it, and to the record of the file that it leaves
  through-leaves : (c : Call) → TrueOf file held → call_through file held c ≡ leaving (answer_of file c) (after_call file c)
  unfolding batch_of file_after_batch
  through-leaves (append h) t = ap (with_answer appended) (append-done file held (true-held file held t) h)
  through-leaves (batch b) t =
      let m = batch_refusal b in
      either (eqb m 0)
      (λ q. ap (with_answer batched) (batch-done file held (true-held file held t) b (eqb-true m 0 q)))
      (λ q. rw (batch-counted file held b refl (eqb-false m 0 q), q) (ap (λ (x : OpenFile). stays file x (batched (no_batch m))) t.same))
  through-leaves (update u) t = ap (with_answer updated) (update-done file held (true-held file held t) u)

  -- a call that changes neither record nor file, and gives 26 or 27
  record Undone (c : Call) : Type 0 where
    answer : Answer
    outcome : call_through file held c ≡ stays file held answer
    number : (refusal_of answer ≡ 26 → ⊥) → refusal_of answer ≡ 27

  -- so it is through a false record
  through-false : (c : Call) → (TrueOf file held → ⊥) → Undone c
  through-false c f = by c
    where
      some : n ≡ 0 → ⊥
      some z = f (held-true file held z)

      is-27 : n ≡ 27
      is-27 = held-27 file held some

      by : (c : Call) → Undone c
      by (append h) = record { answer = appended (no_append n); outcome = ap (with_answer appended) (append-refused file held refl some h); number = λ o. is-27 }
      by (batch b) =
          let m = batch_refusal b in
          either (eqb m 0)
          (λ q. record {
            answer = batched (no_batch n);
            outcome = ap (with_answer batched) (batch-refused file held refl some b (eqb-true m 0 q));
            number = λ o. is-27;
          })
          (λ q. record {
            answer = batched (no_batch m);
            outcome = ap (with_answer batched) (batch-counted file held b refl (eqb-false m 0 q));
            number = λ o. absurd (o (whole-26 b (eqb-false m 0 q)));
          })
      by (update u) = record { answer = updated n; outcome = ap (with_answer updated) (update-refused file held refl some u); number = λ o. is-27 }

  module _ (c : Call) where
    abbrev x : Outcome Answer
    x = call_through file held c

    -- calls through a true record equal those without it
    pub through_same : TrueOf file held → (x.answer ≡ answer_of file c) × (x.file ≡ after_call file c)
    through_same t = rw (through-leaves c t) (refl, refl)

    -- and leave it true
    pub through-keeps : TrueOf file held → TrueOf x.file x.held
    through-keeps t = rw (through-leaves c t) (after-record file (shows file _ _ (true-shown file held t).validates).admitted c)

    -- calls through a false one leave record and file
    pub through-stays : (TrueOf file held → ⊥) → (x.held ≡ held) × (x.file ≡ file)
    through-stays f = rw (through-false c f).outcome (refl, refl)

    -- and give 26 or 27
    pub through-27 : (TrueOf file held → ⊥) → (refusal_of x.answer ≡ 26 → ⊥) → refusal_of x.answer ≡ 27
    through-27 f = rw (through-false c f).outcome (through-false c f).number

    -- after every call not refused with 26 or 27 the record equals what a new validation gives
    pub through-true : (refusal_of x.answer ≡ 26 → ⊥) → (refusal_of x.answer ≡ 27 → ⊥) → TrueOf x.file x.held
    through-true o p = by-record through-keeps (λ f. absurd (p (through-27 f o)))

    -- a refused call that accepted no entry leaves record and file
    pub through-refused : (refusal_of x.answer ≡ 0 → ⊥) → count_of x.answer ≡ 0 → (x.held ≡ held) × (x.file ≡ file)
    through-refused = by-record
        (λ t. rw (through-leaves c t) (λ some none.
        let same : after_call file c ≡ file = call_kept file c some none in
        (ap (λ (f : List ℕ). (open_file_of f).file) same ∙ sym t.same, same)))
        (λ f some none. through-stays f)

-- ---- the numbers of refusals

-- the rows of appends in turn have none of a file's own
turns-late : (hs : List Handed) (file : List ℕ) → EachNumber PastFile (turn_rows file hs)
turns-late [] file = tt
turns-late (h ∷ hs) file = each-joined PastFile (append_rules (length file) (numbers_of file) h) (turn_rows (file_after file h) hs) (omega arith) (turns-late hs (file_after file h))

-- a call through a record gives none of 1 to 11 and 29
pub through-late : (file : List ℕ) (held : OpenFile) (c : Call) → let n = refusal_of (call_through file held c).answer in (n ≡ 0 → ⊥) → PastFile n
through-late file held (append h) some =
    let n = (append_through file held h).answer.refusal in
    given-among PastFile n (append_to_tests file held h) (omega arith) ((append-to-means file held h).given n (omega (arith, some)) refl)
through-late file held (batch b) some =
    let n = (batch_through file held b).answer.refusal in
    let rest = held_rules file held ++ turn_rows file (entries_in b) in
    given-among PastFile n (batch_to_tests file held b)
    (each-joined PastFile (batch_rules b) rest (omega arith) (each-joined PastFile (held_rules file held) (turn_rows file (entries_in b)) (omega arith) (turns-late (entries_in b) file)))
    ((batch-to-means file held b).given n (omega (arith, some)) refl)
through-late file held (update u) some =
    let n = (update_through file held u).answer in
    let e = u.number in
    let more = section_rows file e u.identifier ++ content_rules (length u.content) (space_of (place_named file u)) in
    given-among PastFile n (update_to_tests file held u)
    (each-joined PastFile (held_rules file held) (entry_rows file e ++ more) (omega arith) (each-joined PastFile (entry_rows file e) more (omega arith) (omega arith)))
    ((update-to-means file held u).given n (omega (arith, some)) refl)

-- ---- a series

-- through a true record it leaves the file and gives the answers as without it, and the record is true all along
pub pass-through : (calls : List Call) (held : OpenFile) (file : List ℕ) → TrueOf file held
    → (run_through calls held file ≡ run calls file) × (answers_through calls held file ≡ answers calls file) × TrueThroughout calls held file
pass-through [] held file t = (refl, refl, t)
pass-through (c ∷ cs) held file t =
    let x = call_through file held c in
    let same = through_same file held c t in
    let others = pass-through cs x.held x.file (through-keeps file held c t) in
    (others.0 ∙ ap (run cs) same.1, ap₂ ◌∷◌ same.0 (others.1 ∙ ap (answers cs) same.1), (t, others.2))

-- demand 3 of a series through the record of a file that it may start from
pub demand-3-through : (calls : List Call) → AllFit calls → (file : List ℕ) → Start file → let held = (open_file_of file).file in
    Promised calls (answers_through calls held file) file (run_through calls held file) × TrueThroughout calls held file
demand-3-through calls g file start =
    let held = (open_file_of file).file in
    let admitted : file_refusal file ≡ 0 = (order-sound file (start-ordered file start)).admitted in
    let same = pass-through calls held file (admitted-record file admitted) in
    (rw (same.0, same.1) (demand-3 calls g file start), same.2)
