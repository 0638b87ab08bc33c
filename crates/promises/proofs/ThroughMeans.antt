-- What each refusal of a call through a record means: it is given exactly when a test of the call's whole table with that number fails, and every test before it passes.
-- Assumes nothing.
use Prim.Native.Nat.{ℕ, ◌+◌}
use mathlib.Core.Path.{◌≡◌, refl, ap, ◌∙◌}
use mathlib.Core.Bool.{cond}
use mathlib.Core.List.{List, [], ◌∷◌, ◌++◌}
use native.Mathlib.Omega.{arith}
use lib.Dec.{eqb}
use lib.ListN.{length}
use Rattle.descriptor.specs.FirstRecord.{numbers_of}
use Rattle.descriptor.specs.Refusal.{Rule, refusal_in, Numbered}
use Rattle.descriptor.specs.Rules.{file_refusal}
use Rattle.descriptor.proofs.Refusals.{refusal-append}
use Rattle.writer.specs.declared.answers.Appended.{Appended}
use Rattle.storing.specs.Handed.{Handed}
use Rattle.writer.specs.Rules.{append_rules}
use Rattle.writer.specs.Answers.{append_of, file_after}
use Rattle.written.proofs.ReadBack.{shows}
use Rattle.batch.specs.declared.answers.Batched.{Batched}
use Rattle.batch.specs.Batch.{Batch, entries_in}
use Rattle.batch.specs.Rules.{batch_rules, batch_refusal}
use Rattle.batch.specs.Answers.{answer_in_turn, batch_of}
use Rattle.batch.proofs.Appending.{validates-from}
use Rattle.update.specs.Rules.{content_rules}
use Rattle.update.specs.Answers.{Update, space_of, place_named, update_of}
use Rattle.held.specs.declared.answers.OpenFile.{OpenFile}
use Rattle.held.specs.Rules.{held_rules, held_refusal}
use Rattle.held.proofs.Held.{held-true, true-shown}
use Rattle.through.specs.Answers.{Outcome, append_through, batch_through, update_through}
use Rattle.promises.specs.Tables.{entry_rows, section_rows, Exactly, validate_tests, update_tests, append_to_tests, turn_rows, batch_to_tests, update_to_tests}
use Rattle.promises.proofs.RefusalMeans.{numbered-joined, chosen-joined, exact-number, exactly, append-number, update-means}

-- behind the tests of an admitted file the other rows count
behind-file : (file : List ℕ) (rest : List Rule) → file_refusal file ≡ 0 → refusal_in (validate_tests file ++ rest) ≡ refusal_in rest
unfolding file_refusal
behind-file file rest z = refusal-append (validate_tests file) rest (omega arith) ∙ ap (λ (n : ℕ). cond (eqb n 0) (refusal_in rest) n) z

-- an append to an admitted file is refused by 21 to 24
pub append-behind : (file : List ℕ) (h : Handed) → file_refusal file ≡ 0 → (append_of file h).refusal ≡ refusal_in (append_rules (length file) (numbers_of file) h)
append-behind file h z = append-number file h ∙ behind-file file (append_rules (length file) (numbers_of file) h) z

-- and so are appends in turn
turns-behind : (hs : List Handed) (n : ℕ) (file : List ℕ) → file_refusal file ≡ 0 → (answer_in_turn n file hs).refusal ≡ refusal_in (turn_rows file hs)
turns-behind [] n file z = refl
turns-behind (h ∷ hs) n file z =
    let next = file_after file h in
    chosen-joined (λ (x : Batched). x.refusal) (append_of file h).refusal _ _ (append_rules (length file) (numbers_of file) h) (turn_rows next hs) (omega arith)
    (append-behind file h z) (λ q. turns-behind hs (n + 1) next (validates-from file h z)) refl

-- their rows have none numbered 0
rows-numbered : (hs : List Handed) (file : List ℕ) → Numbered (turn_rows file hs)
rows-numbered [] file = tt
rows-numbered (h ∷ hs) file = numbered-joined (append_rules (length file) (numbers_of file) h) (turn_rows (file_after file h) hs) (omega arith) (rows-numbered hs (file_after file h))

module _ (file : List ℕ) (held : OpenFile) where
  -- a call through a record gives 27, or where the record is true, and so the file admitted, what other rows give
  through-joined : {A : Type 0} (number : A → ℕ) (done undone : Outcome A) (rest : List Rule) → (file_refusal file ≡ 0 → number done.answer ≡ refusal_in rest)
      → number undone.answer ≡ held_refusal file held → number (cond (eqb (held_refusal file held) 0) done undone).answer ≡ refusal_in (held_rules file held ++ rest)
  unfolding held_refusal
  through-joined {A} number done undone rest f g =
      chosen-joined (λ (x : Outcome A). number x.answer) (held_refusal file held) done undone (held_rules file held) rest (omega arith) refl
      (λ z. f (shows file _ _ (true-shown file held (held-true file held z)).validates).admitted) g

  -- an append
  pub append-to-means : (h : Handed) → Exactly (append_through file held h).answer.refusal (append_to_tests file held h)
  unfolding append_through
  append-to-means h =
      exactly (append_through file held h).answer.refusal (append_to_tests file held h) (omega arith)
      (through-joined (λ (x : Appended). x.refusal) _ _ (append_rules (length file) (numbers_of file) h) (append-behind file h) refl)

  -- a batch
  pub batch-to-means : (b : Batch) → Exactly (batch_through file held b).answer.refusal (batch_to_tests file held b)
  unfolding batch_through batch_of batch_refusal
  batch-to-means b =
      let hs = entries_in b in
      let rest = held_rules file held ++ turn_rows file hs in
      exactly (batch_through file held b).answer.refusal (batch_to_tests file held b)
      (numbered-joined (batch_rules b) rest (omega arith) (numbered-joined (held_rules file held) (turn_rows file hs) (omega arith) (rows-numbered hs file)))
      (chosen-joined (λ (x : Outcome Batched). x.answer.refusal) (batch_refusal b) _ _ (batch_rules b) rest (omega arith) refl
      (λ z. through-joined (λ (x : Batched). x.refusal) _ _ (turn_rows file hs) (λ a. rw z (turns-behind hs 0 file a)) refl)
      refl)

  -- an update
  pub update-to-means : (u : Update) → Exactly (update_through file held u).answer (update_to_tests file held u)
  unfolding update_through
  update-to-means u =
      let rest = entry_rows file u.number ++ section_rows file u.number u.identifier ++ content_rules (length u.content) (space_of (place_named file u)) in
      let numbered : Numbered (update_tests file u) = numbered-joined (validate_tests file) rest (omega arith) (omega arith) in
      let number : update_of file u ≡ refusal_in (update_tests file u) = exact-number (update_of file u) (update_tests file u) numbered (update-means file u) in
      exactly (update_through file held u).answer (update_to_tests file held u) (omega arith)
      (through-joined (λ (n : ℕ). n) _ _ rest (λ z. number ∙ behind-file file rest z) refl)
