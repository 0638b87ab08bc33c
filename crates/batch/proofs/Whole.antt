-- What a batch does as a whole: it is refused by its own rules, has no entry, is refused with its file by the first entry, or is its appends in turn. Assumes nothing.
use Prim.Native.Nat.{ℕ}
use mathlib.Core.Path.{◌≡◌, refl, sym, ap, ◌∙◌}
use mathlib.Core.Bool.{false}
use mathlib.Core.List.{List}
use native.Mathlib.Omega.{arith}
use borrow.Author.Tests.{eqb-true, eq-eqb, ne_eqb}
use lib.Dec.{eqb}
use lib.ListN.{length}
use Rattle.outcome.specs.declared.refusal.Refusal.{Refusal}
use Rattle.outcome.specs.Refusal.{number_of}
use Rattle.outcome.proofs.Refusals.{number-positive}
use Rattle.outcome.proofs.Either.{either}
use Rattle.descriptor.specs.declared.validating.Validated.{Validated}
use Rattle.descriptor.specs.declared.validating.Validated.TheVariants.{Refused}
use Rattle.descriptor.specs.Rules.{file_refusal}
use Rattle.descriptor.specs.Answers.{validation_of, validated_case}
use Rattle.descriptor.proofs.Refusals.{all_hold}
use Rattle.writer.specs.Answers.{append_in}
use Rattle.batch.specs.Batch.{Batch, entries_in}
use Rattle.batch.specs.Rules.{batch_rules, batch_refusal}
use Rattle.batch.specs.Answers.{answer_in_turn, file_in_turn, batch_of, file_after_batch, AppendsBatch}
use Rattle.batch.proofs.Entries.{entries_next, entries-done}

-- the number of a file that is refused is not 0
refused-some : (file : List ℕ) (n : ℕ) → (validation_of file).numbers ≡ Refused n → eqb n 0 ≡ false
unfolding validation_of
refused-some file n e =
    either (eqb (file_refusal file) 0)
    (λ q. let numbers = rw q at e in let never : ◌≡◌ {A = ℕ} 0 1 = cc in absurd (omega arith))
    (λ q. let same = ap (λ (case : Validated). (validated_case case).refusal) (rw q at e) in rw same at q)

module _ (file : List ℕ) (b : Batch) where
  -- refused by its rules: the number, and the file as it was
  pub refused : (r : Refusal) → number_of r ≡ batch_refusal b → AppendsBatch file b (record { refusal = number_of r; accepted = 0 }) file
  unfolding batch_of file_after_batch
  refused r e = rw (← e, ne_eqb (number_of r) 0 (number-positive r)) (refl, refl)

  module _ (passed : batch_refusal b ≡ 0) where
    -- else its appends in turn
    pub in-turn : batch_of file b ≡ answer_in_turn 0 file (entries_in b)
    unfolding batch_of
    in-turn = rw (eq-eqb (batch_refusal b) 0 passed)

    -- and the file after them
    pub file-in-turn : file_after_batch file b ≡ file_in_turn file (entries_in b)
    unfolding file_after_batch
    file-in-turn = rw (eq-eqb (batch_refusal b) 0 passed)

    -- without an entry: neither a refusal nor an entry, whatever the file
    pub none : length b.versions ≡ 0 → AppendsBatch file b (record { refusal = 0; accepted = 0 }) file
    none h =
        let empty = entries-done b 0 b.laid (omega (arith, h)) in
        (sym (in-turn ∙ ap (answer_in_turn 0 file) empty), sym (file-in-turn ∙ ap (file_in_turn file) empty))

    -- with entries and a file that is refused: the file's number, by the first
    pub file-refused : (length b.versions ≡ 0 → ⊥) → (n : ℕ) → (validation_of file).numbers ≡ Refused n → AppendsBatch file b (record { refusal = n; accepted = 0 }) file
    unfolding batch_refusal append_in
    file-refused some n e =
        let rules = all_hold (batch_rules b) (omega arith) passed in
        let first = entries_next b 0 b.laid (omega (arith, some)) (eqb-true (length b.counts) (length b.versions) rules.1.0) in
        let stop = refused-some file n e in
        (sym (in-turn ∙ ap (answer_in_turn 0 file) first ∙ rw (e, stop)), sym (file-in-turn ∙ ap (file_in_turn file) first ∙ rw (e, stop)))
