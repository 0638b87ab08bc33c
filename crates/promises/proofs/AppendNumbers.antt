-- What an append to an admitted file answers: its refusal, and n + 1 where it is accepted; and the two cases of it. Assumes nothing.
use Prim.Native.Nat.{ℕ}
use mathlib.Core.Path.{◌≡◌, refl, sym, ◌∙◌}
use mathlib.Core.Bool.{true, false}
use mathlib.Core.List.{List}
use borrow.Author.Tests.{eqb-true, eqb-false, eq-eqb}
use lib.Dec.{eqb}
use lib.ListN.{length}
use Rattle.descriptor.specs.FirstRecord.{numbers_of}
use Rattle.descriptor.specs.Rules.{file_refusal}
use Rattle.descriptor.proofs.Answered.{answer-numbers, answer-refused}
use Rattle.storing.specs.Handed.{Handed}
use Rattle.writer.specs.Rules.{append_refusal}
use Rattle.writer.specs.Answers.{appended_from, append_in, append_of, file_after}
use Rattle.outcome.proofs.Either.{either}
use Rattle.promises.proofs.Scan.{by-file}
use Rattle.promises.proofs.ThroughMeans.{append-behind}
use Rattle.promises.proofs.RefusedAnswers.{append-kept}

module _ (file : List ℕ) (h : Handed) where
  -- the refusal of an append to the file's numbers
  abbrev pub refusal_there : ℕ
  refusal_there = append_refusal (length file) (numbers_of file) h

  -- is what it answers
  pub answer-there : file_refusal file ≡ 0 → (append_of file h).refusal ≡ refusal_there
  unfolding append_refusal
  answer-there = append-behind file h

  -- an append that is accepted was one to an admitted file
  pub accepted-file : (append_of file h).refusal ≡ 0 → file_refusal file ≡ 0
  unfolding append_in
  accepted-file r = by-file file (λ q. q) (λ q. rw (answer-refused file (file_refusal file) refl q) at r)

  -- an accepted one answers n + 1
  pub number-there : file_refusal file ≡ 0 → refusal_there ≡ 0 → (append_of file h).number ≡ (numbers_of file).xnext
  unfolding append_in appended_from
  number-there z a = rw (answer-numbers file z, eq-eqb refusal_there 0 a)

  -- an append is accepted, or leaves the file as it was
  pub by_answer {ℓ} : {X : Type ℓ} → file_refusal file ≡ 0 → (refusal_there ≡ 0 → eqb (append_of file h).refusal 0 ≡ true → X) → (file_after file h ≡ file → eqb (append_of file h).refusal 0 ≡ false → X) → X
  by_answer z f g =
      either (eqb (append_of file h).refusal 0)
      (λ q. f (sym (answer-there z) ∙ eqb-true (append_of file h).refusal 0 q) q)
      (λ q. g (append-kept file h (eqb-false (append_of file h).refusal 0 q)) q)
