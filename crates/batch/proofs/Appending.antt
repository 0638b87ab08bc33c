-- An append to a file that validates: its answer and the file after it are those of an append from the file's numbers, and the file after it
-- validates again. Assumes nothing.
use Prim.Native.Nat.{ℕ}
use mathlib.Core.Path.{◌≡◌}
use mathlib.Core.List.{List}
use borrow.Author.Tests.{eqb-true}
use lib.Dec.{eqb}
use lib.ListN.{length}
use Rattle.outcome.proofs.Either.{either}
use Rattle.descriptor.specs.declared.numbers.DescriptorNumbers.{DescriptorNumbers}
use Rattle.descriptor.specs.FirstRecord.{numbers_of, addresses_of}
use Rattle.descriptor.specs.Rules.{file_refusal}
use Rattle.descriptor.specs.Bounds.{AdmittedIn}
use Rattle.descriptor.proofs.Answered.{file-admitted, file-order, answer-numbers}
use Rattle.storing.specs.Handed.{Handed}
use Rattle.writer.specs.Rules.{append_refusal}
use Rattle.writer.specs.Answers.{appended_from, file_from, append_in, file_in, append_of, file_after}
use Rattle.written.proofs.ReadBack.{append-shows}

-- the numbers of a file that validates are admitted
pub admitted-own : (file : List ℕ) (d : DescriptorNumbers) → file_refusal file ≡ 0 → d ≡ numbers_of file → AdmittedIn file d (addresses_of file d.nex)
admitted-own file d z own = rw own (record { admitted = file-admitted file z; order = file-order file })

module _ (file : List ℕ) (h : Handed) (z : file_refusal file ≡ 0) where
  -- its answer
  pub answer-from : append_of file h ≡ appended_from (length file) (numbers_of file) h
  unfolding append_in
  answer-from = rw (answer-numbers file z)

  -- the file after it
  pub file-from : file_after file h ≡ file_from file (numbers_of file) (addresses_of file (numbers_of file).nex) h
  unfolding file_in
  file-from = rw (answer-numbers file z)

  -- a refused one leaves the file
  pub kept_from : ((append_of file h).refusal ≡ 0 → ⊥) → file_after file h ≡ file
  unfolding appended_from file_from
  kept_from some =
      rw file-from (either (eqb (append_refusal (length file) (numbers_of file) h) 0) (λ q. absurd (some (rw (answer-from, q)))) (λ q. rw q))

  -- and after either the file validates again
  pub validates-from : file_refusal (file_after file h) ≡ 0
  unfolding file_from
  validates-from =
      let n = append_refusal (length file) (numbers_of file) h in
      either (eqb n 0) (λ q. (append-shows file h z (eqb-true n 0 q)).admitted) (λ q. rw (file-from, q) z)
