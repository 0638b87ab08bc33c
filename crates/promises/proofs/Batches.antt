-- Batches of appends: a batch does what single appends of its entries do, up to the first that is refused (Q-1 of 02). So one that accepts none changes no byte, and one
-- that gives no refusal accepts all. Assumes nothing.
use Prim.Native.Nat.{ℕ, ◌≤◌}
use mathlib.Core.Path.{◌≡◌, refl, ap, ◌∙◌}
use mathlib.Core.List.{List, [], ◌∷◌}
use native.Mathlib.Omega.{arith}
use borrow.Author.Tests.{eqb-true, eqb-false}
use lib.Dec.{eqb}
use lib.ListN.{length, take, drop, length-drop}
use Rattle.outcome.proofs.Either.{either}
use Rattle.storing.specs.Handed.{Handed}
use Rattle.writer.specs.Answers.{append_of, file_after}
use Rattle.batch.specs.declared.answers.Batched.{Batched}
use Rattle.batch.specs.Batch.{Batch, entries_in}
use Rattle.batch.specs.Rules.{batch_refusal}
use Rattle.batch.specs.Answers.{answer_in_turn, file_in_turn, batch_of, file_after_batch}
use Rattle.promises.specs.Calls.{run, answers}
use Rattle.promises.specs.Batches.{singles, others_in, AllAccept, EndsBefore, AsSingly}
use Rattle.promises.proofs.InTurn.{one_more}

-- ---- a batch beside single appends

-- an answer and a file after it are those of single appends of these entries, up to the first that is refused
record Singly (file : List ℕ) (hs : List Handed) (answer : Batched) (after : List ℕ) : Type 0 where
  few : answer.accepted ≤ length hs
  leaves : after ≡ run (singles (take answer.accepted hs)) file
  accepts : AllAccept (answers (singles (take answer.accepted hs)) file)
  ends : EndsBefore (drop answer.accepted hs) after answer.refusal

-- so are those of appends in turn
turns-singly : (hs : List Handed) (file : List ℕ) → Singly file hs (answer_in_turn 0 file hs) (file_in_turn file hs)
turns-singly [] file = record { few = omega arith; leaves = refl; accepts = tt; ends = refl }
turns-singly (h ∷ hs) file =
    let next = file_after file h in
    let n = (append_of file h).refusal in
    let others = turns-singly hs next in
    either (eqb n 0)
    (λ q. rw (q, one_more hs 0 next) (record { few = omega arith; leaves = others.leaves; accepts = (eqb-true n 0 q, others.accepts); ends = others.ends }))
    (λ q. rw q (record { few = omega arith; leaves = refl; accepts = tt; ends = (refl, eqb-false n 0 q) }))

-- and those of a batch; where 26 is given none is accepted
pub as-singly : (file : List ℕ) (b : Batch) → AsSingly file b
unfolding batch_of file_after_batch
as-singly file b =
    let turns = turns-singly (entries_in b) file in
    either (eqb (batch_refusal b) 0)
    (λ q. record { few = rw q turns.few; leaves = rw q turns.leaves; accepts = rw q turns.accepts; ends = λ z. rw q turns.ends })
    (λ q. record { few = rw q (omega arith); leaves = rw q refl; accepts = rw q tt; ends = λ z. absurd (eqb-false (batch_refusal b) 0 q z) })

-- ---- none accepted, and all

-- a batch that accepts none changes no byte
pub batch-none : (file : List ℕ) (b : Batch) → (batch_of file b).accepted ≡ 0 → file_after_batch file b ≡ file
batch-none file b z = (as-singly file b).leaves ∙ ap (λ (n : ℕ). run (singles (take n (entries_in b))) file) z

-- appends that end with no refusal leave none behind
none_left : (hs : List Handed) (file : List ℕ) {n : ℕ} → EndsBefore hs file n → n ≡ 0 → length hs ≡ 0
none_left [] file e z = refl
none_left (h ∷ hs) file e z = absurd (e.1 z)

-- so a batch with no refusal accepts all
pub batch-all : (file : List ℕ) (b : Batch) → batch_refusal b ≡ 0 → (batch_of file b).refusal ≡ 0 → (batch_of file b).accepted ≡ length (entries_in b)
batch-all file b given z =
    let s = as-singly file b in
    omega (arith, none_left (others_in file b) (file_after_batch file b) (s.ends given) z, length-drop (batch_of file b).accepted (entries_in b))
