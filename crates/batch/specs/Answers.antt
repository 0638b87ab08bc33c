-- What a batch answers, and what it leaves in the file: what its appends in turn do, up to the first refusal.
use Rattle.std.specs.Prelude.{ℕ, ◌+◌, cond, List, [], ◌∷◌, eqb}
use Rattle.outcome.specs.Outcome.{AnswersAndLeaves}
use Rattle.storing.specs.Handed.{Handed}
use Rattle.writer.specs.Answers.{append_of, file_after}
use Rattle.batch.specs.declared.answers.Batched.{Batched}
use Rattle.batch.specs.Batch.{Batch, entries_in}
use Rattle.batch.specs.Rules.{batch_refusal}

-- the answer of appends in turn, after so many that were accepted: the first refusal ends them
abbrev pub answer_in_turn : ℕ → List ℕ → List Handed → Batched
answer_in_turn accepted file [] = record { refusal = 0; accepted = accepted }
answer_in_turn accepted file (h ∷ hs) =
    let n = (append_of file h).refusal in
    cond (eqb n 0) (answer_in_turn (accepted + 1) (file_after file h) hs) (record { refusal = n; accepted = accepted })

-- and the file after them
abbrev pub file_in_turn : List ℕ → List Handed → List ℕ
file_in_turn file [] = file
file_in_turn file (h ∷ hs) = cond (eqb (append_of file h).refusal 0) (file_in_turn (file_after file h) hs) file

-- what appends in turn promise: that answer, and that file
abbrev pub AppendsInTurn : List ℕ → List Handed → Batched → List ℕ → Type 0
AppendsInTurn file hs answer after = AnswersAndLeaves (answer_in_turn 0 file hs) (file_in_turn file hs) answer after

-- what a batch answers: 26 before all else, or what its appends in turn do
unfoldable pub batch_of : List ℕ → Batch → Batched
batch_of file b =
    let n = batch_refusal b in
    cond (eqb n 0) (answer_in_turn 0 file (entries_in b)) (record { refusal = n; accepted = 0 })

-- and the file that it leaves
unfoldable pub file_after_batch : List ℕ → Batch → List ℕ
file_after_batch file b = cond (eqb (batch_refusal b) 0) (file_in_turn file (entries_in b)) file

-- what `append_batch` promises: the refusal and how many were accepted, and the file after it
abbrev pub AppendsBatch : List ℕ → Batch → Batched → List ℕ → Type 0
AppendsBatch file b answer after = AnswersAndLeaves (batch_of file b) (file_after_batch file b) answer after
