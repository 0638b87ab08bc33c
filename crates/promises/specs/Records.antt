-- Calls through a record of the open file (Q-5 of 02): what one comes to, of any kind, and what a series comes to that goes through one record.
use Rattle.std.specs.Prelude.{ℕ, ◌≤◌, ◌≡◌, List, [], ◌∷◌}
use Rattle.held.specs.declared.answers.OpenFile.{OpenFile}
use Rattle.held.specs.Record.{TrueOf}
use Rattle.through.specs.Answers.{Outcome, append_through, batch_through, update_through}
use Rattle.promises.specs.Calls.{Call, append, batch, update, Answer, appended, batched, updated}

-- an outcome with its answer as one of any call
abbrev pub with_answer : {A : Type 0} → (A → Answer) → Outcome A → Outcome Answer
with_answer f x = record { answer = f x.answer; held = x.held; file = x.file }

-- what a call through a record comes to
abbrev pub call_through : List ℕ → OpenFile → Call → Outcome Answer
call_through file held (append h) = with_answer appended (append_through file held h)
call_through file held (batch b) = with_answer batched (batch_through file held b)
call_through file held (update u) = with_answer updated (update_through file held u)

-- the file after a series of calls through one record, each with the record as the one before it left it
abbrev pub run_through : List Call → OpenFile → List ℕ → List ℕ
run_through [] held file = file
run_through (c ∷ cs) held file = let x = call_through file held c in run_through cs x.held x.file

-- and their answers
abbrev pub answers_through : List Call → OpenFile → List ℕ → List Answer
answers_through [] held file = []
answers_through (c ∷ cs) held file = let x = call_through file held c in x.answer ∷ answers_through cs x.held x.file

-- the record is true of the file before the first call and after every one
abbrev pub TrueThroughout : List Call → OpenFile → List ℕ → Type 0
TrueThroughout [] held file = TrueOf file held
TrueThroughout (c ∷ cs) held file = let x = call_through file held c in TrueOf file held × TrueThroughout cs x.held x.file

-- a refusal that is none of a file's own, 1 to 11 and 29
abbrev pub PastFile : ℕ → Type 0
PastFile n = (12 ≤ n) × (n ≡ 29 → ⊥)
