-- What a call through a record of the open file answers, and what it leaves of the record and of the file (Q-5 of 02).
use Rattle.std.specs.Prelude.{ℕ, ◌≡◌, cond, List, eqb}
use Rattle.held.specs.declared.answers.OpenFile.{OpenFile}
use Rattle.held.specs.Record.{open_file_of}
use Rattle.held.specs.Rules.{held_refusal}
use Rattle.storing.specs.Handed.{Handed}
use Rattle.writer.specs.declared.answers.Appended.{Appended}
use Rattle.writer.specs.Answers.{append_of, file_after}
use Rattle.batch.specs.declared.answers.Batched.{Batched}
use Rattle.batch.specs.Batch.{Batch}
use Rattle.batch.specs.Rules.{batch_refusal}
use Rattle.batch.specs.Answers.{batch_of, file_after_batch}
use Rattle.update.specs.Answers.{Update, update_of, file_after_update}
use Rattle.through.specs.declared.appending.AppendedThrough.{AppendedThrough}
use Rattle.through.specs.declared.batching.BatchedThrough.{BatchedThrough}
use Rattle.through.specs.declared.updating.UpdatedThrough.{UpdatedThrough}

-- what a call through a record comes to: its answer, and the record and the file after it
pub record Outcome (A : Type 0) : Type 0 where
  pub answer : A
  pub held : OpenFile
  pub file : List ℕ

-- a call that changes nothing
abbrev pub stays : {A : Type 0} → List ℕ → OpenFile → A → Outcome A
stays file held answer = record { answer = answer; held = held; file = file }

-- a call with this answer that leaves this file: the record is then the one that validating the file gives
abbrev pub leaving : {A : Type 0} → A → List ℕ → Outcome A
leaving answer after = record { answer = answer; held = (open_file_of after).file; file = after }

-- an append that is refused
abbrev pub no_append : ℕ → Appended
no_append n = record { refusal = n; number = record { 0 = 0 } }

-- a batch that is refused as a whole
abbrev pub no_batch : ℕ → Batched
no_batch n = record { refusal = n; accepted = 0 }

-- an append through a record: 27 before all else, or what the append does without it
unfoldable pub append_through : List ℕ → OpenFile → Handed → Outcome Appended
append_through file held h =
    let n = held_refusal file held in
    cond (eqb n 0) (leaving (append_of file h) (file_after file h)) (stays file held (no_append n))

-- a batch: 26, then 27, or what the batch does without it
unfoldable pub batch_through : List ℕ → OpenFile → Batch → Outcome Batched
batch_through file held b =
    let m = batch_refusal b in
    let n = held_refusal file held in
    cond (eqb m 0) (cond (eqb n 0) (leaving (batch_of file b) (file_after_batch file b)) (stays file held (no_batch n))) (stays file held (no_batch m))

-- an update: 27 before all else, or what the update does without it
unfoldable pub update_through : List ℕ → OpenFile → Update → Outcome ℕ
update_through file held u =
    let n = held_refusal file held in
    cond (eqb n 0) (leaving (update_of file u) (file_after_update file u)) (stays file held n)

-- ---- what the functions promise

-- an answer, a record and a file are those of an outcome
abbrev pub Gives : {A : Type 0} → Outcome A → A → OpenFile → List ℕ → Type 0
Gives x answer held after = (answer ≡ x.answer) × (held ≡ x.held) × (after ≡ x.file)

-- what `append_through` promises, with the record by value
abbrev pub AppendsThrough : List ℕ → OpenFile → Handed → AppendedThrough → List ℕ → Type 0
AppendsThrough file held h answer after = Gives (append_through file held h) answer.answer answer.held after

-- and `append_to`, with the record lent
abbrev pub AppendsTo : List ℕ → OpenFile → Handed → Appended → OpenFile → List ℕ → Type 0
AppendsTo file held h answer left after = Gives (append_through file held h) answer left after

-- a batch that is refused as a whole, beside the record
abbrev pub batched_none : OpenFile → ℕ → BatchedThrough
batched_none held n = record { held = held; answer = no_batch n }

-- what `append_batch_through` promises, with the record by value
abbrev pub AppendsBatchThrough : List ℕ → OpenFile → Batch → BatchedThrough → List ℕ → Type 0
AppendsBatchThrough file held b answer after = Gives (batch_through file held b) answer.answer answer.held after

-- and `append_batch_to`, with the record lent
abbrev pub AppendsBatchTo : List ℕ → OpenFile → Batch → Batched → OpenFile → List ℕ → Type 0
AppendsBatchTo file held b answer left after = Gives (batch_through file held b) answer left after

-- what `update_through` promises, with the record by value
abbrev pub UpdatesThrough : List ℕ → OpenFile → Update → UpdatedThrough → List ℕ → Type 0
UpdatesThrough file held u answer after = Gives (update_through file held u) answer.answer answer.held after

-- and `update_to`, with the record lent
abbrev pub UpdatesTo : List ℕ → OpenFile → Update → ℕ → OpenFile → List ℕ → Type 0
UpdatesTo file held u answer left after = Gives (update_through file held u) answer left after
