-- A batch beside single appends of its entries, one call for each (Q-1 of 02).
use Rattle.std.specs.Prelude.{ℕ, ◌≤◌, ◌≡◌, List, [], ◌∷◌, map, length, take, drop}
use Rattle.storing.specs.Handed.{Handed}
use Rattle.writer.specs.Answers.{append_of}
use Rattle.batch.specs.Batch.{Batch, entries_in}
use Rattle.batch.specs.Rules.{batch_refusal}
use Rattle.batch.specs.Answers.{batch_of, file_after_batch}
use Rattle.promises.specs.Calls.{Call, append, Answer, refusal_of, run, answers}

-- an append for each entry
abbrev pub singles : List Handed → List Call
singles hs = map append hs

-- the entries of a batch that were accepted, by its answer: the first of them
abbrev pub accepted_in : List ℕ → Batch → List Handed
accepted_in file b = take (batch_of file b).accepted (entries_in b)

-- and those behind them
abbrev pub others_in : List ℕ → Batch → List Handed
others_in file b = drop (batch_of file b).accepted (entries_in b)

-- no answer of these is a refusal
abbrev pub AllAccept : List Answer → Type 0
AllAccept [] = Unit
AllAccept (a ∷ given) = (refusal_of a ≡ 0) × AllAccept given

-- how appends in turn end before these entries: with none left and no refusal, or with the refusal of the next
abbrev pub EndsBefore : List Handed → List ℕ → ℕ → Type 0
EndsBefore [] file n = n ≡ 0
EndsBefore (h ∷ hs) file n = (n ≡ (append_of file h).refusal) × (n ≡ 0 → ⊥)

-- what a batch does is what its single appends do, up to the first refusal
pub record AsSingly (file : List ℕ) (b : Batch) : Type 0 where
  -- no more are accepted than there are
  pub few : (batch_of file b).accepted ≤ length (entries_in b)
  -- the file after it is the file after single appends of those accepted, also where it is refused
  pub leaves : file_after_batch file b ≡ run (singles (accepted_in file b)) file
  -- each of which is accepted
  pub accepts : AllAccept (answers (singles (accepted_in file b)) file)
  -- and where 26 is not given, the next append, to the file as it is then, is refused as the batch is, or there is none
  pub ends : batch_refusal b ≡ 0 → EndsBefore (others_in file b) (file_after_batch file b) (batch_of file b).refusal
