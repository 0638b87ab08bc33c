-- What batches and calls through a record answer of room, and where they put entries: the same as single appends (Q-13 of 02). Assumes nothing.
use Prim.Native.Nat.{ℕ, zero, suc}
use mathlib.Core.Path.{◌≡◌, sym, ap, ◌∙◌}
use mathlib.Core.Logic.{inl, inr}
use mathlib.Core.List.{List, [], ◌∷◌}
use native.Mathlib.Omega.{arith}
use lib.ListN.{take, drop}
use Rattle.storing.specs.Handed.{Handed}
use Rattle.writer.specs.Answers.{append_of, file_after}
use Rattle.batch.specs.Batch.{Batch, entries_in}
use Rattle.batch.specs.Rules.{batch_refusal}
use Rattle.batch.specs.Answers.{batch_of, file_after_batch}
use Rattle.held.specs.declared.answers.OpenFile.{OpenFile}
use Rattle.held.specs.Record.{TrueOf}
use Rattle.held.proofs.Held.{true-held}
use Rattle.through.specs.Answers.{no_append, append_through, batch_through}
use Rattle.through.proofs.Outcomes.{append-done, batch-done}
use Rattle.promises.specs.Calls.{Call, refusal_of, answers}
use Rattle.promises.specs.Batches.{singles, AllAccept, EndsBefore}
use Rattle.promises.specs.Records.{call_through}
use Rattle.promises.specs.Room.{NoRoom, RoomMeans, BestInTurn, MeansNext, BatchMeans}
use Rattle.promises.proofs.RefusedAnswers.{append-refused, append-kept}
use Rattle.promises.proofs.InTurn.{AllIntegers, entries_fit}
use Rattle.promises.proofs.Batches.{as-singly}
use Rattle.promises.proofs.Records.{by-record, through-27}
use Rattle.promises.proofs.RoomMeans.{stands-best, append-room}

-- ---- batches

-- the integers of the first of these entries are ones that their words can hold
first-fit : (n : ℕ) (hs : List Handed) → AllIntegers hs → AllIntegers (take n hs)
first-fit zero hs g = tt
first-fit (suc n) [] g = tt
first-fit (suc n) (h ∷ hs) g = (g.0, first-fit n hs g.1)

-- appends in turn that are accepted stand each at the best place
best-in-turn : (hs : List Handed) → AllIntegers hs → (file : List ℕ) → AllAccept (answers (singles hs) file) → BestInTurn file hs
best-in-turn [] g file a = tt
best-in-turn (h ∷ hs) g file a = (stands-best file h g.0 a.0, best-in-turn hs g.1 (file_after file h) a.1)

-- the refusal of the next means what it does of an append
means-next : (hs : List Handed) (file : List ℕ) (n : ℕ) → EndsBefore hs file n → MeansNext hs file n
means-next [] file n e = e
means-next (h ∷ hs) file n e =
    let some : (append_of file h).refusal ≡ 0 → ⊥ = λ q. e.1 (e.0 ∙ q) in
    let answer : append_of file h ≡ no_append n = append-refused file h some ∙ ap no_append (sym e.0) in
    rw (answer, append-kept file h some) at (append-room file h)

-- a batch that is not refused as a whole means what its appends do
pub batch-room : (file : List ℕ) (b : Batch) → batch_refusal b ≡ 0 → BatchMeans file b (batch_of file b) (file_after_batch file b)
batch-room file b z =
    let s = as-singly file b in
    let n = (batch_of file b).accepted in
    record {
      accepted = λ g. best-in-turn (take n (entries_in b)) (first-fit n (entries_in b) (entries_fit b g)) file s.accepts;
      ends = means-next (drop n (entries_in b)) (file_after_batch file b) (batch_of file b).refusal (s.ends z);
    }

-- ---- through a record

module _ (file : List ℕ) (held : OpenFile) where
  -- through a true record an append means what it does without it
  pub append-to-room : TrueOf file held → (h : Handed) → let x = append_through file held h in RoomMeans file h x.answer x.file
  append-to-room t h = rw (append-done file held (true-held file held t) h) (append-room file h)

  -- and so does a batch
  pub batch-to-room : TrueOf file held → (b : Batch) → batch_refusal b ≡ 0 → let x = batch_through file held b in BatchMeans file b x.answer x.file
  batch-to-room t b z = rw (batch-done file held (true-held file held t) b z) (batch-room file b z)

  -- a call that answers 23 or 24 went through a true one
  pub room-true : (c : Call) → NoRoom (refusal_of (call_through file held c).answer) → TrueOf file held
  room-true c q = by-record file held (λ t. t) (λ f. absurd (late q f))
    where
      late : NoRoom (refusal_of (call_through file held c).answer) → (TrueOf file held → ⊥) → ⊥
      late (inl q) f = omega (arith, through-27 file held c f (λ o. omega arith))
      late (inr q) f = omega (arith, through-27 file held c f (λ o. omega arith))
