-- Demand 3, from the files that 01 names: created, or passing the order check. Assumes nothing.
use Prim.Native.Nat.{ℕ, ◌≤◌}
use mathlib.Core.Path.{◌≡◌, ap, ◌∙◌}
use mathlib.Core.Logic.{inl, inr}
use mathlib.Core.List.{List}
use Rattle.order.specs.Order.{all_pass, check_of}
use Rattle.promises.specs.Contents.{entries_of, opened_in}
use Rattle.promises.specs.Calls.{Call, AllFit, run, answers}
use Rattle.promises.specs.Regions.{Sound}
use Rattle.promises.specs.Demand.{Start, Promised}
use Rattle.promises.proofs.OpenEntries.{open-shown}
use Rattle.promises.proofs.OrderSound.{order-sound}
use Rattle.promises.proofs.OrderAgain.{run-ordered}
use Rattle.promises.proofs.Making.{sound-open}
use Rattle.promises.proofs.Series.{run-contents, run-numbered, run_sound, run-reads, run-stands, run-stays, run-found}
use Rattle.promises.proofs.CreatedSound.{created-check}

-- every entry of a sound file answers no refusal
sound-opens : (file : List ℕ) → Sound file → (e : ℕ) → 1 ≤ e → e ≤ entries_of file → (opened_in file (record { 0 = e })).refusal ≡ 0
sound-opens file s e l h = rw (open-shown (sound-open file s e l h))

-- a file that demand 3 starts from passes the order check
pub start-ordered : (file : List ℕ) → Start file → check_of file ≡ all_pass
start-ordered file (inl c) = ap check_of c.made ∙ created-check c.image c.settings c.given
start-ordered file (inr c) = c

-- from it, after any series of calls
pub demand-3 : (calls : List Call) → AllFit calls → (file : List ℕ) → Start file → Promised calls (answers calls file) file (run calls file)
demand-3 calls g file start =
    let c = start-ordered file start in
    let s = order-sound file c in
    let after = run_sound calls g file s in
    record {
      kept = run-contents calls g file s;
      reads = run-reads calls g file s;
      stands = run-stands calls g file s;
      stays = run-stays calls g file s;
      found = run-found calls g file s;
      numbered = run-numbered calls g file s;
      opened = sound-opens (run calls file) after;
      apart = after.inside.apart;
      ordered = run-ordered calls g file c;
    }
