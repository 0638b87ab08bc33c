-- What an append and then an update of the caller's choice do, and what demand 3 promises of them.
use Rattle.std.specs.Prelude.{ℕ, ◌≡◌, List, [], ◌∷◌}
use Rattle.storing.specs.Handed.{Handed}
use Rattle.writer.specs.Answers.{append_of, file_after}
use Rattle.update.specs.Answers.{Update, update_of, file_after_update}
use Rattle.promises.specs.Calls.{append, update, appended, updated}
use Rattle.promises.specs.Demand.{Start, Promised}
use Rattle.witness.specs.declared.Revised.{Revised}

-- the answers and the file are those of the append and then the update; and from a file that demand 3 starts from, all that it promises holds
pub record AppendsAndUpdates (before after : List ℕ) (h : Handed) (u : Update) (r : Revised) : Type 0 where
  pub first : r.appended ≡ append_of before h
  pub second : r.updated ≡ update_of (file_after before h) u
  pub bytes : after ≡ file_after_update (file_after before h) u
  pub promised : Start before → Promised (append h ∷ update u ∷ []) (appended r.appended ∷ updated r.updated ∷ []) before after
