-- What two appends of the caller's choice do, and what demand 3 promises of them.
use Rattle.std.specs.Prelude.{ℕ, ◌<◌, ◌≡◌, List, [], ◌∷◌, ℤ, pos, length, get_or}
use Rattle.std.proofs.Common.{SFits}
use Rattle.words.specs.Word.{integer4}
use Rattle.storing.specs.Handed.{Handed}
use Rattle.writer.specs.Answers.{append_of, file_after}
use Rattle.promises.specs.Calls.{append, appended}
use Rattle.promises.specs.Demand.{Start, Promised}
use Rattle.witness.specs.declared.Twice.{Twice}

-- identifiers that an Integer*4 can hold
abbrev pub AllIntegers : List ℤ → Type 0
AllIntegers ids = (i : ℕ) → i < length ids → SFits integer4 (get_or ids i (pos 0))

-- the answers and the file are those of the two appends one after the other; and from a file that demand 3 starts from, all that it promises holds
pub record AppendsTwice (before after : List ℕ) (h k : Handed) (r : Twice) : Type 0 where
  pub first : r.first ≡ append_of before h
  pub second : r.second ≡ append_of (file_after before h) k
  pub bytes : after ≡ file_after (file_after before h) k
  pub promised : Start before → Promised (append h ∷ append k ∷ []) (appended r.first ∷ appended r.second ∷ []) before after
