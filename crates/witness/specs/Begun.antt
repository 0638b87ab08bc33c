-- What a creation and then an append of the caller's choice do, and what demand 3 promises of them.
use Rattle.std.specs.Prelude.{ℕ, ◌≡◌, cond, List, [], ◌∷◌, eqb, length}
use Rattle.descriptor.specs.declared.numbers.Settings.{Settings}
use Rattle.writer.specs.Creation.{creation_refusal, created_file}
use Rattle.storing.specs.Handed.{Handed}
use Rattle.writer.specs.Answers.{append_of, file_after}
use Rattle.promises.specs.Contents.{contents}
use Rattle.promises.specs.Calls.{append, appended}
use Rattle.promises.specs.Demand.{Promised}
use Rattle.witness.specs.declared.Begun.{Begun}

-- the answers of both calls
abbrev pub both_of : List ℕ → Handed → Begun
both_of new h = record { created = 0; appended = append_of new h }

-- and of a refused creation: the number, and zeros for the append that is not made
abbrev pub refused_begun : ℕ → Begun
refused_begun n = record { created = n; appended = record { refusal = 0; number = record { 0 = 0 } } }

-- what is answered
unfoldable pub begun_of : List ℕ → Settings → Handed → Begun
begun_of file s h =
    let n = creation_refusal (length file) s in
    cond (eqb n 0) (both_of (created_file file s) h) (refused_begun n)

-- the file after the two calls; a refused creation changes nothing, and nothing is appended
unfoldable pub begun_file : List ℕ → Settings → Handed → List ℕ
begun_file file s h = cond (eqb (creation_refusal (length file) s) 0) (file_after (created_file file s) h) file

-- the answers and the file are those; and where the creation was accepted, the new file has no entries, and after the append all that demand 3 promises holds
pub record CreatesAndAppends (before after : List ℕ) (s : Settings) (h : Handed) (r : Begun) : Type 0 where
  pub answered : r ≡ begun_of before s h
  pub bytes : after ≡ begun_file before s h
  pub empty : r.created ≡ 0 → contents (created_file before s) ≡ []
  pub promised : r.created ≡ 0 → Promised (append h ∷ []) (appended r.appended ∷ []) (created_file before s) after
