-- Creation: its refusal, and the file after it (01, "Create and append").
use Rattle.std.specs.Prelude.{ℕ, cond, List, eqb, length}
use Rattle.outcome.specs.Outcome.{AnswersAndLeaves}
use Rattle.descriptor.specs.declared.numbers.Settings.{Settings}
use Rattle.descriptor.specs.Refusal.{refusal_in}
use Rattle.descriptor.specs.FirstRecord.{created_of}
use Rattle.descriptor.specs.Rules.{creation_rules}
use Rattle.fields.specs.FieldWrites.{first_written}

-- creation's refusal, 0 when accepted
unfoldable pub creation_refusal : ℕ → Settings → ℕ
creation_refusal bytes s = refusal_in (creation_rules bytes (created_of s))

-- the file after a creation; a refused one changes nothing
unfoldable pub created_file : List ℕ → Settings → List ℕ
created_file file s = cond (eqb (creation_refusal (length file) s) 0) (first_written file (created_of s)) file

-- what `create` promises: the refusal, and the file after it
abbrev pub Creates : List ℕ → Settings → ℕ → List ℕ → Type 0
Creates file s answer after = AnswersAndLeaves (creation_refusal (length file) s) (created_file file s) answer after
