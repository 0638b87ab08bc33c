-- What a call leaves of a file that validates: the file validates again, with numbers that grow as before. Assumes nothing.
use Prim.Native.Nat.{ℕ}
use mathlib.Core.Path.{◌≡◌, refl, ap, ◌∙◌}
use mathlib.Core.List.{List, [], ◌∷◌}
use borrow.Author.Tests.{eqb-true}
use lib.Dec.{eqb}
use lib.ListN.{length}
use Rattle.outcome.proofs.Either.{either}
use Rattle.descriptor.specs.FirstRecord.{numbers_of, growth_in}
use Rattle.descriptor.specs.Rules.{file_refusal}
use Rattle.storing.specs.Handed.{Handed}
use Rattle.writer.specs.Rules.{append_refusal}
use Rattle.writer.specs.Answers.{file_from, append_of, file_after}
use Rattle.written.proofs.AppendLeaves.{left}
use Rattle.written.proofs.ReadBack.{shows, admits, append-shows}
use Rattle.batch.specs.Answers.{file_in_turn}
use Rattle.batch.proofs.Appending.{file-from, validates-from}
use Rattle.held.specs.declared.answers.OpenFile.{OpenFile}
use Rattle.held.specs.Record.{TrueOf}
use Rattle.held.proofs.Held.{true-shown}
use Rattle.through.specs.Bounds.{Grown}

-- a file is not refused, and its numbers grow as those of the file before
pub record Grows (file after : List ℕ) : Type 0 where
  pub passed : file_refusal after ≡ 0
  pub growth : growth_in (numbers_of after) ≡ growth_in (numbers_of file)

-- so it is after an append
pub append-grows : (file : List ℕ) (h : Handed) → file_refusal file ≡ 0 → Grows file (file_after file h)
unfolding file_from
append-grows file h z =
    let n = append_refusal (length file) (numbers_of file) h in
    record {
      passed = validates-from file h z;
      growth = either (eqb n 0)
          (λ q. let a = eqb-true n 0 q in ap growth_in (append-shows file h z a).numbers ∙ (left file (admits file h z a)).growth)
          (λ q. rw (file-from file h z, q));
    }

-- and after appends in turn
pub turns-grow : (hs : List Handed) (file : List ℕ) → file_refusal file ≡ 0 → Grows file (file_in_turn file hs)
turns-grow [] file z = record { passed = z; growth = refl }
turns-grow (h ∷ hs) file z =
    let first = append-grows file h z in
    let others = turns-grow hs (file_after file h) first.passed in
    either (eqb (append_of file h).refusal 0)
    (λ q. rw q (record { passed = others.passed; growth = others.growth ∙ first.growth }))
    (λ q. rw q (record { passed = z; growth = refl }))

-- then the file is as the code asks, for a record that was true
pub grown : (file after : List ℕ) (held : OpenFile) → TrueOf file held → Grows file after → Grown after held
grown file after held t g =
    let s = true-shown file held t in
    record { passed = g.passed; totals = rw (g.growth, (shows file _ _ s.validates).numbers) s.totals }
