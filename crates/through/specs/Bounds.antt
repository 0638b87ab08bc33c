-- What the code may assume of the file that a call leaves.
use Rattle.std.specs.Prelude.{ℕ, ◌≡◌, List}
use Rattle.descriptor.specs.FirstRecord.{numbers_of, growth_in}
use Rattle.descriptor.specs.Rules.{file_refusal}
use Rattle.held.specs.declared.answers.OpenFile.{OpenFile}
use Rattle.geometry.specs.Totals.{totals_of}

-- it is not refused, and the totals of the record before the call are those of its growth, for the extensions that were in use
pub record Grown (file : List ℕ) (held : OpenFile) : Type 0 where
  pub passed : file_refusal file ≡ 0
  pub totals : held.totals ≡ totals_of (growth_in (numbers_of file)) held.numbers.nex
