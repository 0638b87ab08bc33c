-- The record of an open file (Q-5 of 02): what validating gives, and the running totals of the capacities.
use Rattle.std.specs.Prelude.{ℕ, ◌≡◌, List, replicate}
use Rattle.geometry.specs.declared.units.RecordNumber.{RecordNumber}
use Rattle.geometry.specs.Totals.{totals_of}
use Rattle.descriptor.specs.declared.numbers.DescriptorNumbers.{DescriptorNumbers}
use Rattle.descriptor.specs.declared.validating.Validated.{Validated}
use Rattle.descriptor.specs.declared.validating.Validated.TheVariants.{Numbers, Refused}
use Rattle.descriptor.specs.FirstRecord.{growth_in}
use Rattle.descriptor.specs.Answers.{no_numbers, validation_of}
use Rattle.held.specs.declared.answers.OpenFile.{OpenFile}
use Rattle.held.specs.declared.answers.OpenFileAnswer.{OpenFileAnswer}

-- the record of these numbers and addresses
abbrev pub open_file_with : DescriptorNumbers → List RecordNumber → OpenFile
open_file_with d addresses = record { numbers = d; addresses = addresses; totals = totals_of (growth_in d) d.nex }

-- a refusal, and zeros
abbrev pub no_open_file : ℕ → OpenFileAnswer
no_open_file n = record { refusal = n; file = record { numbers = no_numbers; addresses = replicate 16 (record { 0 = 0 }); totals = replicate 16 0 } }

-- the record, by the case of a validation
unfoldable pub open_file_in : Validated → List RecordNumber → OpenFileAnswer
open_file_in (Refused n) addresses = no_open_file n
open_file_in (Numbers d) addresses = record { refusal = 0; file = open_file_with d addresses }

-- the record that validating a file gives, or the refusal
abbrev pub open_file_of : List ℕ → OpenFileAnswer
open_file_of file = open_file_in (validation_of file).numbers (validation_of file).addresses

-- a record is true of a file: the file is not refused, and validating it gives this record
pub record TrueOf (file : List ℕ) (held : OpenFile) : Type 0 where
  pub admitted : (open_file_of file).refusal ≡ 0
  pub same : held ≡ (open_file_of file).file
