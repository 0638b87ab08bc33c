-- What an append answers, and what it leaves in the file.
use Rattle.std.specs.Prelude.{ℕ, cond, List, eqb, length, Result, Ok, Err}
use Rattle.outcome.specs.declared.refusal.Refusal.{Refusal}
use Rattle.outcome.specs.Outcome.{Leaves, AnswersAndLeaves}
use Rattle.outcome.specs.Refusal.{number_of, Gives}
use Rattle.geometry.specs.declared.units.EntryNumber.{EntryNumber}
use Rattle.geometry.specs.declared.units.RecordNumber.{RecordNumber}
use Rattle.descriptor.specs.declared.numbers.DescriptorNumbers.{DescriptorNumbers}
use Rattle.descriptor.specs.declared.validating.Validated.{Validated}
use Rattle.descriptor.specs.declared.validating.Validated.TheVariants.{Numbers, Refused}
use Rattle.descriptor.specs.FirstRecord.{addresses_of}
use Rattle.descriptor.specs.Answers.{validation_of}
use Rattle.writer.specs.declared.answers.Appended.{Appended}
use Rattle.storing.specs.Handed.{Handed}
use Rattle.writer.specs.Rules.{append_refusal}
use Rattle.storing.specs.Writing.{appended}

-- an accepted append to admitted numbers: the new number
abbrev pub accepted_from : DescriptorNumbers → Appended
accepted_from d = record { refusal = 0; number = d.xnext }

-- a refused one: the number is 0
abbrev pub refused_from : ℕ → Appended
refused_from n = record { refusal = n; number = record { 0 = 0 } }

-- the answer of a new number, or of a refusal
abbrev pub answer_of : Result EntryNumber Refusal → Appended
answer_of (Ok number) = record { refusal = 0; number = number }
answer_of (Err r) = refused_from (number_of r)

-- one or the other, by the table
unfoldable pub appended_from : ℕ → DescriptorNumbers → Handed → Appended
appended_from bytes d h =
    let n = append_refusal bytes d h in
    cond (eqb n 0) (accepted_from d) (refused_from n)

-- the file after it; a refused one changes nothing
unfoldable pub file_from : List ℕ → DescriptorNumbers → List RecordNumber → Handed → List ℕ
file_from file d addresses h = cond (eqb (append_refusal (length file) d h) 0) (appended file d addresses h) file

-- an append to a file, by the case of its validation: the refusal and the new number
unfoldable pub append_in : List ℕ → Validated → Handed → Appended
append_in file (Refused n) h = refused_from n
append_in file (Numbers d) h = appended_from (length file) d h

-- and the file after it
unfoldable pub file_in : List ℕ → Validated → List RecordNumber → Handed → List ℕ
file_in file (Refused n) addresses h = file
file_in file (Numbers d) addresses h = file_from file d addresses h

-- what an append to a file answers
abbrev pub append_of : List ℕ → Handed → Appended
append_of file h = append_in file (validation_of file).numbers h

-- and the file that it leaves
abbrev pub file_after : List ℕ → Handed → List ℕ
file_after file h = file_in file (validation_of file).numbers (validation_of file).addresses h

-- what `append` promises: the refusal and the new number, and the file after it
abbrev pub Appends : List ℕ → Handed → Appended → List ℕ → Type 0
Appends file h answer after = AnswersAndLeaves (append_of file h) (file_after file h) answer after

-- and `append_from`, to a file of admitted numbers: the new number, or the refusal by the table, and the file after it
abbrev pub AppendsFrom : List ℕ → DescriptorNumbers → Handed → Result EntryNumber Refusal → List ℕ → Type 0
AppendsFrom file d h outcome after = Gives (append_refusal (length file) d h) d.xnext outcome × Leaves (file_from file d (addresses_of file d.nex) h) after
