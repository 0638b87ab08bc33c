-- What an update answers, by the contents of the file and its arguments alone.
use Rattle.std.specs.Prelude.{ℕ, zero, suc, List, length, get_or}
use Rattle.update.specs.Rules.{content_refusal}
use Rattle.update.specs.Answers.{Update}
use Rattle.promises.specs.Contents.{Reading, holds, refused, Search, found, missing, first_with}

-- what is found under a number: the refusal 12 where no entry has it
abbrev pub reading_under : ℕ → List Reading → Reading
reading_under zero readings = refused 12
reading_under (suc k) readings = get_or readings k (refused 12)

-- new content for a section that was searched for: 20 where there is none, else 28 or 0 by the bytes that the section has
abbrev pub answer_found : List ℕ → Search → ℕ
answer_found content missing = 20
answer_found content (found bytes) = content_refusal (length content) (length bytes)

-- an update of what is found under its number: the refusal there, else that of the first section with the identifier
abbrev pub answer_read : Update → Reading → ℕ
answer_read u (refused n) = n
answer_read u (holds c) = answer_found u.content (first_with u.identifier c.sections)

-- an update of a file with these contents
unfoldable pub answer_from : List Reading → Update → ℕ
answer_from readings u = answer_read u (reading_under u.number.0 readings)
