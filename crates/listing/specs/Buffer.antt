-- Bytes handed over in a lent buffer: how many they are said to be, and what the buffer holds afterwards.
use Rattle.std.specs.Prelude.{ℕ, cond, List, length, leb}
use Rattle.outcome.specs.Outcome.{AnswersAndLeaves}
use Rattle.image.specs.Image.{splice}

-- the answer: the count of the bytes where they fit, else 0
unfoldable pub count_in : List ℕ → List ℕ → ℕ
count_in bytes out = cond (leb (length bytes) (length out)) (length bytes) 0

-- the buffer: the bytes from its start on where they fit, else as it was
unfoldable pub filled_by : List ℕ → List ℕ → List ℕ
filled_by bytes out = cond (leb (length bytes) (length out)) (splice out 0 bytes) out

-- what a call promises that hands bytes over in a lent buffer
abbrev pub HandsOver : List ℕ → List ℕ → ℕ → List ℕ → Type 0
HandsOver bytes out answer after = AnswersAndLeaves (count_in bytes out) (filled_by bytes out) answer after
