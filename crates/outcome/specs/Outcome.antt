-- What a contract says of an outcome: the answer is a definition's value, a lent slice at exit is a definition's list, or both.
use Rattle.std.specs.Prelude.{◌≡◌, List}

-- the answer is the value that a definition gives
abbrev pub Answers : {A : Type 0} → A → A → Type 0
Answers value answer = answer ≡ value

-- a lent slice, of elements of any type, is left as a definition has it
abbrev pub Leaves : {E : Type 0} → List E → List E → Type 0
Leaves list after = after ≡ list

-- both
abbrev pub AnswersAndLeaves : {A E : Type 0} → A → List E → A → List E → Type 0
AnswersAndLeaves value list answer after = Answers value answer × Leaves list after
