-- Two outcomes of a call that both meet its contract are equal. Assumes nothing.
use mathlib.Core.Path.{◌≡◌, sym, ◌∙◌}
use mathlib.Core.List.{List}
use Rattle.outcome.specs.Outcome.{Answers, Leaves, AnswersAndLeaves}

-- two answers that are both a definition's value
pub one_answer : {A : Type 0} {value p q : A} → Answers value p → Answers value q → p ≡ q
one_answer p q = p ∙ sym q

-- two slices at exit that are both a definition's list
pub one-file : {E : Type 0} {list p q : List E} → Leaves list p → Leaves list q → p ≡ q
one-file p q = p ∙ sym q

-- both
pub one-outcome : {A E : Type 0} {value p q : A} {list f g : List E} → AnswersAndLeaves value list p f → AnswersAndLeaves value list q g → (p ≡ q) × (f ≡ g)
one-outcome p q = (p.0 ∙ sym q.0, p.1 ∙ sym q.1)
