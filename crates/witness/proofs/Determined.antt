-- Two outcomes of `append_twice`, of `append_and_update` or of `create_and_append` that both meet its contract are equal. Assumes nothing.
use Prim.Native.Nat.{ℕ}
use mathlib.Core.Path.{◌≡◌, sym, ◌∙◌}
use mathlib.Core.List.{List}
use Rattle.descriptor.specs.declared.numbers.Settings.{Settings}
use Rattle.storing.specs.Handed.{Handed}
use Rattle.update.specs.Answers.{Update}
use Rattle.witness.specs.declared.Begun.{Begun}
use Rattle.witness.specs.declared.Revised.{Revised}
use Rattle.witness.specs.declared.Twice.{Twice}
use Rattle.witness.specs.Begun.{CreatesAndAppends}
use Rattle.witness.specs.Revised.{AppendsAndUpdates}
use Rattle.witness.specs.Twice.{AppendsTwice}

-- two appends have one outcome
pub twice-determined : (before f g : List ℕ) (h k : Handed) (p q : Twice) → AppendsTwice before f h k p → AppendsTwice before g h k q → (p ≡ q) × (f ≡ g)
twice-determined before f g h k p q a b =
    let first = a.first ∙ sym b.first in
    let second = a.second ∙ sym b.second in
    (λ i. record { first = first i; second = second i }, a.bytes ∙ sym b.bytes)

-- so have an append and the update behind it
pub revised-determined : (before f g : List ℕ) (h : Handed) (u : Update) (p q : Revised) → AppendsAndUpdates before f h u p → AppendsAndUpdates before g h u q → (p ≡ q) × (f ≡ g)
revised-determined before f g h u p q a b =
    let first = a.first ∙ sym b.first in
    let second = a.second ∙ sym b.second in
    (λ i. record { appended = first i; updated = second i }, a.bytes ∙ sym b.bytes)

-- and so have a creation and the append behind it
pub begun-determined : (before f g : List ℕ) (s : Settings) (h : Handed) (p q : Begun) → CreatesAndAppends before f s h p → CreatesAndAppends before g s h q → (p ≡ q) × (f ≡ g)
begun-determined before f g s h p q a b = (a.answered ∙ sym b.answered, a.bytes ∙ sym b.bytes)
