-- The places left are blank, and those behind them hold what was put.
use Rattle.std.proofs.Common.{◌≡◌, ◌<◌, ℕ, replicate}
use Rattle.classic.proofs.Filled.{Emptying}
use Rattle.classic.proofs.sections.fill.Given as goal

abbrev pub invariant-loop-left : goal.invariant-loop-left
invariant-loop-left g l =
    (f : ℕ → _) (blank : _) → l.initial.table ≡ replicate 64 blank → ((i : ℕ) (x : _) → i < l.count → goal.F-post g l.value_at i x → x ≡ f i)
    → Emptying 64 l.count f blank l.table l.left
