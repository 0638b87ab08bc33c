-- Bytes written one behind the other in a lent buffer. Assumes nothing.
use Prim.Native.Nat.{ℕ, ◌+◌}
use mathlib.Core.Path.{sym, ◌∙◌}
use mathlib.Core.List.{List, [], ◌++◌}
use native.Mathlib.Omega.{arith}
use lib.ListN.{length, length-append}
use Rattle.outcome.specs.Outcome.{AnswersAndLeaves}
use Rattle.image.specs.Image.{splice}
use Rattle.image.proofs.Splice.{splice-nil, splice-adjacent}

-- bytes are written at an offset: the offset behind them, and what the buffer holds afterwards
abbrev pub Laid : List ℕ → ℕ → List ℕ → ℕ → List ℕ → Type 0
Laid out at bytes behind after = AnswersAndLeaves (at + length bytes) (splice out at bytes) behind after

-- no bytes are written by leaving the buffer as it is
pub laid_none : (out : List ℕ) (at : ℕ) → Laid out at [] at out
laid_none out at = (omega arith, sym (splice-nil out at))

-- bytes written behind others are written with them
pub laid_on : (out : List ℕ) (at : ℕ) (xs ys : List ℕ) {mid behind : ℕ} {with-xs after : List ℕ} → Laid out at xs mid with-xs → Laid with-xs mid ys behind after
    → Laid out at (xs ++ ys) behind after
laid_on out at xs ys {mid} f g = (rw length-append (omega arith), g.1 ∙ rw f.1 (splice-adjacent out at xs mid ys f.0))
