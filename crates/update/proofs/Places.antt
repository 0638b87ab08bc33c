-- Where the section that an update names stands: within the file, and in whole words. Assumes nothing.
use mathlib.Core.List.{List}
use native.Mathlib.Omega.{arith}
use lib.ListN.{length}
use Prim.Native.Nat.{ℕ}
use Rattle.handing.proofs.Handing.{section-words-inside}
use Rattle.update.specs.Answers.{Update, place_named}
use Rattle.update.specs.Bounds.{Writable}

-- an update may write there
pub named-writable : (file : List ℕ) (u : Update) → Writable (length file) (place_named file u)
named-writable file u =
    let i = section-words-inside file u.number u.identifier in
    record { ordered = i.ordered; ends = i.ends; whole = i.whole; small = omega (arith, i.small) }
