-- The numbers of a column together, a row after the other, and the rules of the columns as one. Assumes nothing.
use Prim.Native.Nat.{ℕ, ◌+◌, ◌≤◌, ◌<◌}
use mathlib.Core.Path.{◌≡◌, refl, ap}
use mathlib.Core.Bool.{Bool, true, false, ◌&&◌, cond}
use mathlib.Core.List.{List, []}
use native.Mathlib.Numerals.{add-one}
use lib.ListN.{length, get_or, drop, drop_of_length-le}
use lib.Seq.{drop-cons}
use Rattle.batch.specs.Batch.{count_in, together}

module _ (column : ℕ) (rows : List (List ℕ)) (k : ℕ) where
  -- from row k on: row k, and the rows behind it
  pub together-next : k < length rows → together column (drop k rows) ≡ count_in (get_or rows k []) column + together column (drop (k + 1) rows)
  together-next h = rw (add-one k) (ap (together column) (drop-cons rows k [] h))

  -- from past the last on: nothing
  pub together-none : length rows ≤ k → together column (drop k rows) ≡ 0
  together-none h = rw (drop_of_length-le rows h)

-- five rows of one number are one row
pub rows_used : (a b c d e : Bool) (n : ℕ) → cond a (cond b (cond c (cond d (cond e 0 n) n) n) n) n ≡ cond (a && (b && (c && (d && e)))) 0 n
rows_used true true true true e n = refl
rows_used true true true false e n = refl
rows_used true true false d e n = refl
rows_used true false c d e n = refl
rows_used false b c d e n = refl
