-- The entries of a batch from one of them on: the next one takes as much as its row counts, and behind it are the others. Assumes nothing.
use Prim.Native.Nat.{ℕ, ◌+◌, ◌≤◌, ◌<◌}
use mathlib.Core.Path.{◌≡◌, refl}
use mathlib.Core.List.{List, [], ◌∷◌}
use native.Mathlib.Omega.{arith}
use native.Mathlib.Numerals.{add-one}
use lib.IntN.{pos}
use lib.ListN.{length, get_or, drop, drop_of_length-le}
use lib.Seq.{drop-cons}
use Rattle.storing.specs.Handed.{Handed}
use Rattle.batch.specs.Batch.{Laid, Batch, entries_of, entries_in}
use Rattle.batch.specs.Taking.{counts_of, entry_taken, left_behind}

module _ (b : Batch) where
  -- the entries from entry k on, counted from 0, of what is left for them
  abbrev pub entries_from : ℕ → Laid → List Handed
  entries_from k x = entries_of (drop k b.versions) (drop k b.counts) x

  -- from the first on they are all
  pub entries-begun : entries_from 0 b.laid ≡ entries_in b
  entries-begun = refl

  -- past the last there is none
  pub entries-done : (k : ℕ) (x : Laid) → length b.versions ≤ k → entries_from k x ≡ []
  entries-done k x h = rw (drop_of_length-le b.versions h)

  -- of others the next is its entry
  pub entries_next : (k : ℕ) (x : Laid) → k < length b.versions → length b.counts ≡ length b.versions
      → let counts = counts_of (get_or b.counts k []) in
      entries_from k x ≡ entry_taken (get_or b.versions k (pos 0)) counts x ∷ entries_from (k + 1) (left_behind counts x)
  entries_next k x h e = rw (add-one k, drop-cons b.versions k (pos 0) h, drop-cons b.counts k [] (omega (arith, e)))
