-- With the rows that are left written from `next` on, the buffer holds all rows.
use Rattle.std.proofs.Common.{◌≡◌, ℕ, List, length}
use Rattle.listing.proofs.Laid.{Laid}
use Rattle.listing.proofs.Lines.{rest_of}
use Rattle.listing.proofs.entries.put_rows.Given as goal

abbrev pub invariant-loop-entry : goal.invariant-loop-entry
invariant-loop-entry l = record {
  long : length l.out ≡ length l.initial.out;
  rest : (behind : ℕ) (after : List ℕ) → Laid l.out l.next (rest_of l.file l.d l.entry-end l.entry) behind after
      → Laid l.initial.out l.at (rest_of l.file l.d l.entry-end 1) behind after;
}
