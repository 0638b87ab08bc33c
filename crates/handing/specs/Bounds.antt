-- What the code asks of an entry that was entered before it reads its tables.
use Rattle.std.specs.Prelude.{ℕ, ◌+◌, ◌*◌, ◌^◌, ◌≤◌, ◌<◌, ◌≡◌, true, List, length}
use Rattle.words.specs.declared.byte_order.ByteOrder.{ByteOrder}
use Rattle.pieces.specs.Contents.{sections_within}
use Rattle.pieces.specs.Bounds.{Described}
use Rattle.entry.specs.Entered.{Entered}

-- where it was not refused, its tables lie within the bytes lent, and its sections within its words
pub record Readable (order : ByteOrder) (file : List ℕ) (x : Entered) : Type 0 where
  pub described : x.refusal ≡ 0 → Described order file x.start x.nsec
  pub small : x.refusal ≡ 0 → x.nword < 2 ^ 32
  pub ends : x.refusal ≡ 0 → 4 * (x.start + x.nword) ≤ length file
  pub within : x.refusal ≡ 0 → sections_within file x.start x.nsec x.nword x.nsec ≡ true
