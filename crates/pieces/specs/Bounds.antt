-- What the code asks of an entry before it reads its tables, so that no offset and no sum wraps.
use Rattle.std.specs.Prelude.{ℕ, ◌+◌, ◌*◌, ◌^◌, ◌≤◌, ◌<◌, ◌≡◌, List, length}
use Rattle.words.specs.declared.byte_order.ByteOrder.{ByteOrder}
use Rattle.layout.specs.FileCode.{byte_order_of}
use Rattle.layout.specs.EntryWords.{descriptor_words, sections_max}
use Rattle.pieces.specs.declared.contents.Piece.{Piece}
use Rattle.pieces.specs.EntryDescriptor.{section_of}

-- in a file whose code says this order: the descriptor with its nsec sections lies within the bytes lent
pub record Described (order : ByteOrder) (file : List ℕ) (start nsec : ℕ) : Type 0 where
  pub coded : order ≡ byte_order_of file
  pub sections : nsec ≤ sections_max
  pub lent : length file ≤ 2 ^ 30
  pub within : 4 * (start + descriptor_words nsec) ≤ length file

-- a piece whose end fits
pub record Small (p : Piece) : Type 0 where
  pub address : p.address.0 < 2 ^ 63
  pub words : p.words < 2 ^ 63

-- sections whose ends fit
pub record Ending (file : List ℕ) (start nsec : ℕ) : Type 0 where
  pub each : (i : ℕ) → i < nsec → Small (section_of file start nsec i)
