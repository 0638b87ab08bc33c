-- The memo's integers in bytes: the number that bytes stand for, the bytes of a number, and the signed reading of a word.
use Rattle.std.specs.Prelude.{ℕ, zero, suc, ◌+◌, ◌*◌, ◌/◌, ◌%◌, cond, List, [], ◌∷◌, reverse, eqb, ℤ}
use Rattle.std.specs.Int.{Width, w32, w64}
use mir.Val.{to_z, of_z, bytes}
use Rattle.image.specs.Image.{part}
use Rattle.words.specs.declared.byte_order.ByteOrder.{ByteOrder}

-- Integer*4 is a word of the memo, 32 bits
abbrev pub integer4 : Width
integer4 = w32

-- Integer*8 is two words, 64 bits
abbrev pub integer8 : Width
integer8 = w64

-- the number that bytes stand for, the least significant first
unfoldable pub little_number : List ℕ → ℕ
little_number [] = 0
little_number (b ∷ bs) = b + 256 * little_number bs

-- the n bytes that stand for a number, the least significant first
unfoldable pub little_numeral : ℕ → ℕ → List ℕ
little_numeral zero x = []
little_numeral (suc n) x = x % 256 ∷ little_numeral n (x / 256)

-- bytes with the least significant first, arranged in an order: the little one (0) leaves them, the big one turns them round; and back
unfoldable pub arranged : ByteOrder → List ℕ → List ℕ
arranged o bytes = cond (eqb o.0 0) bytes (reverse bytes)

-- the number that bytes in an order stand for
unfoldable pub number : ByteOrder → List ℕ → ℕ
number o bytes = little_number (arranged o bytes)

-- the n bytes that stand for a number in an order
unfoldable pub numeral : ByteOrder → ℕ → ℕ → List ℕ
numeral o n x = arranged o (little_numeral n x)

-- two's complement: bits below half the range are their own value, the others are their value less the range
-- (signed_low and signed_high, in proofs/Signed.antt)
abbrev pub signed_of : Width → ℕ → ℤ
signed_of w bits = to_z w bits

-- and back: the bits of a signed value
abbrev pub bits_of : Width → ℤ → ℕ
bits_of w value = of_z w value

-- the integer of width w at offset at of an image: its bits
unfoldable pub bits_at : ByteOrder → Width → List ℕ → ℕ → ℕ
bits_at o w image at = number o (part image at (bytes w))

-- and its signed reading
abbrev pub signed_at : ByteOrder → Width → List ℕ → ℕ → ℤ
signed_at o w image at = signed_of w (bits_at o w image at)

-- the bytes of a signed value of width w
abbrev pub signed_numeral : ByteOrder → Width → ℤ → List ℕ
signed_numeral o w value = numeral o (bytes w) (bits_of w value)
