-- Reading words of an image: a word in halves, equal bytes, zero bytes, and where the bytes of a word were written. Assumes nothing.
use Prim.Native.Nat.{ℕ, ◌+◌, ◌*◌, ◌^◌, ◌≤◌, ◌<◌}
use mathlib.Core.Path.{◌≡◌, ap, ◌∙◌, subst}
use mathlib.Core.List.{List}
use native.Mathlib.Omega.{arith}
use lib.Dec.{eqb}
use lib.ListN.{length}
use lib.IntN.{ℤ}
use mir.Syntax.{Width}
use mir.Val.{bits, bytes, SFits}
use mir.Facts.{Fits-of_z}
use Rattle.image.specs.Image.{part, all_zero}
use Rattle.image.specs.Writes.{Write, put, writes, Follows}
use Rattle.image.proofs.Part.{part-add, length_part}
use Rattle.image.proofs.Writes.{BehindOf, follow-read}
use Rattle.words.specs.declared.byte_order.ByteOrder.{ByteOrder}
use Rattle.words.specs.Word.{little_number, number, numeral, bits_at, signed_at, bits_of, signed_numeral}
use Rattle.words.proofs.Number.{length-numeral, number-numeral, little-append, number-zero}
use Rattle.words.proofs.Signed.{signed-bits, range}

-- eight bytes are two words, the low one first
pub little-halves : (image : List ℕ) (at : ℕ) → at + 8 ≤ length image
    → little_number (part image at 8) ≡ little_number (part image at 4) + 4294967296 * little_number (part image (at + 4) 4)
little-halves image at h =
    ap little_number (part-add image at 4 4) ∙ little-append (part image at 4) (part image (at + 4) 4)
    ∙ ap (λ (k : ℕ). little_number (part image at 4) + 256 ^ k * little_number (part image (at + 4) 4)) (length_part image at 4 (omega arith))

-- bytes of a number are read as the number, and those of a value as the value
pub bits-of : (o : ByteOrder) (w : Width) (image : List ℕ) (at u : ℕ) → u < 2 ^ bits w → part image at (length (numeral o (bytes w) u)) ≡ numeral o (bytes w) u → bits_at o w image at ≡ u
unfolding bits_at
bits-of o w image at u f e =
    ap (number o) (subst (λ (n : ℕ). part image at n ≡ numeral o (bytes w) u) (length-numeral o (bytes w) u) e)
    ∙ number-numeral o (bytes w) u (subst (λ (k : ℕ). u < k) (range w).1 f)

-- where the bytes of a value stand, the value is read
pub value_of : (o : ByteOrder) (w : Width) (image : List ℕ) (at : ℕ) (z : ℤ) → SFits w z → part image at (length (signed_numeral o w z)) ≡ signed_numeral o w z → signed_at o w image at ≡ z
value_of o w image at z f e = rw (bits-of o w image at (bits_of w z) (Fits-of_z f).fits e) (signed-bits w z f)

-- equal bytes in one order give equal bits
pub bits-alike : {o p : ByteOrder} (w : Width) (f g : List ℕ) (a b : ℕ) → o ≡ p → part f a (bytes w) ≡ part g b (bytes w) → bits_at o w f a ≡ bits_at p w g b
unfolding bits_at
bits-alike {o} {p} w f g a b q e = rw q (ap (number p) e)

-- an integer is 0 where its bytes are all zero, and nowhere else
pub bits-zero : (o : ByteOrder) (w : Width) (image : List ℕ) (at : ℕ) → eqb (bits_at o w image at) 0 ≡ all_zero (part image at (bytes w))
unfolding bits_at
bits-zero o w image at = number-zero o (part image at (bytes w))

-- one of writes that follow one another is read there
pub bits-follow : (o : ByteOrder) (w : Width) (image : List ℕ) (a : ℕ) (ws : List Write) → Follows a ws → (k at u : ℕ) → BehindOf k (put at (numeral o (bytes w) u)) ws → u < 2 ^ bits w
    → at + bytes w ≤ length image → bits_at o w (writes image ws) at ≡ u
bits-follow o w image a ws f k at u e h l =
    bits-of o w (writes image ws) at u h (follow-read image a ws f k at (numeral o (bytes w) u) e (omega (arith, length-numeral o (bytes w) u)))
