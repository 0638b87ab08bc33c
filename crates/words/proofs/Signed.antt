-- Laws of the signed reading, over the width: two's complement in plain words, and the value read back from its bits. Assumes nothing.
use Prim.Native.Nat.{ℕ, suc, ◌+◌, ◌^◌, ◌≤◌, ◌<◌}
use mathlib.Core.Path.{◌≡◌, refl, ap}
use native.Mathlib.Omega.{arith}
use borrow.Author.Tests.{le-ltb}
use lib.IntN.{ℤ, pos, negsuc}
use mir.Syntax.{Width, w8, w16, w32, w64, w128}
use mir.Val.{bits, bytes, hbits, SFits}
use mir.Facts.{to_z-of_z, to_z_pos}
use Rattle.words.specs.Word.{signed_of, bits_of}

-- a word's range is twice its half, and 256 for each byte
pub range : (w : Width) → (2 ^ hbits w + 2 ^ hbits w ≡ 2 ^ bits w) × (2 ^ bits w ≡ 256 ^ bytes w)
range w8 = (refl, refl)
range w16 = (refl, refl)
range w32 = (refl, refl)
range w64 = (refl, refl)
range w128 = (refl, refl)

-- bits below half the range are their own value
pub signed_low : (w : Width) (u : ℕ) → u < 2 ^ hbits w → signed_of w u ≡ pos u
signed_low w u h = to_z_pos w h

-- bits from half the range on are their value less the range: u stands for -(m + 1) where u + (m + 1) is the range
pub signed_high : (w : Width) (u m : ℕ) → 2 ^ hbits w ≤ u → u + suc m ≡ 2 ^ bits w → signed_of w u ≡ negsuc m
signed_high w u m h e = rw (le-ltb u (2 ^ hbits w) h) (ap negsuc (omega arith))

-- a value's bits stand for it
pub signed-bits : (w : Width) (z : ℤ) → SFits w z → signed_of w (bits_of w z) ≡ z
signed-bits w z f = to_z-of_z f
