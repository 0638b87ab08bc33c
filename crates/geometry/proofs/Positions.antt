-- The place of a position: it has that position, and its word is one of its record's. Assumes nothing.
use mathlib.Core.Path.{◌≡◌, ap, ◌∙◌}
use mathlib.Core.Bool.{false}
use Prim.Native.Nat.{ℕ, ◌+◌, ◌*◌, ◌-◌, ◌/◌, ◌%◌, ◌≤◌, ◌<◌}
use native.Mathlib.Omega.{arith}
use native.Mathlib.Nat.{div-add-mod', mod-lt, mul-le-mul_left}
use borrow.Author.Tests.{lt-leb}
use lib.Dec.{leb}
use Rattle.geometry.specs.declared.units.RecordNumber.{RecordNumber}
use Rattle.geometry.specs.declared.units.WordNumber.{WordNumber}
use Rattle.geometry.specs.Units.{position_of, place_of}

-- a record past a limit has its position past it
pub past_limit : (reclen : ℕ) (r : RecordNumber) (w : WordNumber) (limit : ℕ) → 1 ≤ reclen → limit < r.0 - 1 → leb (position_of reclen r w) limit ≡ false
unfolding position_of
past_limit reclen r w limit h l = lt-leb _ limit (omega (arith, mul-le-mul_left (r.0 - 1) h))

-- the place of a position has that position
pub position-place : (reclen p : ℕ) → position_of reclen (place_of reclen p).«record» (place_of reclen p).word ≡ p
unfolding position_of place_of
position-place reclen p =
    let q : p / reclen + 1 - 1 ≡ p / reclen = omega arith in
    ap (λ (n : ℕ). n * reclen + (p % reclen + 1 - 1)) q ∙ omega (arith, div-add-mod' p reclen)

-- the word of a place is one of its record's
pub place-word : (reclen p : ℕ) → 1 ≤ reclen → (place_of reclen p).word.0 ≤ reclen
unfolding place_of
place-word reclen p h = omega (arith, mod-lt p {m = reclen} h)
