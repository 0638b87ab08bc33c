-- The bytes that std's integers are made of and give are those of the memo's, over the width and the order. Assumes nothing.
use Prim.Native.Nat.{ℕ, zero, suc, ◌+◌, ◌-◌, ◌*◌, ◌/◌, ◌%◌, ◌^◌, ◌≤◌, ◌<◌}
use mathlib.Core.Path.{◌≡◌, refl, sym, ap, ap₂, ◌∙◌}
use mathlib.Core.List.{List, [], ◌∷◌, reverse, reverse-append}
use native.Mathlib.Omega.{arith}
use Rattle.std.proofs.Math.Nat.{div-div-eq-div-mul, div-one, pow-suc, pow-succ'}
use Rattle.std.specs.Int.{Width, w8, w16, w32, w64, w128, byte_at, byte_worth, byte_len, bytes_low_first, sum_through, from_le_bytes, from_be_bytes, to_le_bytes, swap_bytes}
use borrow.Author.Tests.{eq-eqb, ne_eqb}
use lib.ListN.{length, get_or, take, length-reverse}
use lib.Seq.{take-suc, take_all, length-take-le}
use mir.Val.{bytes}
use Rattle.image.specs.Image.{part}
use Rattle.image.proofs.Part.{length_part}
use Rattle.words.specs.declared.byte_order.ByteOrder.{ByteOrder}
use Rattle.words.specs.Word.{little_number, little_numeral, arranged, number, numeral, bits_at}
use Rattle.words.proofs.Number.{little-append, length-little, numeral-back, bytes-numeral, bytes-onto}

-- ---- the bytes of a number

byte-pow : (k x : ℕ) → byte_at k x ≡ x / 256 ^ k % 256
byte-pow zero x = ap (λ (y : ℕ). y % 256) (sym (div-one x))
byte-pow (suc k) x = refl

low-first : (i k x : ℕ) → bytes_low_first i k x ≡ little_numeral k (x / 256 ^ i)
unfolding little_numeral
low-first i zero x = refl
low-first i (suc k) x =
    let above : x / 256 ^ suc i ≡ x / 256 ^ i / 256 = ap (λ (p : ℕ). x / p) (pow-suc 256 i) ∙ sym (div-div-eq-div-mul x (256 ^ i) 256) in
    ap₂ (λ (b : ℕ) (bs : List ℕ). b ∷ bs) (byte-pow i x) (low-first (suc i) k x ∙ ap (little_numeral k) above)

-- ---- the number of bytes

worth : (i b : ℕ) → byte_worth i b ≡ b * 256 ^ i
worth zero b = omega arith
worth (suc i) b = refl

sum-low : (bs : List ℕ) (k : ℕ) → k < length bs → sum_through (λ i. byte_worth i (get_or bs i 0)) k ≡ little_number (take (suc k) bs)
unfolding little_number
sum-low bs zero h = rw (take-suc bs 0 0 h) (omega arith)
sum-low bs (suc k) h =
    rw (sum-low bs k (omega arith), take-suc bs (suc k) 0 h, little-append (take (suc k) bs) (get_or bs (suc k) 0 ∷ []), length-take-le (suc k) bs (omega arith)) (omega arith)

sum-high : (bs : List ℕ) (n k : ℕ) → k < length bs → k ≤ n
    → sum_through (λ i. byte_worth (n - i) (get_or bs i 0)) k ≡ 256 ^ (n - k) * little_number (reverse (take (suc k) bs))
unfolding little_number
sum-high bs n zero h l = rw (take-suc bs 0 0 h, worth (n - 0) (get_or bs 0 0)) (omega arith)
sum-high bs n (suc k) h l =
    let next : 256 ^ (n - k) ≡ 256 * 256 ^ (n - suc k) = (let e : n - k ≡ suc (n - suc k) = omega arith in rw e (pow-succ' 256 (n - suc k))) in
    rw (sum-high bs n k (omega arith) (omega arith), take-suc bs (suc k) 0 h, reverse-append (take (suc k) bs) (get_or bs (suc k) 0 ∷ []), worth (n - suc k) (get_or bs (suc k) 0), next) (omega arith)

of-little : (bs : List ℕ) (k : ℕ) → length bs ≡ suc k → sum_through (λ i. byte_worth i (get_or bs i 0)) k ≡ little_number bs
of-little bs k e = sum-low bs k (omega arith) ∙ ap little_number (take_all (suc k) bs (omega arith))

of-big : (bs : List ℕ) (k : ℕ) → length bs ≡ suc k → sum_through (λ i. byte_worth (k - i) (get_or bs i 0)) k ≡ little_number (reverse bs)
of-big bs k e =
    let one : 256 ^ (k - k) ≡ 1 = (let z : k - k ≡ 0 = omega arith in rw z) in
    sum-high bs k k (omega arith) (omega arith) ∙ rw (one, take_all (suc k) bs (omega arith)) (omega arith)

-- ---- at a width

-- the number that std's integer is made of bytes as, the least significant first
pub from-little : (w : Width) (bs : List ℕ) → length bs ≡ bytes w → from_le_bytes w bs ≡ little_number bs
from-little w8 bs e = of-little bs 0 e
from-little w16 bs e = of-little bs 1 e
from-little w32 bs e = of-little bs 3 e
from-little w64 bs e = of-little bs 7 e
from-little w128 bs e = of-little bs 15 e

-- and the most significant first
from-big : (w : Width) (bs : List ℕ) → length bs ≡ bytes w → from_be_bytes w bs ≡ little_number (reverse bs)
from-big w8 bs e = of-big bs 0 e
from-big w16 bs e = of-big bs 1 e
from-big w32 bs e = of-big bs 3 e
from-big w64 bs e = of-big bs 7 e
from-big w128 bs e = of-big bs 15 e

-- as many bytes as std's and the memo's
same-count : (w : Width) → byte_len w ≡ bytes w
same-count w8 = refl
same-count w16 = refl
same-count w32 = refl
same-count w64 = refl
same-count w128 = refl

-- the bytes that std's integer gives, the least significant first
to-little : (w : Width) (x : ℕ) → to_le_bytes w x ≡ little_numeral (bytes w) x
to-little w x = low-first 0 (byte_len w) x ∙ ap₂ little_numeral (same-count w) (div-one x)

-- and those of the number that it is when they are turned round
to-turned : (w : Width) (x : ℕ) → to_le_bytes w (swap_bytes w x) ≡ reverse (little_numeral (bytes w) x)
to-turned w x =
    let n = bytes w in
    let bs = little_numeral n x in
    let long : length (reverse bs) ≡ n = length-reverse bs ∙ length-little n x in
    let turned : swap_bytes w x ≡ little_number (reverse bs) =
    ap (from_be_bytes w) (to-little w x) ∙ from-big w bs (length-little n x) in
    to-little w (swap_bytes w x)
    ∙ ap₂ little_numeral (sym long) turned
    ∙ numeral-back (reverse bs) (bytes-onto bs [] (bytes-numeral n x) tt)

-- ---- in an order

-- what is read of the part of an image
module _ (o : ByteOrder) (w : Width) (image : List ℕ) (at : ℕ) (h : at + bytes w ≤ length image) {bs : List ℕ} (e : bs ≡ part image at (bytes w)) {x : ℕ} where
  -- in the little order
  pub read-little : o.0 ≡ 0 → x ≡ from_le_bytes w bs → x ≡ bits_at o w image at
  unfolding bits_at number arranged
  read-little z r = r ∙ ap (from_le_bytes w) e ∙ rw (eq-eqb o.0 0 z) (from-little w (part image at (bytes w)) (length_part image at (bytes w) h))

  -- in the big one
  pub read-big : (o.0 ≡ 0 → ⊥) → x ≡ from_be_bytes w bs → x ≡ bits_at o w image at
  unfolding bits_at number arranged
  read-big z r = r ∙ ap (from_be_bytes w) e ∙ rw (ne_eqb o.0 0 z) (from-big w (part image at (bytes w)) (length_part image at (bytes w) h))

-- the bytes that are written of a number, in the little order
pub written-little : (o : ByteOrder) (w : Width) (x : ℕ) → o.0 ≡ 0 → to_le_bytes w x ≡ numeral o (bytes w) x
unfolding numeral arranged
written-little o w x z = rw (eq-eqb o.0 0 z) (to-little w x)

-- and in the big one, those of the number turned round
pub written-big : (o : ByteOrder) (w : Width) (x : ℕ) → (o.0 ≡ 0 → ⊥) → to_le_bytes w (swap_bytes w x) ≡ numeral o (bytes w) x
unfolding numeral arranged
written-big o w x z = rw (ne_eqb o.0 0 z) (to-turned w x)
