-- Laws of decimal numbers: the digits are those that std prints, and how many there are at most. Assumes nothing.
use Prim.Native.Nat.{ℕ, zero, suc, ◌+◌, ◌/◌, ◌^◌, ◌≤◌, ◌<◌}
use mathlib.Core.Path.{◌≡◌, refl}
use mathlib.Core.Bool.{Bool, true, false, cond}
use mathlib.Core.List.{List, [], ◌∷◌}
use native.Mathlib.Omega.{arith}
use borrow.Author.Tests.{lt-ltb, le-ltb}
use lib.Dec.{ltb}
use lib.ListN.{length, length-append}
use Rattle.std.specs.Fmt.{decimal}
use Rattle.std.proofs.lemmas.Fmt.{AppendsLastDigit, decimal_from_appends, length-decimal-le}
use Rattle.listing.specs.Text.{decimal_in, decimal_of, field_of}

last-digit : AppendsLastDigit decimal_in
unfolding decimal_in
last-digit = record { one = λ k n h. rw (lt-ltb n 10 h) refl; more = λ k n h. rw (le-ltb n 10 h) refl }

-- the digits of a number of 64 bits are those that std prints
pub decimal-printed : (n : ℕ) → n < 2 ^ 64 → decimal_of n ≡ decimal n
unfolding decimal_of
decimal-printed n h = decimal_from_appends decimal_in last-digit 20 n h (length-decimal-le 20 n (omega arith) (omega arith) h)

-- the longer of two lists bounds the one that a test chooses
pub either-length : (b : Bool) (xs ys : List ℕ) (m : ℕ) → length xs ≤ m → length ys ≤ m → length (cond b xs ys) ≤ m
either-length true xs ys m h l = h
either-length false xs ys m h l = l

-- a number has no more digits than are asked for, and no more than hold it
length-in : (j n : ℕ) → length (decimal_in j n) ≤ j
unfolding decimal_in
length-in zero n = omega arith
length-in (suc j) n = either-length (ltb n 10) _ _ (suc j) (omega arith) (rw length-append (omega (arith, length-in j (n / 10))))

-- so a decimal number has 20 bytes at most
pub length-decimal : (n : ℕ) → length (decimal_of n) ≤ 20
unfolding decimal_of
length-decimal n = length-in 20 n

-- below 100,000 it has 5
pub length-small : (n : ℕ) → n < 100000 → length (decimal_of n) ≤ 5
length-small n h = rw (decimal-printed n (omega arith)) (length-decimal-le 5 n (omega arith) (omega arith) (omega arith))

-- a field has one byte more
pub length-field : (n end : ℕ) → length (field_of n end) ≡ length (decimal_of n) + 1
unfolding field_of
length-field n end = length-append (decimal_of n) (end ∷ [])

-- so it has 21 bytes at most
pub field-short : (n end : ℕ) → length (field_of n end) ≤ 21
field-short n end = omega (arith, length-field n end, length-decimal n)

-- and below 100,000 it has 6
pub field-small : (n end : ℕ) → n < 100000 → length (field_of n end) ≤ 6
field-small n end h = omega (arith, length-field n end, length-small n h)
