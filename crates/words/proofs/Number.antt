-- Laws of `number` and `numeral`, over the order and the width: lengths, the number read back from its bytes, bytes turned by their number, and the number 0. Assumes nothing.
use Prim.Native.Nat.{ℕ, zero, suc, ◌+◌, ◌*◌, ◌/◌, ◌%◌, ◌^◌, ◌<◌}
use mathlib.Core.Path.{◌≡◌, refl, sym, ap, ap₂, ◌∙◌, subst}
use mathlib.Core.Bool.{Bool, ◌&&◌, and_assoc, and_comm, and-true}
use mathlib.Core.List.{List, [], ◌∷◌, ◌++◌, reverse, reverse_aux, reverse-reverse, reverse-append}
use native.Mathlib.Omega.{arith}
use native.Mathlib.Nat.{mul_assoc, pow-succ', pow-suc}
use lib.Dec.{eqb}
use lib.ListN.{length, get_or, take, drop, length-reverse}
use Rattle.outcome.proofs.Either.{either}
use Rattle.image.specs.Image.{part, all_zero}
use Rattle.image.proofs.Zeros.{both_zero}
use Rattle.words.specs.declared.byte_order.ByteOrder.{ByteOrder}
use Rattle.words.specs.Word.{little_number, little_numeral, arranged, number, numeral}

-- ---- the least significant byte first

-- n bytes are as many
pub length-little : (n x : ℕ) → length (little_numeral n x) ≡ n
unfolding little_numeral
length-little zero x = refl
length-little (suc n) x = ap suc (length-little n (x / 256))

little-back : (n x : ℕ) → x < 256 ^ n → little_number (little_numeral n x) ≡ x
unfolding little_number little_numeral
little-back zero x h = omega arith
little-back (suc n) x h = rw (little-back n (x / 256) (omega (arith, pow-suc 256 n))) (omega arith)

-- the number of bytes in two runs
pub little-append : (xs ys : List ℕ) → little_number (xs ++ ys) ≡ little_number xs + 256 ^ length xs * little_number ys
unfolding little_number
little-append [] ys = omega arith
little-append (x ∷ xs) ys = rw (little-append xs ys, pow-succ', mul_assoc) (omega arith)

-- an order whose number is 0 is that one
pub order-little : (o : ByteOrder) → o.0 ≡ 0 → record { 0 = 0 } ≡ o
order-little o e = λ i. record { 0 = sym e i }

-- ---- bytes, and what keeps them such

-- each of a list is a byte
abbrev pub Bytes : List ℕ → Type 0
Bytes [] = Unit
Bytes (b ∷ bs) = (b < 256) × Bytes bs

pub bytes-numeral : (n x : ℕ) → Bytes (little_numeral n x)
unfolding little_numeral
bytes-numeral zero x = tt
bytes-numeral (suc n) x = (omega arith, bytes-numeral n (x / 256))

pub bytes-onto : (xs ys : List ℕ) → Bytes xs → Bytes ys → Bytes (reverse_aux xs ys)
bytes-onto [] ys h k = k
bytes-onto (x ∷ xs) ys h k = bytes-onto xs (x ∷ ys) h.1 (h.0, k)

bytes-append : (xs ys : List ℕ) → Bytes xs → Bytes ys → Bytes (xs ++ ys)
bytes-append [] ys h k = k
bytes-append (x ∷ xs) ys h k = (h.0, bytes-append xs ys h.1 k)

bytes_drop : (n : ℕ) (xs : List ℕ) → Bytes xs → Bytes (drop n xs)
bytes_drop zero xs h = h
bytes_drop (suc n) [] h = tt
bytes_drop (suc n) (x ∷ xs) h = bytes_drop n xs h.1

bytes_take : (n : ℕ) (xs : List ℕ) → Bytes xs → Bytes (take n xs)
bytes_take zero xs h = tt
bytes_take (suc n) [] h = tt
bytes_take (suc n) (x ∷ xs) h = (h.0, bytes_take n xs h.1)

-- and so is each of a list of which every place has one
pub bytes-each : (xs : List ℕ) → ((i : ℕ) → get_or xs i 0 < 256) → Bytes xs
bytes-each [] h = tt
bytes-each (x ∷ xs) h = (h 0, bytes-each xs (λ i. h (suc i)))

-- a part of an image of bytes
pub bytes-part : (image : List ℕ) (at n : ℕ) → ((i : ℕ) → get_or image i 0 < 256) → Bytes (part image at n)
unfolding part
bytes-part image at n h = bytes_take n (drop at image) (bytes_drop at image (bytes-each image h))

-- the bytes of the number of bytes are those bytes
pub numeral-back : (bs : List ℕ) → Bytes bs → little_numeral (length bs) (little_number bs) ≡ bs
unfolding little_number little_numeral
numeral-back [] h = refl
numeral-back (b ∷ bs) h =
    let low : (b + 256 * little_number bs) % 256 ≡ b = omega arith in
    let rest : (b + 256 * little_number bs) / 256 ≡ little_number bs = omega arith in
    rw (low, rest, numeral-back bs h.1)

-- as many bytes that stand for the same number are the same
pub little-equal : (xs ys : List ℕ) → Bytes xs → Bytes ys → length xs ≡ length ys → little_number xs ≡ little_number ys → xs ≡ ys
little-equal xs ys h k e n = sym (numeral-back xs h) ∙ ap₂ little_numeral e n ∙ numeral-back ys k

-- eight bytes of a number are those of its lower half and then those of its upper half
numeral-halves : (x : ℕ) → x < 2 ^ 64 → little_numeral 8 x ≡ little_numeral 4 (x % 4294967296) ++ little_numeral 4 (x / 4294967296)
unfolding little_numeral
numeral-halves x h =
    let low = little_numeral 4 (x % 4294967296) in
    let high = little_numeral 4 (x / 4294967296) in
    let whole : little_number (low ++ high) ≡ x = little-append low high ∙ rw (little-back 4 (x % 4294967296) (omega arith), little-back 4 (x / 4294967296) (omega arith)) (omega arith) in
    sym (ap (little_numeral 8) whole) ∙ numeral-back (low ++ high) (bytes-append low high (bytes-numeral 4 (x % 4294967296)) (bytes-numeral 4 (x / 4294967296)))

-- turned round, each half is turned round and the two are exchanged
pub reverse-halves : (x : ℕ) → x < 2 ^ 64 → little_number (reverse (little_numeral 8 x))
    ≡ little_number (reverse (little_numeral 4 (x / 4294967296))) + 4294967296 * little_number (reverse (little_numeral 4 (x % 4294967296)))
unfolding little_numeral
reverse-halves x h =
    let low = little_numeral 4 (x % 4294967296) in
    let high = little_numeral 4 (x / 4294967296) in
    ap (λ (bs : List ℕ). little_number (reverse bs)) (numeral-halves x h) ∙ ap little_number (reverse-append low high) ∙ little-append (reverse high) (reverse low)

-- ---- in either order

arranged-twice : (o : ByteOrder) (bs : List ℕ) → arranged o (arranged o bs) ≡ bs
unfolding arranged
arranged-twice o bs = either (eqb o.0 0) (λ e. rw e) (λ e. rw e (reverse-reverse bs))

length-arranged : (o : ByteOrder) (bs : List ℕ) → length (arranged o bs) ≡ length bs
unfolding arranged
length-arranged o bs = either (eqb o.0 0) (λ e. rw e) (λ e. rw e (length-reverse bs))

bytes-arranged : (o : ByteOrder) (bs : List ℕ) → Bytes bs → Bytes (arranged o bs)
unfolding arranged
bytes-arranged o bs h = either (eqb o.0 0) (λ e. rw e h) (λ e. rw e (bytes-onto bs [] h tt))

-- a number in n bytes has n bytes
pub length-numeral : (o : ByteOrder) (n x : ℕ) → length (numeral o n x) ≡ n
unfolding numeral
length-numeral o n x = length-arranged o (little_numeral n x) ∙ length-little n x

-- the number of the bytes of a number is that number
pub number-numeral : (o : ByteOrder) (n x : ℕ) → x < 256 ^ n → number o (numeral o n x) ≡ x
unfolding number numeral
number-numeral o n x h = ap little_number (arranged-twice o (little_numeral n x)) ∙ little-back n x h

-- ---- bytes turned by their number: the number of their little-endian reading, and the little-endian bytes of their number

-- bytes that are read as little-endian and then turned are read in their order
pub number-turned : (o : ByteOrder) (bs : List ℕ) (n : ℕ) → Bytes bs → length bs ≡ n → number o (little_numeral n (little_number bs)) ≡ number o bs
number-turned o bs n h e = subst (λ (k : ℕ). number o (little_numeral k (little_number bs)) ≡ number o bs) e (ap (number o) (numeral-back bs h))

-- a number that is turned and then written as little-endian is written in its order
pub numeral-turned : (o : ByteOrder) (n x : ℕ) {t : ℕ} → t ≡ number o (little_numeral n x) → little_numeral n t ≡ numeral o n x
unfolding number numeral
numeral-turned o n x e =
    let bs = arranged o (little_numeral n x) in
    ap (little_numeral n) e
    ∙ subst (λ (k : ℕ). little_numeral k (little_number bs) ≡ bs) (length-arranged o (little_numeral n x) ∙ length-little n x)
    (numeral-back bs (bytes-arranged o (little_numeral n x) (bytes-numeral n x)))

-- ---- the number 0

-- bytes with the least significant first stand for 0 where they are all zero, and nowhere else
pub little-zero : (bs : List ℕ) → eqb (little_number bs) 0 ≡ all_zero bs
unfolding little_number all_zero
little-zero [] = refl
little-zero (b ∷ bs) =
    both_zero b (little_number bs) (b + 256 * little_number bs) (λ p q. omega arith) (λ z. (omega arith, omega arith))
    ∙ ap (λ (t : Bool). eqb b 0 && t) (little-zero bs)

zero-onto : (xs ys : List ℕ) → all_zero (reverse_aux xs ys) ≡ all_zero xs && all_zero ys
unfolding all_zero
zero-onto [] ys = refl
zero-onto (x ∷ xs) ys =
    zero-onto xs (x ∷ ys)
    ∙ sym (and_assoc (all_zero xs) (eqb x 0) (all_zero ys))
    ∙ ap (λ (t : Bool). t && all_zero ys) (and_comm (all_zero xs) (eqb x 0))

zero-arranged : (o : ByteOrder) (bs : List ℕ) → all_zero (arranged o bs) ≡ all_zero bs
unfolding arranged all_zero
zero-arranged o bs = either (eqb o.0 0) (λ e. rw e) (λ e. rw e (zero-onto bs [] ∙ and-true (all_zero bs)))

-- and so do bytes in an order
pub number-zero : (o : ByteOrder) (bs : List ℕ) → eqb (number o bs) 0 ≡ all_zero bs
unfolding number
number-zero o bs = little-zero (arranged o bs) ∙ zero-arranged o bs
