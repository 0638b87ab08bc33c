-- Laws of bits that are kept of one word after the other: when they are 0, and a turn of a loop that keeps them. Assumes nothing.
use Prim.Native.Nat.{ℕ, ◌+◌, ◌*◌, ◌-◌, ◌≤◌}
use mathlib.Core.Path.{◌≡◌, sym, ap, ap₂, ◌∙◌}
use mathlib.Core.Bool.{◌&&◌}
use mathlib.Core.List.{List}
use native.Mathlib.Omega.{arith}
use lib.Bits.{bit_or, or_add_and, and_le_l, and_le_r}
use lib.Dec.{eqb}
use Rattle.outcome.proofs.Either.{either}
use Rattle.image.specs.Image.{part, all_zero}
use Rattle.image.proofs.Part.{part-add}
use Rattle.image.proofs.Zeros.{both_zero, zero-append, zero-within}
use Rattle.words.specs.Word.{little_number}
use Rattle.words.proofs.Number.{little-zero}

-- the bits of two numbers together are 0 where both numbers are, and nowhere else
pub or-zero : (a b : ℕ) → eqb (bit_or a b) 0 ≡ eqb a 0 && eqb b 0
or-zero a b =
    let sum = or_add_and a b in
    let first = and_le_l a b in
    let second = and_le_r a b in
    both_zero a b (bit_or a b) (λ p q. rw (p, q)) (λ z. (omega (arith, sum, second), omega (arith, sum, first)))

-- a turn of a loop that keeps the bits of the words from an offset on
pub seen_next : (image : List ℕ) (from done seen : ℕ) {word : ℕ} → word ≡ little_number (part image (from + done) 4) → eqb seen 0 ≡ all_zero (part image from done)
    → eqb (bit_or seen word) 0 ≡ all_zero (part image from (done + 4))
seen_next image from done seen {word} read e =
    let before = part image from done in
    let here = part image (from + done) 4 in
    or-zero seen word
    ∙ ap₂ ◌&&◌ e (ap (λ (n : ℕ). eqb n 0) read ∙ little-zero here)
    ∙ sym (zero-append before here)
    ∙ ap all_zero (sym (part-add image from done 4))

-- by the number of words that are done
pub seen-words : (image : List ℕ) (from done seen : ℕ) {word : ℕ} → word ≡ little_number (part image (from + 4 * done) 4) → eqb seen 0 ≡ all_zero (part image from (4 * done))
    → eqb (bit_or seen word) 0 ≡ all_zero (part image from (4 * (done + 1)))
seen-words image from done seen read e =
    let next : 4 * done + 4 ≡ 4 * (done + 1) = omega arith in
    seen_next image from (4 * done) seen read e ∙ ap (λ (n : ℕ). all_zero (part image from n)) next

-- bytes are all zero where their first half and their second are, which may share bytes in the middle
pub halves-zero : (image : List ℕ) (from n half second : ℕ) → half ≤ n → n ≤ half + half → second ≡ from + (n - half)
    → all_zero (part image from half) && all_zero (part image second half) ≡ all_zero (part image from n)
halves-zero image from n half second low high at =
    let rest = part image (from + half) (n - half) in
    let whole : n ≡ half + (n - half) = omega arith in
    let both : all_zero (part image from n) ≡ all_zero (part image from half) && all_zero rest =
    ap (λ (k : ℕ). all_zero (part image from k)) whole ∙ ap all_zero (part-add image from half (n - half)) ∙ zero-append (part image from half) rest in
    either (all_zero (part image from half))
    (λ z.
    let shared = half + half - n in
    let size : half ≡ shared + (n - half) = omega arith in
    let meet : second + shared ≡ from + half = omega arith in
    let middle = zero-within image from half second shared (omega arith) (omega arith) z in
    let back : all_zero (part image second half) ≡ all_zero rest =
    ap (λ (k : ℕ). all_zero (part image second k)) size
    ∙ ap all_zero (part-add image second shared (n - half))
    ∙ zero-append (part image second shared) (part image (second + shared) (n - half))
    ∙ rw (middle, meet) in
    rw (both, z, back))
    (λ z. rw (both, z))
