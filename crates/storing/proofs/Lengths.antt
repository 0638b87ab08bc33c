-- Laws of the lengths that are handed in: their sum, and their bits. Assumes nothing.
use mathlib.Core.Path.{◌≡◌, refl, sym, ap, subst, ◌∙◌}
use mathlib.Core.Bool.{true, false≢true}
use mathlib.Core.List.{List, [], ◌∷◌, ◌++◌}
use Prim.Native.Nat.{ℕ, zero, suc, ◌+◌, ◌^◌, ◌≤◌, ◌<◌}
use native.Mathlib.Omega.{arith}
use native.Mathlib.Nat.{lt_of_not-le}
use native.Mathlib.Decide.{dec_le}
use native.Mathlib.Numerals.{add-one}
use borrow.Author.Rules.{sfits_of}
use borrow.Author.Tests.{leb-true}
use lib.IntN.{ℤ, pos, negsuc}
use lib.ListN.{length, get_or, take, drop, take-append-drop}
use lib.Seq.{take-suc}
use lib.Signed.{mag}
use mir.Syntax.{Width}
use mir.Val.{hbits}
use Rattle.words.specs.Word.{integer8, signed_of, bits_of}
use Rattle.words.specs.Range.{at_least}
use Rattle.words.proofs.Signed.{signed-bits}
use Rattle.words.proofs.Runs.{Run, run-test}
use Rattle.storing.specs.Handed.{words_of, sum_of, positive}

-- an element of a list, as code reads it from its bits
pub read_back : (w : Width) (zs : List ℤ) (k : ℕ) → mag (get_or zs k (pos 0)) < 2 ^ hbits w
    → signed_of w (bits_of w (get_or zs k (pos 0))) ≡ get_or zs k (pos 0)
read_back w zs k f = signed-bits w (get_or zs k (pos 0)) (sfits_of f)

-- that each length is 1 or more runs over the lengths
pub positive-run : (lengths : List ℤ) → Run (positive lengths) (λ k. at_least 1 (get_or lengths k (pos 0)))
unfolding positive
positive-run lengths = record { next = λ k. rw add-one }

-- the sum of lengths one behind the other
sum-append : (xs ys : List ℤ) → sum_of (xs ++ ys) ≡ sum_of xs + sum_of ys
sum-append [] ys = omega arith
sum-append (x ∷ xs) ys = omega (arith, sum-append xs ys)

-- the sum of the first lengths with one more
pub sum-next : (xs : List ℤ) (k : ℕ) → k < length xs → sum_of (take (k + 1) xs) ≡ sum_of (take k xs) + words_of (get_or xs k (pos 0))
sum-next xs k h = rw (add-one, take-suc xs k (pos 0), sum-append) (omega arith)

-- the sum of fewer than all
pub sum-fewer : (xs : List ℤ) (k : ℕ) → sum_of (take k xs) ≤ sum_of xs
sum-fewer xs k = omega (arith, sum-append (take k xs) (drop k xs), ap sum_of (take-append-drop k xs))

-- the lengths before a section end before those before a later one
pub sum-rise : (zs : List ℤ) (j k : ℕ) → j < k → k ≤ length zs → sum_of (take j zs) + words_of (get_or zs j (pos 0)) ≤ sum_of (take k zs)
sum-rise zs j zero h l = absurd (omega arith)
sum-rise zs j (suc k) h l =
    let step : sum_of (take (suc k) zs) ≡ sum_of (take k zs) + words_of (get_or zs k (pos 0)) = ap (λ (n : ℕ). sum_of (take n zs)) (sym (add-one k)) ∙ sum-next zs k (omega arith) in
    elim (dec_le k j) [
      | yes g ↦ (let e : k ≡ j = omega arith in
          subst (λ (i : ℕ). sum_of (take i zs) + words_of (get_or zs i (pos 0)) ≤ sum_of (take (suc k) zs)) e (omega (arith, step)))
      | no g ↦ omega (arith, step, sum-rise zs j k (lt_of_not-le g) (omega arith))
    ]

-- a length that is 1 or more counts words
pub some_words : (z : ℤ) → at_least 1 z ≡ true → 1 ≤ words_of z
unfolding at_least
some_words (pos n) e = leb-true 1 n e
some_words (negsuc n) e = absurd (false≢true e)

-- and its bits are their count
pub counted : (z : ℤ) → at_least 1 z ≡ true → bits_of integer8 z ≡ words_of z
unfolding at_least
counted (pos n) e = refl
counted (negsuc n) e = cc

-- the bits that code reads of a length, where each is 1 or more, are its words
pub length-words : (lengths : List ℤ) (k r : ℕ) → positive lengths (length lengths) ≡ true → k < length lengths → mag (get_or lengths k (pos 0)) < 2 ^ 63
    → r ≡ bits_of integer8 (signed_of integer8 (bits_of integer8 (get_or lengths k (pos 0)))) → r ≡ words_of (get_or lengths k (pos 0))
length-words lengths k r p h f e =
    e ∙ ap (bits_of integer8) (read_back integer8 lengths k f) ∙ counted _ (run-test (positive-run lengths) k (length lengths) h p)
