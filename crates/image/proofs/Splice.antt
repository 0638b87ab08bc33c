-- Laws of `splice` and `zeros`: lengths, the plain form, two writes beside, over and behind each other, and a turn of a loop that writes. Assumes nothing.
use mathlib.Core.Path.{◌≡◌, refl, sym, ap, ◌∙◌}
use Prim.Native.Nat.{ℕ, zero, suc, ◌+◌, ◌≤◌, ◌<◌}
use native.Mathlib.Omega.{arith}
use native.Mathlib.Nat.{suc-add, zero-add}
use native.Mathlib.Numerals.{add-one}
use mathlib.Core.List.{List, [], ◌∷◌, ◌++◌}
use lib.ListN.{length, get_or, set, take, drop, length-replicate, replicate-append-replicate}
use lib.Seq.{drop-nil, take-suc, length-take-le}
use Rattle.image.specs.Image.{splice, zeros}

-- a write keeps the length, wherever it starts and however long it is
pub length-splice : (image : List ℕ) (at : ℕ) (ys : List ℕ) → length (splice image at ys) ≡ length image
unfolding splice
length-splice [] at ys = refl
length-splice (x ∷ image) (suc at) ys = ap suc (length-splice image at ys)
length-splice (x ∷ image) zero [] = refl
length-splice (x ∷ image) zero (y ∷ ys) = ap suc (length-splice image zero ys)

-- within bounds a write is the bytes before it, its own, and the bytes behind it
pub splice_cut : (image : List ℕ) (at : ℕ) (ys : List ℕ) → at + length ys ≤ length image
    → splice image at ys ≡ take at image ++ (ys ++ drop (at + length ys) image)
unfolding splice
splice_cut [] zero [] h = refl
splice_cut [] (suc at) [] h = sym (drop-nil (suc at + 0))
splice_cut [] at (y ∷ ys) h = absurd (omega arith)
splice_cut (x ∷ image) (suc at) ys h = rw suc-add (ap (λ (l : List ℕ). x ∷ l) (splice_cut image at ys (omega arith)))
splice_cut (x ∷ image) zero [] h = refl
splice_cut (x ∷ image) zero (y ∷ ys) h =
    rw zero-add (ap (λ (l : List ℕ). y ∷ l) (rw zero-add at (splice_cut image zero ys (omega arith))))

-- no bytes: no change
pub splice-nil : (image : List ℕ) (at : ℕ) → splice image at [] ≡ image
unfolding splice
splice-nil [] at = refl
splice-nil (x ∷ image) (suc at) = ap (λ (l : List ℕ). x ∷ l) (splice-nil image at)
splice-nil (x ∷ image) zero = refl

-- two adjacent writes are one
pub splice-adjacent : (image : List ℕ) (a : ℕ) (ys : List ℕ) (b : ℕ) (zs : List ℕ) → b ≡ a + length ys
    → splice (splice image a ys) b zs ≡ splice image a (ys ++ zs)
unfolding splice
splice-adjacent [] a ys b zs e = refl
splice-adjacent (x ∷ image) (suc a) ys (suc b) zs e = ap (λ (l : List ℕ). x ∷ l) (splice-adjacent image a ys b zs (omega arith))
splice-adjacent (x ∷ image) (suc a) ys zero zs e = absurd (omega arith)
splice-adjacent (x ∷ image) zero [] b zs e = let z : b ≡ zero = omega arith in rw z
splice-adjacent (x ∷ image) zero (y ∷ ys) zero zs e = absurd (omega arith)
splice-adjacent (x ∷ image) zero (y ∷ ys) (suc b) zs e = ap (λ (l : List ℕ). y ∷ l) (splice-adjacent image zero ys b zs (omega arith))

-- a write over one as long leaves nothing of it
pub splice-over : (image : List ℕ) (at : ℕ) (xs ys : List ℕ) → length xs ≡ length ys → splice (splice image at xs) at ys ≡ splice image at ys
unfolding splice
splice-over [] at xs ys e = refl
splice-over (v ∷ image) (suc at) xs ys e = ap (λ (l : List ℕ). v ∷ l) (splice-over image at xs ys e)
splice-over (v ∷ image) zero [] ys e = refl
splice-over (v ∷ image) zero (x ∷ xs) [] e = absurd (omega arith)
splice-over (v ∷ image) zero (x ∷ xs) (y ∷ ys) e = ap (λ (l : List ℕ). y ∷ l) (splice-over image zero xs ys (omega arith))

-- two writes of which one ends before the other starts may change places
pub splice-swap : (image : List ℕ) (a : ℕ) (ys : List ℕ) (b : ℕ) (zs : List ℕ) → a + length ys ≤ b
    → splice (splice image a ys) b zs ≡ splice (splice image b zs) a ys
unfolding splice
splice-swap [] a ys b zs h = refl
splice-swap (x ∷ image) (suc a) ys (suc b) zs h = ap (λ (l : List ℕ). x ∷ l) (splice-swap image a ys b zs (omega arith))
splice-swap (x ∷ image) (suc a) ys zero zs h = absurd (omega arith)
splice-swap (x ∷ image) zero [] b zs h = sym (splice-nil (splice (x ∷ image) b zs) zero)
splice-swap (x ∷ image) zero (y ∷ ys) (suc b) zs h = ap (λ (l : List ℕ). y ∷ l) (splice-swap image zero ys b zs (omega arith))
splice-swap (x ∷ image) zero (y ∷ ys) zero zs h = absurd (omega arith)

-- a run of zeros is as long as asked
pub length-zeros : (n : ℕ) → length (zeros n) ≡ n
unfolding zeros
length-zeros n = length-replicate n 0

-- two runs of zeros are one
pub zeros-append : (n m : ℕ) → zeros n ++ zeros m ≡ zeros (n + m)
unfolding zeros
zeros-append n m = replicate-append-replicate n m 0

-- one byte set is one byte written
set-splice : (image : List ℕ) (at b : ℕ) → set image at b ≡ splice image at (b ∷ [])
unfolding splice
set-splice [] at b = refl
set-splice (x ∷ image) zero b = ap (λ (l : List ℕ). b ∷ l) (sym (splice-nil image zero))
set-splice (x ∷ image) (suc at) b = ap (λ (l : List ℕ). x ∷ l) (set-splice image at b)

-- a turn of a loop that copies ys
pub splice-next : (image : List ℕ) (at : ℕ) (ys now : List ℕ) (j : ℕ) → now ≡ splice image at (take j ys) → j < length ys
    → set now (at + j) (get_or ys j 0) ≡ splice image at (take (j + 1) ys)
splice-next image at ys now j e l =
    rw (e, add-one j, take-suc ys j 0 l)
    (set-splice _ _ _ ∙ splice-adjacent image at (take j ys) (at + j) (get_or ys j 0 ∷ []) (rw (length-take-le j ys (omega arith))))
