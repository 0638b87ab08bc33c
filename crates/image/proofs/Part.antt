-- Laws of `part`: its length, a part in two, a part of a part, and reads before, behind, within and over a write. Assumes nothing.
use mathlib.Core.Path.{◌≡◌, refl, ap, ◌∙◌}
use Prim.Native.Nat.{ℕ, zero, suc, ◌+◌, ◌-◌, ◌≤◌}
use native.Mathlib.Omega.{arith}
use native.Mathlib.Nat.{suc-add, zero-add}
use mathlib.Core.List.{List, [], ◌∷◌, ◌++◌}
use lib.ListN.{length, take, drop, length-take, length-drop}
use lib.Seq.{drop-drop, take-nil, take_all, take-add, take-take, length-take-le, take-append-le, drop-append-le, drop-append-add}
use Rattle.image.specs.Image.{splice, part}
use Rattle.image.proofs.Splice.{splice-nil, splice_cut}

-- a part within the image is as long as asked
pub length_part : (image : List ℕ) (at n : ℕ) → at + n ≤ length image → length (part image at n) ≡ n
unfolding part
length_part image at n h = simp (length-take, length-drop) (omega arith)

-- the part of all is the image
pub part-all : (image : List ℕ) → part image 0 (length image) ≡ image
unfolding part
part-all image = take_all (length image) image (omega arith)

-- a part in two
pub part-add : (image : List ℕ) (at m n : ℕ) → part image at (m + n) ≡ part image at m ++ part image (at + m) n
unfolding part
part-add image at m n = take-add m n (drop at image) ∙ ap (λ (l : List ℕ). part image at m ++ take n l) (drop-drop m at image)

-- a part of one list set before another
pub part_left : (xs ys : List ℕ) (at n : ℕ) → at + n ≤ length xs → part (xs ++ ys) at n ≡ part xs at n
unfolding part
part_left xs ys at n h = rw (drop-append-le at xs ys (omega arith), take-append-le n (drop at xs) ys (rw length-drop (omega arith)))

-- a part of what is appended is a part of the appended list
pub part_right : (xs ys : List ℕ) (at i n : ℕ) → at ≡ length xs + i → part (xs ++ ys) at n ≡ part ys i n
unfolding part
part_right xs ys at i n e = rw (e, drop-append-add)

-- what is left of the first bytes is the first of what is left
drop-take : (b n : ℕ) (l : List ℕ) → drop b (take (b + n) l) ≡ take n (drop b l)
drop-take zero n l = rw zero-add
drop-take (suc b) n [] = simp take-nil
drop-take (suc b) n (x ∷ l) = rw suc-add (drop-take b n l)

-- a part of a part
pub part-part : (image : List ℕ) (a n b m c : ℕ) → b + m ≤ n → c ≡ a + b → part (part image a n) b m ≡ part image c m
unfolding part
part-part image a n b m c h e =
    let q : n ≡ b + (n - b) = omega arith in
    ap (λ (k : ℕ). take m (drop b (take k (drop a image)))) q
    ∙ rw (drop-take b (n - b) (drop a image), take-take m (n - b) (drop b (drop a image)) (omega arith), drop-drop b a image, e)

-- a read that ends where a write starts, or before, does not see it
pub part-before : (image : List ℕ) (at n b : ℕ) (ys : List ℕ) → at + n ≤ b → part (splice image b ys) at n ≡ part image at n
unfolding splice part
part-before [] at n b ys h = refl
part-before (x ∷ image) at zero b ys h = refl
part-before (x ∷ image) at (suc n) zero ys h = absurd (omega arith)
part-before (x ∷ image) (suc at) (suc n) (suc b) ys h = part-before image at (suc n) b ys (omega arith)
part-before (x ∷ image) zero (suc n) (suc b) ys h = ap (λ (l : List ℕ). x ∷ l) (part-before image zero n b ys (omega arith))

-- a read that starts where a write ends, or behind it, does not see it
pub part-behind : (image : List ℕ) (at n b : ℕ) (ys : List ℕ) → b + length ys ≤ at → part (splice image b ys) at n ≡ part image at n
unfolding splice part
part-behind image at n b [] h = ap (λ (l : List ℕ). part l at n) (splice-nil image b)
part-behind [] at n b (y ∷ ys) h = refl
part-behind (x ∷ image) zero n b (y ∷ ys) h = absurd (omega arith)
part-behind (x ∷ image) (suc at) n (suc b) (y ∷ ys) h = part-behind image at n b (y ∷ ys) (omega arith)
part-behind (x ∷ image) (suc at) n zero (y ∷ ys) h = part-behind image at n zero ys (omega arith)

-- a read within a write reads what was written
pub part-within : (image : List ℕ) (at n b : ℕ) (ys : List ℕ) (i : ℕ) → at ≡ b + i → i + n ≤ length ys → b + length ys ≤ length image
    → part (splice image b ys) at n ≡ part ys i n
part-within image at n b ys i e h k =
    rw (splice_cut image b ys k, part_right (take b image) (ys ++ drop (b + length ys) image) at i n (rw (length-take-le b image (omega arith)) e))
    (part_left ys (drop (b + length ys) image) i n h)

-- a read of just what was written
pub part_same : (image : List ℕ) (at n : ℕ) (ys : List ℕ) → n ≡ length ys → at + n ≤ length image → part (splice image at ys) at n ≡ ys
part_same image at n ys e h =
    rw e (part-within image at (length ys) at ys 0 (omega arith) (omega arith) (omega arith) ∙ part-all ys)

-- all but the first bytes of a write behind them
drop-splice : (image : List ℕ) (a c : ℕ) (ys : List ℕ) → drop a (splice image (a + c) ys) ≡ splice (drop a image) c ys
unfolding splice
drop-splice image zero c ys = rw zero-add
drop-splice [] (suc a) c ys = refl
drop-splice (x ∷ image) (suc a) c ys = rw suc-add (drop-splice image a c ys)

-- the first bytes of a write
take-splice : (image : List ℕ) (n c : ℕ) (ys : List ℕ) → take n (splice image c ys) ≡ splice (take n image) c ys
unfolding splice
take-splice image zero c ys = refl
take-splice [] (suc n) c ys = refl
take-splice (x ∷ image) (suc n) (suc c) ys = ap (λ (l : List ℕ). x ∷ l) (take-splice image n c ys)
take-splice (x ∷ image) (suc n) zero [] = refl
take-splice (x ∷ image) (suc n) zero (y ∷ ys) = ap (λ (l : List ℕ). y ∷ l) (take-splice image n zero ys)

-- a read that starts before a write sees the write over what it would read without it
pub part-splice : (image : List ℕ) (a n b : ℕ) (ys : List ℕ) → a ≤ b → part (splice image b ys) a n ≡ splice (part image a n) (b - a) ys
unfolding part
part-splice image a n b ys l =
    let e : b ≡ a + (b - a) = omega arith in
    ap (λ (k : ℕ). take n (drop a (splice image k ys))) e ∙ ap (take n) (drop-splice image a (b - a) ys) ∙ take-splice (drop a image) n (b - a) ys
