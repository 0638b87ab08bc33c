-- An image is a list of bytes; offsets count from 0. A part of it, the image with bytes written over it, a run of zeros, and whether bytes are all zero.
use Rattle.std.specs.Prelude.{ℕ, zero, suc, Bool, true, ◌&&◌, List, [], ◌∷◌, eqb, take, drop, replicate}

-- the n bytes from offset at on; fewer where the image ends before
unfoldable pub part : List ℕ → ℕ → ℕ → List ℕ
part image at n = take n (drop at image)

-- the image with ys written over it from offset at on. What would stand past the image's end is left off.
-- Within bounds it is take at image ++ (ys ++ drop (at + length ys) image): splice_cut, in proofs/Splice.antt
unfoldable pub splice : List ℕ → ℕ → List ℕ → List ℕ
splice [] at ys = []
splice (x ∷ image) (suc at) ys = x ∷ splice image at ys
splice (x ∷ image) zero [] = x ∷ image
splice (x ∷ image) zero (y ∷ ys) = y ∷ splice image zero ys

-- n zeros
unfoldable pub zeros : ℕ → List ℕ
zeros n = replicate n 0

-- every byte is zero
unfoldable pub all_zero : List ℕ → Bool
all_zero [] = true
all_zero (b ∷ bytes) = eqb b 0 && all_zero bytes
