-- A list of writes, each at its offset, made one after the other.
use Rattle.std.specs.Prelude.{ℕ, ◌+◌, ◌≤◌, ◌≡◌, ◌⊎◌, List, [], ◌∷◌, ◌++◌, length}
use Rattle.image.specs.Image.{splice}

-- put at ys: the bytes ys from offset at on
pub data Write : Type 0 where
  put : ℕ → List ℕ → Write

-- the image after the writes, the first of the list first
abbrev pub writes : List ℕ → List Write → List ℕ
writes image [] = image
writes image (put at ys ∷ ws) = writes (splice image at ys) ws

-- all that the writes write, end to end
abbrev pub written : List Write → List ℕ
written [] = []
written (put at ys ∷ ws) = ys ++ written ws

-- the first write starts at offset a, and each other where the one before it ends
abbrev pub Follows : ℕ → List Write → Type 0
Follows a [] = Unit
Follows a (put at ys ∷ ws) = (at ≡ a) × Follows (at + length ys) ws

-- no write meets the n bytes from offset a on
abbrev pub Apart : ℕ → ℕ → List Write → Type 0
Apart a n [] = Unit
Apart a n (put at ys ∷ ws) = ((a + n ≤ at) ⊎ (at + length ys ≤ a)) × Apart a n ws

-- no two of the writes share a byte
abbrev pub PairwiseApart : List Write → Type 0
PairwiseApart [] = Unit
PairwiseApart (put at ys ∷ ws) = Apart at (length ys) ws × PairwiseApart ws
