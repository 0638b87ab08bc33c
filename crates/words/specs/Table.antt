-- A table of a fixed number of places, of which the first hold values and the others a blank.
use Rattle.std.specs.Prelude.{ℕ, zero, suc, List, [], ◌∷◌, replicate}

-- m places: the first n hold f 0, f 1, .., and the others the blank
abbrev pub places : {A : Type 0} → ℕ → ℕ → (ℕ → A) → A → List A
places m zero f blank = replicate m blank
places zero (suc n) f blank = []
places (suc m) (suc n) f blank = f 0 ∷ places m n (λ i. f (suc i)) blank
