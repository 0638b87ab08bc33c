-- Laws of f of each reading with its number: how many there are, each of them, two such functions one after the other, and one that leaves what stands behind.
-- Assumes nothing.
use Prim.Native.Nat.{ℕ, zero, suc, ◌+◌, ◌≤◌, ◌<◌}
use mathlib.Core.Path.{◌≡◌, refl, sym, ap, ap₂}
use mathlib.Core.List.{List, [], ◌∷◌, ◌++◌}
use native.Mathlib.Omega.{arith}
use lib.ListN.{length, get_or}
use Rattle.promises.specs.Contents.{Reading}
use Rattle.promises.specs.Calls.{each_from}

-- there are as many as before
pub each-length : (f : ℕ → Reading → Reading) (k : ℕ) (readings : List Reading) → length (each_from k f readings) ≡ length readings
each-length f k [] = refl
each-length f k (r ∷ readings) = ap suc (each-length f (suc k) readings)

-- behind i of them stands f of what stood there
pub each_at : (f : ℕ → Reading → Reading) (k : ℕ) (readings : List Reading) (i n : ℕ) (d : Reading) → n ≡ k + i → i < length readings
    → get_or (each_from k f readings) i d ≡ f n (get_or readings i d)
each_at f k [] i n d e l = absurd (omega arith)
each_at f k (r ∷ readings) zero n d e l = let same : k ≡ n = omega arith in ap (λ (m : ℕ). f m r) same
each_at f k (r ∷ readings) (suc i) n d e l = each_at f (suc k) readings i n d (omega arith) (omega arith)

-- g of each after f of each is g of f of each
pub each_twice : (f g : ℕ → Reading → Reading) (k : ℕ) (readings : List Reading) → each_from k g (each_from k f readings) ≡ each_from k (λ i r. g i (f i r)) readings
each_twice f g k [] = refl
each_twice f g k (r ∷ readings) = ap (λ (l : List Reading). g k (f k r) ∷ l) (each_twice f g (suc k) readings)

-- where f leaves what it is given, all stays
pub each-kept : (f : ℕ → Reading → Reading) (k : ℕ) (readings : List Reading) → ((i : ℕ) → k ≤ i → (r : Reading) → f i r ≡ r) → each_from k f readings ≡ readings
each-kept f k [] same = refl
each-kept f k (r ∷ readings) same =
    ap₂ (λ (x : Reading) (l : List Reading). x ∷ l) (same k (omega arith) r) (each-kept f (suc k) readings (λ i l. same i (omega arith)))

-- where it leaves all numbers behind the readings, it may be taken of more as well
pub each-behind : (f : ℕ → Reading → Reading) (k : ℕ) (readings more : List Reading) → ((i : ℕ) → k + length readings ≤ i → (r : Reading) → f i r ≡ r)
    → each_from k f readings ++ more ≡ each_from k f (readings ++ more)
each-behind f k [] more same = sym (each-kept f k more (λ i l. same i (omega arith)))
each-behind f k (r ∷ readings) more same = ap (λ (l : List Reading). f k r ∷ l) (each-behind f (suc k) readings more (λ i l. same i (omega arith)))
