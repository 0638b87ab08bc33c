-- Laws of a table: its length, what stands at a place, and the loop that fills it place by place. Assumes nothing.
use Prim.Native.Nat.{ℕ, zero, suc, ◌+◌, ◌≤◌, ◌<◌}
use mathlib.Core.Path.{◌≡◌, refl, ap}
use mathlib.Core.List.{List, ◌∷◌}
use native.Mathlib.Omega.{arith}
use native.Mathlib.Numerals.{add-one}
use lib.ListN.{length, get_or, set, replicate, length-replicate}
use Rattle.words.specs.Table.{places}

module _ {A : Type 0} where
  -- a table has as many places as it is said to have
  pub length-places : (m n : ℕ) (f : ℕ → A) (blank : A) → length (places m n f blank) ≡ m
  length-places m zero f blank = length-replicate m blank
  length-places zero (suc n) f blank = refl
  length-places (suc m) (suc n) f blank = ap suc (length-places m n (λ i. f (suc i)) blank)

  -- a place that is filled holds its value
  pub places-at : (m n : ℕ) (f : ℕ → A) (blank : A) (i : ℕ) → i < n → n ≤ m → get_or (places m n f blank) i blank ≡ f i
  places-at m zero f blank i h l = absurd (omega arith)
  places-at zero (suc n) f blank i h l = absurd (omega arith)
  places-at (suc m) (suc n) f blank zero h l = refl
  places-at (suc m) (suc n) f blank (suc i) h l = places-at m n (λ j. f (suc j)) blank i (omega arith) (omega arith)

  filled : (m n : ℕ) (f : ℕ → A) (blank : A) → n < m → set (places m n f blank) n (f n) ≡ places m (suc n) f blank
  filled zero n f blank h = absurd (omega arith)
  filled (suc m) zero f blank h = refl
  filled (suc m) (suc n) f blank h = ap (λ (l : List A). f 0 ∷ l) (filled m n (λ i. f (suc i)) blank (omega arith))

  -- the next value at the next place fills one place more
  pub places-next : (m n : ℕ) (f : ℕ → A) (blank : A) → n < m → set (places m n f blank) n (f n) ≡ places m (n + 1) f blank
  places-next m n f blank h = rw add-one (filled m n f blank h)

  -- tables of values that agree at the places filled are equal
  pub places_same : (m n : ℕ) (f g : ℕ → A) (blank : A) → ((i : ℕ) → i < n → f i ≡ g i) → places m n f blank ≡ places m n g blank
  places_same m zero f g blank e = refl
  places_same zero (suc n) f g blank e = refl
  places_same (suc m) (suc n) f g blank e =
      λ i. e 0 (omega arith) i ∷ places_same m n (λ j. f (suc j)) (λ j. g (suc j)) blank (λ j h. e (suc j) (omega arith)) i

  -- what a loop knows that fills the first n of m places: the places passed are filled, the others blank
  pub record Filling (m n : ℕ) (f : ℕ → A) (blank : A) (table : List A) (filled : ℕ) : Type 0 where
    pub few : filled ≤ n
    pub so_far : table ≡ places m filled f blank

  module _ {m n : ℕ} {f : ℕ → A} {blank : A} where
    -- it knows that before its first turn
    pub filling-none : Filling m n f blank (replicate m blank) 0
    filling-none = record { few = omega arith; so_far = refl }

    -- a turn that puts the next value keeps it
    pub filling-next : {table : List A} {filled : ℕ} {value : A} → Filling m n f blank table filled → filled < n → n ≤ m → value ≡ f filled
        → Filling m n f blank (set table filled value) (filled + 1)
    filling-next {table} {filled} l some room e = record { few = omega arith; so_far = rw (l.so_far, e) (places-next m filled f blank (omega arith)) }

    -- and behind its last turn the table is full
    pub filling-all : {table : List A} {filled : ℕ} → Filling m n f blank table filled → n ≤ filled → table ≡ places m n f blank
    filling-all {table} {filled} l h =
        let e : filled ≡ n = omega (arith, l.few) in
        rw e at l.so_far
