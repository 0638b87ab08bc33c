-- Laws of tables as C has them: the places mapped, each place by itself, and the loops that fill them. Assumes nothing.
use Prim.Native.Nat.{ℕ, zero, suc, ◌+◌, ◌≤◌, ◌<◌, min}
use mathlib.Core.Path.{◌≡◌, refl, sym, ap, ◌∙◌}
use mathlib.Core.Bool.{cond}
use mathlib.Core.List.{List, [], ◌∷◌, map}
use native.Mathlib.Omega.{arith}
use borrow.Author.Tests.{leb-true, leb-false, le-leb, lt-leb}
use lib.ListN.{set, replicate}
use lib.Dec.{leb}
use Rattle.outcome.proofs.Either.{either}
use Rattle.words.specs.Table.{places}
use Rattle.words.proofs.Table.{Filling, filling-none, filling-next}

-- a table whose places are mapped is the table of what they are mapped to
pub map-places : {A : Type 0} (f : A → ℕ) (m n : ℕ) (g : ℕ → A) (blank : A) → map f (places m n g blank) ≡ places m n (λ i. f (g i)) (f blank)
map-places f m zero g blank = map-replicate m
  where
    map-replicate : (k : ℕ) → map f (replicate k blank) ≡ replicate k (f blank)
    map-replicate zero = refl
    map-replicate (suc k) = ap (λ (l : List ℕ). f blank ∷ l) (map-replicate k)
map-places f zero (suc n) g blank = refl
map-places f (suc m) (suc n) g blank = ap (λ (l : List ℕ). f (g 0) ∷ l) (map-places f m n (λ i. g (suc i)) blank)

-- the first m values of a function
abbrev pub listed : {A : Type 0} → ℕ → (ℕ → A) → List A
listed zero g = []
listed (suc m) g = g 0 ∷ listed m (λ i. g (suc i))

step : (a b : ℕ) → leb (suc a) (suc b) ≡ leb a b
step a b =
    either (leb a b) (λ t. rw t (le-leb (suc a) (suc b) (omega (arith, leb-true a b t)))) (λ t. rw t (lt-leb (suc a) (suc b) (omega (arith, leb-false a b t))))

-- a table is what its places hold: a value in each of the first n, and in the others the blank
pub places-listed : {A : Type 0} (m n : ℕ) (f : ℕ → A) (blank : A) → places m n f blank ≡ listed m (λ i. cond (leb (suc i) n) (f i) blank)
places-listed {A} m zero f blank = blanks m ∙ (λ j. listed m (λ i. cond (sym (lt-leb (suc i) 0 (omega arith)) j) (f i) blank))
  where
    blanks : (k : ℕ) → replicate k blank ≡ listed k (λ i. blank)
    blanks zero = refl
    blanks (suc k) = ap (λ (l : List A). blank ∷ l) (blanks k)
places-listed zero (suc n) f blank = refl
places-listed (suc m) (suc n) f blank =
    let rest = places-listed m n (λ i. f (suc i)) blank ∙ (λ j. listed m (λ i. cond (sym (step (suc i) n) j) (f (suc i)) blank)) in
    λ j. cond (sym (le-leb 1 (suc n) (omega arith)) j) (f 0) blank ∷ rest j

-- a loop that passes the places past n too has filled those passed that are below n
module _ {A : Type 0} {m n : ℕ} {f : ℕ → A} {blank : A} where
  -- before its first turn that is none
  pub passing-none : Filling m n f blank (replicate m blank) (min 0 n)
  passing-none = let none : min 0 n ≡ 0 = omega arith in rw none filling-none

  -- a turn that puts a value keeps it
  pub passing-next : {table : List A} {passed : ℕ} {value : A} → Filling m n f blank table (min passed n) → passed < n → n ≤ m → value ≡ f passed
      → Filling m n f blank (set table passed value) (min (passed + 1) n)
  passing-next {table} {passed} l some room e =
      let here : min passed n ≡ passed = omega arith in
      let next : min (passed + 1) n ≡ passed + 1 = omega arith in
      rw next (filling-next (rw here at l) some room e)

  -- so does one past n, which puts none
  pub passing-past : {table : List A} {passed : ℕ} → Filling m n f blank table (min passed n) → n ≤ passed → Filling m n f blank table (min (passed + 1) n)
  passing-past {table} {passed} l past =
      let same : min (passed + 1) n ≡ min passed n = omega arith in
      rw same l

-- m places: the first hold the blank, those behind them, up to n, their values, and the others the blank
abbrev behind : {A : Type 0} → ℕ → ℕ → ℕ → (ℕ → A) → A → List A
behind m zero n f blank = places m n f blank
behind m (suc left) zero f blank = replicate m blank
behind zero (suc left) (suc n) f blank = []
behind (suc m) (suc left) (suc n) f blank = blank ∷ behind m left n (λ i. f (suc i)) blank

behind-none : {A : Type 0} (m n : ℕ) (f : ℕ → A) (blank : A) → n ≤ m → behind m n n f blank ≡ replicate m blank
behind-none m zero f blank h = refl
behind-none zero (suc n) f blank h = absurd (omega arith)
behind-none {A} (suc m) (suc n) f blank h = ap (λ (l : List A). blank ∷ l) (behind-none m n (λ i. f (suc i)) blank (omega arith))

behind-next : {A : Type 0} (m left n : ℕ) (f : ℕ → A) (blank : A) → left < n → n ≤ m → set (behind m (suc left) n f blank) left (f left) ≡ behind m left n f blank
behind-next m left zero f blank h r = absurd (omega arith)
behind-next zero left (suc n) f blank h r = absurd (omega arith)
behind-next (suc m) zero (suc n) f blank h r = refl
behind-next {A} (suc m) (suc left) (suc n) f blank h r =
    ap (λ (l : List A). blank ∷ l) (behind-next m left n (λ i. f (suc i)) blank (omega arith) (omega arith))

-- what a loop knows that fills the first n of m places from the last on: the places left are blank, those behind them filled
pub record Emptying {A : Type 0} (m n : ℕ) (f : ℕ → A) (blank : A) (table : List A) (left : ℕ) : Type 0 where
  pub few : left ≤ n
  pub so_far : table ≡ behind m left n f blank

module _ {A : Type 0} {m n : ℕ} {f : ℕ → A} {blank : A} where
  -- it knows that before its first turn
  pub emptying-none : n ≤ m → Emptying m n f blank (replicate m blank) n
  emptying-none room = record { few = omega arith; so_far = sym (behind-none m n f blank room) }

  -- a turn that puts the value of the place before keeps it
  pub emptying-next : {table : List A} {left k : ℕ} {value : A} → Emptying m n f blank table left → left ≡ suc k → n ≤ m → value ≡ f k
      → Emptying m n f blank (set table k value) k
  emptying-next {table} {left} {k} l next room e = record {
    few = omega (arith, l.few);
    so_far = rw (l.so_far, next, e) (behind-next m k n f blank (omega (arith, l.few)) room);
  }

  -- and behind its last turn the table is full
  pub emptying-all : {table : List A} {left : ℕ} → Emptying m n f blank table left → left ≡ 0 → table ≡ places m n f blank
  emptying-all l none = rw none at l.so_far
