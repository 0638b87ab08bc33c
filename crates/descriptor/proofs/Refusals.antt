-- What a table of rules means: a refusal is given exactly when a row of its number is broken and every row before it holds;
-- and how a function that tests the rows in turn comes to it. Assumes nothing.
use native.Mathlib.Decide.{dec_le}
use native.Mathlib.Nat.{lt_of_not-le}
use Prim.Native.Nat.{ℕ, zero, suc, ◌<◌, ◌≤◌}
use mathlib.Core.Path.{◌≡◌, refl, sym, ap, ◌∙◌}
use mathlib.Core.Logic.{inl, inr}
use mathlib.Core.Bool.{Bool, true, false, cond}
use mathlib.Core.List.{List, [], ◌∷◌, ◌++◌}
use native.Mathlib.Omega.{arith}
use borrow.Author.Tests.{ne_eqb}
use lib.Dec.{eqb}
use lib.ListN.{take}
use Rattle.outcome.specs.declared.refusal.Refusal.{Refusal}
use Rattle.std.specs.Prelude.{Result, Ok, Err, IsErrAnd}
use Rattle.outcome.specs.Refusal.{number_of, row_refusal, Refuses}
use Rattle.outcome.proofs.Refusals.{number-positive}
use Rattle.descriptor.specs.Refusal.{Rule, refusal_in, Given, AllHold, Numbered}

-- a refusal has a number of the list
pub number_low : (r : Refusal) → 1 ≤ number_of r
number_low r = elim (dec_le 1 (number_of r)) [ yes l ↦ l | no l ↦ absurd (number-positive r (omega (arith, lt_of_not-le l))) ]

-- a row that is passed holds
pub row-holds : (b : Bool) (n : ℕ) → 1 ≤ n → 0 ≡ row_refusal n b → b ≡ true
row-holds true n h e = refl
row-holds false n h e = absurd (omega arith)

-- a row that refuses is broken, and gives its number
pub row-broken : (b : Bool) (n : ℕ) (r : Refusal) → number_of r ≡ row_refusal n b → (b ≡ false) × (number_of r ≡ n)
row-broken true n r e = absurd (number-positive r e)
row-broken false n r e = (refl, e)

-- a refusal that is passed on keeps its number
pub passed-on : {n : ℕ} (r : Refusal) (answer : Result Unit Refusal) → IsErrAnd answer (λ s. s ≡ r) → number_of r ≡ n → Refuses n answer
passed-on r (Ok x) p e = absurd p
passed-on r (Err s) p e = ap number_of p ∙ e

-- a refusal that is given is the answer
pub refusal_is : (k : ℕ) (rs : List Rule) → Given k rs → refusal_in rs ≡ k
refusal_is k [] g = absurd g
refusal_is k (r ∷ rs) (inl g) = rw g.1 g.0
refusal_is k (r ∷ rs) (inr g) = rw g.0 (refusal_is k rs g.1)

-- an answer that is not 0 was given
pub refusal-given : (k : ℕ) (rs : List Rule) → refusal_in rs ≡ k → 0 < k → Given k rs
refusal-given k [] e h = absurd (omega arith)
refusal-given k (r ∷ rs) e h = by r.holds refl (refusal-given k rs)
  where
    by : (b : Bool) → r.holds ≡ b → (refusal_in rs ≡ k → 0 < k → Given k rs) → Given k (r ∷ rs)
    by true q rest = inr (q, rest (rw q at e) h)
    by false q rest = inl (rw q at e, q)

-- where all hold the answer is 0
pub refusal-none : (rs : List Rule) → AllHold rs → refusal_in rs ≡ 0
refusal-none [] a = refl
refusal-none (r ∷ rs) a = rw a.0 (refusal-none rs a.1)

-- and where it is 0 all hold
pub all_hold : (rs : List Rule) → Numbered rs → refusal_in rs ≡ 0 → AllHold rs
all_hold [] n e = tt
all_hold (r ∷ rs) n e = by r.holds refl (all_hold rs n.1)
  where
    by : (b : Bool) → r.holds ≡ b → (refusal_in rs ≡ 0 → AllHold rs) → AllHold (r ∷ rs)
    by true q rest = (q, rest (rw q at e))
    by false q rest = let z : r.number ≡ 0 = rw q at e in absurd (omega (arith, n.0))

-- the rows of a table in two parts hold where those of both do
pub hold-split : (rs ss : List Rule) → AllHold (rs ++ ss) → AllHold rs × AllHold ss
hold-split [] ss a = (tt, a)
hold-split (r ∷ rs) ss a = let b = hold-split rs ss a.1 in ((a.0, b.0), b.1)

-- a table in two parts: the second counts where the first gives none
pub refusal-append : (rs ss : List Rule) → Numbered rs → refusal_in (rs ++ ss) ≡ cond (eqb (refusal_in rs) 0) (refusal_in ss) (refusal_in rs)
refusal-append [] ss n = refl
refusal-append (r ∷ rs) ss n = by r.holds refl (refusal-append rs ss n.1)
  where
    by : (b : Bool) → r.holds ≡ b → refusal_in (rs ++ ss) ≡ cond (eqb (refusal_in rs) 0) (refusal_in ss) (refusal_in rs)
        → refusal_in ((r ∷ rs) ++ ss) ≡ cond (eqb (refusal_in (r ∷ rs)) 0) (refusal_in ss) (refusal_in (r ∷ rs))
    by true q rest = rw q rest
    by false q rest = rw (q, ne_eqb r.number 0 (λ (z : r.number ≡ 0). omega (arith, n.0)))

-- whether the row behind k others holds; there is none behind the last
abbrev pub holds_at : ℕ → List Rule → Bool
holds_at k [] = false
holds_at zero (r ∷ rs) = r.holds
holds_at (suc k) (r ∷ rs) = holds_at k rs

-- its number, and 0 behind the last
abbrev pub number_at : ℕ → List Rule → ℕ
number_at k [] = 0
number_at zero (r ∷ rs) = r.number
number_at (suc k) (r ∷ rs) = number_at k rs

-- the first k rows and the next one hold
pub hold-more : (k : ℕ) (rs : List Rule) → AllHold (take k rs) → holds_at k rs ≡ true → AllHold (take (suc k) rs)
hold-more zero [] a h = tt
hold-more (suc k) [] a h = tt
hold-more zero (r ∷ rs) a h = (h, tt)
hold-more (suc k) (r ∷ rs) a h = (a.0, hold-more k rs a.1 h)

-- the first row that does not hold gives its number, and 0 is given where there is none
pub refusal-at : (k : ℕ) (rs : List Rule) → AllHold (take k rs) → holds_at k rs ≡ false → refusal_in rs ≡ number_at k rs
refusal-at k [] a h = refl
refusal-at zero (r ∷ rs) a h = rw h
refusal-at (suc k) (r ∷ rs) a h = rw a.0 (refusal-at k rs a.1 h)

-- a place of a function behind its first k tests: what the function was given, and the first k rows, which hold
pub record Past {S : Type 0} (rules : S → List Rule) (k : ℕ) : Type 0 where
  pub given : S
  pub rows : AllHold (take k (rules given))

-- the place before the first test
abbrev pub past-none : {S : Type 0} {rules : S → List Rule} (s : S) → Past rules 0
past-none s = record { given = s; rows = tt }

-- the place behind one test more
abbrev pub next : {S : Type 0} {rules : S → List Rule} {k : ℕ} (p : Past rules k) → holds_at k (rules p.given) ≡ true → Past rules (suc k)
next {S} {rules} {k} p h = record { given = p.given; rows = hold-more k (rules p.given) p.rows h }

-- a test that fails behind k others gives the refusal of its row, and 0 is given where none fails
pub stop : {S : Type 0} {rules : S → List Rule} {k : ℕ} (p : Past rules k) → holds_at k (rules p.given) ≡ false → number_at k (rules p.given) ≡ refusal_in (rules p.given)
stop {S} {rules} {k} p h = sym (refusal-at k (rules p.given) p.rows h)
