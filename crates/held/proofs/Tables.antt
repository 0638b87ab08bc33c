-- Laws of tables of records: those with the same numbers are equal, and what a derived comparison says of them. Assumes nothing.
use Prim.Native.Nat.{ℕ}
use mathlib.Core.Path.{◌≡◌, refl, ap, ap₂}
use mathlib.Core.Bool.{true, ◌&&◌}
use mathlib.Core.List.{List, [], ◌∷◌}
use mathlib.Mathlib.Data.Bool.Basic.{and-eq-true-eq-eq-true-and-eq-true}
use borrow.Author.Tests.{eqb-true}
use lib.Dec.{eqb}
use lib.Pointwise.{pointwise}
use Rattle.words.specs.Code.{same_numbers}
use Rattle.geometry.specs.declared.units.RecordNumber.{RecordNumber}
use Rattle.geometry.specs.Units.{record_numbers}

-- tables with the same numbers are equal
pub records-equal : (one other : List RecordNumber) → same_numbers (record_numbers one) (record_numbers other) ≡ true → one ≡ other
unfolding same_numbers
records-equal [] [] e = refl
records-equal [] (r ∷ other) e = cc
records-equal (r ∷ one) [] e = cc
records-equal (r ∷ one) (s ∷ other) e =
    let both = (and-eq-true-eq-eq-true-and-eq-true (eqb r.0 s.0) (same_numbers (record_numbers one) (record_numbers other))).0 e in
    ap₂ (λ (n : ℕ) (table : List RecordNumber). record { 0 = n } ∷ table) (eqb-true r.0 s.0 both.0) (records-equal one other both.1)

-- numbers compared place by place
pub numbers-compared : (one other : List ℕ) → pointwise eqb one other ≡ same_numbers one other
unfolding same_numbers
numbers-compared [] [] = refl
numbers-compared [] (y ∷ other) = refl
numbers-compared (x ∷ one) [] = refl
numbers-compared (x ∷ one) (y ∷ other) = ap (λ b. eqb x y && b) (numbers-compared one other)

-- and records
pub records-compared : (one other : List RecordNumber) → pointwise (λ r s. eqb r.0 s.0) one other ≡ same_numbers (record_numbers one) (record_numbers other)
unfolding same_numbers
records-compared [] [] = refl
records-compared [] (s ∷ other) = refl
records-compared (r ∷ one) [] = refl
records-compared (r ∷ one) (s ∷ other) = ap (λ b. eqb r.0 s.0 && b) (records-compared one other)
