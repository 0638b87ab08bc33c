-- The index areas before and after an append: the numbers that it changes do not move them, and the areas of the first addresses look at no other
-- address. Assumes nothing.
use Prim.Native.Nat.{ℕ, zero, suc, ◌+◌, ◌≤◌}
use mathlib.Core.Path.{◌≡◌, refl, ap, ap₂, ◌∙◌}
use mathlib.Core.Bool.{Bool, ◌&&◌}
use mathlib.Core.List.{List}
use native.Mathlib.Omega.{arith}
use mir.Syntax.{w64}
use Rattle.words.specs.Word.{signed_of}
use Rattle.words.specs.Range.{at_least}
use Rattle.geometry.specs.declared.units.RecordNumber.{RecordNumber}
use Rattle.geometry.specs.Growth.{capacity_of}
use Rattle.geometry.specs.Area.{area_records}
use Rattle.descriptor.specs.declared.numbers.DescriptorNumbers.{DescriptorNumbers}
use Rattle.descriptor.specs.FirstRecord.{aex_of, growth_in}
use Rattle.descriptor.specs.Areas.{area_after, areas_start}
use Rattle.placing.specs.Placing.{numbers_after}

module _ (d : DescriptorNumbers) (end : ℕ) where
  -- the numbers after an append do not move the end of an area
  pub after_same : (addresses : List RecordNumber) (k : ℕ) → area_after (numbers_after d end) addresses k ≡ area_after d addresses k
  unfolding numbers_after area_after
  after_same addresses zero = refl
  after_same addresses (suc k) = refl

  -- nor the order in which they start
  pub starts-same : (addresses : List RecordNumber) (k : ℕ) → areas_start (numbers_after d end) addresses k ≡ areas_start d addresses k
  unfolding numbers_after areas_start
  starts-same addresses zero = refl
  starts-same addresses (suc k) =
      ap₂ (λ (a : Bool) (n : ℕ). a && at_least n (signed_of w64 (aex_of addresses (suc k)).0)) (starts-same addresses k) (ap (λ (r : RecordNumber). r.0) (after_same addresses k))

module _ (d : DescriptorNumbers) (xs ys : List RecordNumber) where
  -- the end of area k looks at address k alone
  pub after-agree : (k : ℕ) → (1 ≤ k → aex_of xs k ≡ aex_of ys k) → area_after d xs k ≡ area_after d ys k
  unfolding area_after
  after-agree zero e = refl
  after-agree (suc k) e = ap {B = RecordNumber} (λ (r : RecordNumber). record { 0 = r.0 + area_records (capacity_of (growth_in d) (suc k)) d.lind d.reclen }) (e (omega arith))

  -- the order of the first k areas looks at their addresses alone
  pub starts-agree : (k : ℕ) → ((j : ℕ) → 1 ≤ j → j ≤ k → aex_of xs j ≡ aex_of ys j) → areas_start d xs k ≡ areas_start d ys k
  unfolding areas_start
  starts-agree zero e = refl
  starts-agree (suc k) e =
      ap₂ (λ (a : Bool) (n : ℕ). a && at_least n (signed_of w64 (aex_of xs (suc k)).0))
      (starts-agree k (λ j l h. e j l (omega arith))) (ap (λ (r : RecordNumber). r.0) (after-agree k (λ l. e k l (omega arith))))
      ∙ ap (λ (r : RecordNumber). areas_start d ys k && at_least (area_after d ys k).0 (signed_of w64 r.0)) (e (suc k) (omega arith) (omega arith))
