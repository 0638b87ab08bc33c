-- Laws of the classes of bytes: what a test says of an offset, a byte as a part of one byte, and a proof by the tests in turn. Assumes nothing.
use Prim.Native.Nat.{ℕ, ◌+◌, ◌*◌, ◌≤◌, ◌<◌}
use mathlib.Core.Path.{◌≡◌, refl, sym, ap, ◌∙◌}
use mathlib.Core.Logic.{inl, inr}
use mathlib.Core.Bool.{true, false, false≢true}
use mathlib.Core.List.{List, [], ◌∷◌}
use native.Mathlib.Omega.{arith}
use borrow.Author.Tests.{leb-true, leb-false, ltb-true, ltb-false}
use lib.Dec.{leb}
use lib.ListN.{get_or, drop, get_or-replicate}
use lib.Seq.{get_or-take, get_or-drop}
use Rattle.image.specs.Image.{part, zeros}
use Rattle.image.proofs.Writes.{Beside}
use Rattle.outcome.proofs.Either.{either}
use Rattle.promises.specs.Bytes.{byte_at, covers, Class, other, Test, when, first_of}

-- ---- a test

module _ (a n i : ℕ) where
  -- an offset that words cover
  pub covered : covers a n i ≡ true → (a ≤ i) × (i < a + 4 * n)
  unfolding covers
  covered t =
      either (leb a i)
      (λ p. (leb-true a i p, ltb-true i (a + 4 * n) (rw p at t)))
      (λ p. absurd (false≢true (rw p at t)))

  -- and one that they do not
  pub uncovered : covers a n i ≡ false → Beside i 1 a (4 * n)
  unfolding covers
  uncovered t =
      either (leb a i)
      (λ p. inr (ltb-false i (a + 4 * n) (rw p at t)))
      (λ p. let l = leb-false a i p in inl (omega arith))

-- a byte beside two runs of bytes that follow one another is beside both together
pub beside-both : (i a m b n k : ℕ) → b ≡ a + m → k ≡ m + n → Beside i 1 a m → Beside i 1 b n → Beside i 1 a k
beside-both i a m b n k e f (inl l) r = inl l
beside-both i a m b n k e f (inr l) (inl r) = absurd (omega arith)
beside-both i a m b n k e f (inr l) (inr r) = inr (omega arith)

-- ---- a byte

byte-part : (f : List ℕ) (i : ℕ) → byte_at f i ≡ byte_at (part f i 1) 0
unfolding part
byte-part f i =
    let e : i + 0 ≡ i = omega arith in
    sym (get_or-take 1 (drop i f) 0 0 (omega arith) ∙ get_or-drop i f 0 0 ∙ ap (λ (k : ℕ). get_or f k 0) e)

-- parts of one byte that are equal have equal bytes
pub byte-same : (f g : List ℕ) (i j : ℕ) → part f i 1 ≡ part g j 1 → byte_at f i ≡ byte_at g j
byte-same f g i j e = byte-part f i ∙ ap (λ (l : List ℕ). byte_at l 0) e ∙ sym (byte-part g j)

-- a byte among zeros is 0
pub byte-zero : (n i : ℕ) → i < n → byte_at (zeros n) i ≡ 0
unfolding zeros
byte-zero n i l = get_or-replicate n i 0 0 l

-- ---- the tests in turn

-- a statement holds of the class of each test where that test holds and none before it does, and of other where none holds
abbrev pub InTurn : (Class → Type 0) → List Test → Type 0
InTurn P [] = P other
InTurn P (when holds class ∷ tests) = (holds ≡ true → P class) × (holds ≡ false → InTurn P tests)

-- where it says nothing of a test's class, the tests behind are left
pub pass : {A B : Type 0} → B → (A → Unit {0}) × B
pass {A} rest = (λ (q : A). tt, rest)

-- so it holds of the class that they give
pub by_tests : (P : Class → Type 0) (tests : List Test) → InTurn P tests → P (first_of tests)
by_tests P [] t = t
by_tests P (when true class ∷ tests) t = t.0 refl
by_tests P (when false class ∷ tests) t = by_tests P tests (t.1 refl)
