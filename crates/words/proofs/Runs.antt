-- Tests that run over one thing after the other and pass where each test passes. Assumes nothing.
use mathlib.Core.Path.{◌≡◌, sym, ap, ◌∙◌}
use mathlib.Core.Bool.{Bool, true, false, ◌&&◌, and-eq-true_iff}
use Prim.Native.Nat.{ℕ, zero, suc, ◌+◌, ◌≤◌, ◌<◌}
use native.Mathlib.Omega.{arith}
use native.Mathlib.Numerals.{add-one}
use native.Mathlib.Decide.{le_ind}
use Rattle.outcome.proofs.Either.{either}

-- a run passes over one more where it passed so far and the test of that one passes
pub record Run (run test : ℕ → Bool) : Type 0 where
  pub next : (k : ℕ) → run (k + 1) ≡ run k && test k

-- what a loop knows that makes n tests in turn: those made have passed
pub record Passing (run : ℕ → Bool) (n made : ℕ) : Type 0 where
  pub few : made ≤ n
  pub so_far : run made ≡ true

-- with none left, the run passes
pub passing-all : {run : ℕ → Bool} {n made : ℕ} → Passing run n made → n ≤ made → true ≡ run n
passing-all {run} {n} {made} p h = let e : made ≡ n = omega (arith, p.few) in sym (ap run (sym e) ∙ p.so_far)

module _ {run test : ℕ → Bool} (r : Run run test) where
  -- with those before it passed, one more passes by its own test
  pub run-next : (k : ℕ) → run k ≡ true → run (k + 1) ≡ test k
  run-next k e = r.next k ∙ ap (λ (b : Bool). b && test k) e

  -- a run that passed, passed over fewer
  pub run-fewer : (k n : ℕ) → k ≤ n → run n ≡ true → run k ≡ true
  run-fewer k n h e =
      le_ind (λ i. run i ≡ true → run k ≡ true) (λ q. q)
      (λ i l f q. f ((and-eq-true_iff (run i) (test i)).0 (sym (r.next i) ∙ ap run (add-one i) ∙ q)).0) n h e

  -- and each of its tests did
  pub run-test : (k n : ℕ) → k < n → run n ≡ true → test k ≡ true
  run-test k n h e = ((and-eq-true_iff (run k) (test k)).0 (sym (r.next k) ∙ run-fewer (k + 1) n (omega arith) e)).1

  -- with all tests passed, so did the run
  pub run-all : run 0 ≡ true → (n : ℕ) → ((k : ℕ) → k < n → test k ≡ true) → run n ≡ true
  run-all z zero h = z
  run-all z (suc n) h = ap run (sym (add-one n)) ∙ run-next n (run-all z n (λ k l. h k (omega arith))) ∙ h n (omega arith)

  -- with one test failed, the run fails
  pub run-failed : (k n : ℕ) → k < n → test k ≡ false → run n ≡ false
  run-failed k n h e = either (run n) (λ q. q ∙ sym (run-test k n h q) ∙ e) (λ q. q)

  -- a turn of that loop, which finds t of the next test
  module _ {n made : ℕ} (p : Passing run n made) (some : made < n) {t : Bool} (e : t ≡ test made) where
    -- a test that passes leads to the next
    pub passing-next : t ≡ true → Passing run n (made + 1)
    passing-next h = record { few = omega arith; so_far = run-next made p.so_far ∙ sym e ∙ h }

    -- and with one that fails the run fails
    pub passing-failed : t ≡ false → false ≡ run n
    passing-failed h = sym (run-failed made n some (sym e ∙ h))
