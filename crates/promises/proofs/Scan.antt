-- The scan of the order check: it passes every entry, or stops at the first that fails. A refused file is not scanned. Assumes nothing.
use Prim.Native.Nat.{ℕ, zero, suc, ◌+◌, ◌≤◌, ◌<◌}
use mathlib.Core.Path.{◌≡◌, refl, sym, ap, ◌∙◌}
use mathlib.Core.Logic.{◌⊎◌, inl, inr}
use mathlib.Core.Bool.{true, false}
use mathlib.Core.List.{List}
use native.Mathlib.Omega.{arith}
use borrow.Author.Tests.{eqb-true, eqb-false}
use lib.Dec.{eqb}
use Rattle.geometry.specs.declared.units.RecordNumber.{RecordNumber}
use Rattle.geometry.specs.Units.{entries_before}
use Rattle.descriptor.specs.declared.numbers.DescriptorNumbers.{DescriptorNumbers}
use Rattle.descriptor.specs.FirstRecord.{numbers_of, addresses_of}
use Rattle.descriptor.specs.Rules.{file_refusal}
use Rattle.descriptor.proofs.Answered.{answer-numbers, answer-refused}
use Rattle.order.specs.declared.answers.Checked.{Checked}
use Rattle.order.specs.Order.{order_refusal, all_pass, checked_from, checked_in, check_of}
use Rattle.outcome.proofs.Either.{either}
use Rattle.written.proofs.Cases.{split}
use Rattle.promises.specs.Tables.{reported}

module _ (file : List ℕ) (d : DescriptorNumbers) (addresses : List RecordNumber) where
  -- the refusal of entry e
  abbrev pub refusal_at : ℕ → ℕ
  refusal_at e = order_refusal file d addresses (record { 0 = e })

  -- none of so many entries from number k on fails
  abbrev pub PassFrom : ℕ → ℕ → Type 0
  PassFrom k left = (e : ℕ) → k ≤ e → e < k + left → refusal_at e ≡ 0

  -- entry e is the first of them that fails, with refusal n, and that is the answer
  pub record Stops (k left e n : ℕ) : Type 0 where
    pub low : k ≤ e
    pub high : e < k + left
    pub before : (j : ℕ) → k ≤ j → j < e → refusal_at j ≡ 0
    pub refusal : refusal_at e ≡ n
    pub refused : 0 < n
    pub answer : checked_from file d addresses k left ≡ reported e n

  -- one of the two
  abbrev pub Scanned : ℕ → ℕ → Type 0
  Scanned k left = (PassFrom k left × (checked_from file d addresses k left ≡ all_pass)) ⊎ ((e : ℕ) × (n : ℕ) × Stops k left e n)

  -- where entry k passes, one that is k, or of which it is known, passes
  first-or : (k j : ℕ) → refusal_at k ≡ 0 → k ≤ j → (k + 1 ≤ j → refusal_at j ≡ 0) → refusal_at j ≡ 0
  first-or k j z l f = split j k (λ g. let same : j ≡ k = omega arith in rw same z) (λ g. f (omega arith))

  -- holds of every scan
  pub scan : (k left : ℕ) → Scanned k left
  unfolding checked_from
  scan k zero = inl (λ e l m. absurd (omega arith), refl)
  scan k (suc left) = either (eqb (refusal_at k) 0) (λ t. later t (eqb-true (refusal_at k) 0 t) (scan (k + 1) left)) here
    where
      here : eqb (refusal_at k) 0 ≡ false → Scanned k (suc left)
      here t =
          let some = eqb-false (refusal_at k) 0 t in
          inr (k, refusal_at k, record { low = omega arith; high = omega arith; before = λ j l m. absurd (omega arith); refusal = refl; refused = omega arith; answer = rw t })

      later : eqb (refusal_at k) 0 ≡ true → refusal_at k ≡ 0 → Scanned (k + 1) left → Scanned k (suc left)
      later t z (inl p) = inl (λ e l m. first-or k e z l (λ g. p.0 e g (omega arith)), rw t p.1)
      later t z (inr p) =
          let s = p.2 in
          inr (
            p.0,
            p.1,
            record {
              low = omega arith;
              high = omega arith;
              before = λ j l m. first-or k j z l (λ g. s.before j g m);
              refusal = s.refusal;
              refused = s.refused;
              answer = rw t s.answer;
            },
          )

  -- where the answer is 0 and 0, all of them pass
  pub scan-all : (k left : ℕ) → checked_from file d addresses k left ≡ all_pass → PassFrom k left
  scan-all k left q =
      elim (scan k left) [
        | inl p ↦ p.0
        | inr p ↦ (let none : p.1 ≡ 0 = ap (λ (c : Checked). c.refusal) (sym p.2.answer ∙ q) in absurd (omega (arith, p.2.refused)))
      ]

  -- and back
  pub scan-pass : (k left : ℕ) → PassFrom k left → checked_from file d addresses k left ≡ all_pass
  scan-pass k left all =
      elim (scan k left) [
        | inl p ↦ p.1
        | inr p ↦ absurd (omega (arith, p.2.refused, p.2.refusal, all p.0 p.2.low p.2.high))
      ]

-- ---- the check of a file

module _ (file : List ℕ) where
  -- one that is refused gives entry 0
  pub check-refused : eqb (file_refusal file) 0 ≡ false → check_of file ≡ reported 0 (file_refusal file)
  unfolding check_of checked_in
  check-refused q = rw (answer-refused file (file_refusal file) refl q)

  -- one that is admitted is scanned
  pub check-scans : file_refusal file ≡ 0 → check_of file ≡ checked_from file (numbers_of file) (addresses_of file (numbers_of file).nex) 1 (entries_before (numbers_of file).xnext)
  unfolding check_of checked_in
  check-scans z = rw (answer-numbers file z)

  -- a file is one or the other
  pub by-file {ℓ} : {X : Type ℓ} → (file_refusal file ≡ 0 → X) → (eqb (file_refusal file) 0 ≡ false → X) → X
  by-file f g = either (eqb (file_refusal file) 0) (λ q. f (eqb-true (file_refusal file) 0 q)) g
