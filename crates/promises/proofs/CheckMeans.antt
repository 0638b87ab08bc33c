-- What the order check's answer means: the entry is the first whose table of tests does not all hold, with the refusal by that table.
-- Assumes nothing.
use Prim.Native.Nat.{ℕ, ◌+◌, ◌<◌}
use mathlib.Core.Path.{◌≡◌, refl, sym, ap, ap₂, subst₂, ◌∙◌}
use mathlib.Core.Logic.{inl, inr}
use mathlib.Core.Bool.{false≢true}
use mathlib.Core.List.{List, [], ◌∷◌, ◌++◌}
use native.Mathlib.Omega.{arith}
use borrow.Author.Tests.{eqb-false, ne_eqb}
use lib.Dec.{eqb}
use Rattle.geometry.specs.declared.units.RecordNumber.{RecordNumber}
use Rattle.geometry.specs.declared.units.EntryNumber.{EntryNumber}
use Rattle.geometry.specs.Units.{entries_before}
use Rattle.descriptor.specs.declared.numbers.DescriptorNumbers.{DescriptorNumbers}
use Rattle.descriptor.specs.FirstRecord.{numbers_of, addresses_of}
use Rattle.descriptor.specs.Refusal.{Rule, Given, AllHold}
use Rattle.descriptor.specs.Rules.{file_refusal}
use Rattle.order.specs.declared.answers.Checked.{Checked}
use Rattle.order.specs.Order.{all_pass, order_refusal, check_of}
use Rattle.written.proofs.Cases.{by_order}
use Rattle.promises.specs.Tables.{validate_tests, entry_rows, order_rows, order_tests, Exactly, reported, FirstToFail, ChecksExactly}
use Rattle.promises.proofs.Scan.{refusal_at, Stops, scan, scan-all, scan-pass, check-refused, check-scans, by-file}
use Rattle.promises.proofs.RefusalMeans.{exactly, numbered-joined, joined, entry-number}

-- a table that gives a refusal does not hold, so the refusal is not 0
not-both : (k : ℕ) (rules : List Rule) → AllHold rules → Given k rules → ⊥
not-both k [] a g = g
not-both k (r ∷ rules) a (inl g) = false≢true (sym g.1 ∙ a.0)
not-both k (r ∷ rules) a (inr g) = not-both k rules a.1 g.1

given-some : {n k : ℕ} {rules : List Rule} → Exactly n rules → Given k rules → 0 < k
given-some {n} {k} {rules} x g =
    let some : k ≡ 0 → ⊥ = λ z. not-both k rules (x.none (x.is k g ∙ z)) g in
    omega arith

module _ (file : List ℕ) where
  abbrev numbers : DescriptorNumbers
  numbers = numbers_of file

  abbrev places : List RecordNumber
  places = addresses_of file numbers.nex

  abbrev entries : ℕ
  entries = entries_before numbers.xnext

  -- the refusal of the file, and of entry e in the check of an admitted file
  file-means : Exactly (file_refusal file) (validate_tests file)
  unfolding file_refusal
  file-means = exactly (file_refusal file) (validate_tests file) (omega arith) refl

  order-means : file_refusal file ≡ 0 → (e : ℕ) → Exactly (refusal_at file numbers places e) (order_tests file (record { 0 = e }))
  unfolding order_refusal file_refusal
  order-means z e =
      let x : EntryNumber = record { 0 = e } in
      let n = refusal_at file numbers places e in
      let opening = entry-number file x in
      let rest = entry_rows file x ++ order_rows file x in
      exactly n (order_tests file x) (numbered-joined (validate_tests file) rest (omega arith) (omega arith))
      (joined n (validate_tests file) rest (omega arith)
      (λ a. joined n (entry_rows file x) (order_rows file x) (omega arith) (λ y. rw (opening ∙ y)) (λ q. rw (ap (λ (m : ℕ). eqb m 0) opening ∙ q) opening))
      (λ q. absurd (eqb-false (file_refusal file) 0 q z)))

  -- an answer that is not 0 and 0 tells where the scan stopped
  stopped : (e k : ℕ) → file_refusal file ≡ 0 → check_of file ≡ reported e k → 0 < e + k → Stops file numbers places 1 entries e k
  stopped e k z q h =
      let answer = sym (check-scans file z) ∙ q in
      elim (scan file numbers places 1 entries) [
        | inl p ↦
            (let same : all_pass ≡ reported e k = sym p.1 ∙ answer in
            let entry : ◌≡◌ {A = ℕ} 0 e = ap (λ (c : Checked). c.entry.0) same in
            let refusal : ◌≡◌ {A = ℕ} 0 k = ap (λ (c : Checked). c.refusal) same in
            absurd (omega arith))
        | inr p ↦
            (let same = sym p.2.answer ∙ answer in
            subst₂ (Stops file numbers places 1 entries) (ap (λ (c : Checked). c.entry.0) same) (ap (λ (c : Checked). c.refusal) same) p.2)
      ]

  -- and where an entry is the first that fails, it stops there
  stops : (e k : ℕ) → file_refusal file ≡ 0 → FirstToFail file e k → check_of file ≡ reported e k
  stops e k z t =
      let refusal : refusal_at file numbers places e ≡ k = (order-means z e).is k t.broken in
      let some = given-some (order-means z e) t.broken in
      let used = t.used in
      elim (scan file numbers places 1 entries) [
        | inl p ↦ absurd (omega (arith, p.0 e t.counted (omega arith)))
        | inr p ↦
            (let s = p.2 in
            let same : p.0 ≡ e =
            by_order p.0 e
            (λ q. q)
            (λ l. absurd (omega (arith, s.refused, s.refusal, (order-means z p.0).accepted (t.before p.0 s.low l))))
            (λ l. absurd (omega (arith, s.before e t.counted l))) in
            check-scans file z ∙ s.answer ∙ ap₂ reported same (sym s.refusal ∙ ap (refusal_at file numbers places) same ∙ refusal))
      ]

  -- the check answers exactly so
  pub check-means : ChecksExactly file (check_of file)
  check-means = record {
    refused = λ k h q.
        by-file file
        (λ z. absurd (omega (arith, (stopped 0 k z q (omega arith)).low)))
        (λ t. file-means.given k h (ap (λ (c : Checked). c.refusal) (sym (check-refused file t) ∙ q)));
    refuses = λ k g.
        let n = file-means.is k g in
        let some = given-some file-means g in
        check-refused file (ne_eqb (file_refusal file) 0 (λ z. omega arith)) ∙ ap (reported 0) n;
    failing = λ e k l q.
        by-file file
        (λ z.
        let s = stopped e k z q (omega arith) in
        record {
          admitted = file-means.none z;
          counted = l;
          used = omega (arith, s.low, s.high);
          before = λ j i m. (order-means z j).none (s.before j i m);
          broken = (order-means z e).given k s.refused s.refusal;
        })
        (λ t. let none : ◌≡◌ {A = ℕ} 0 e = ap (λ (c : Checked). c.entry.0) (sym (check-refused file t) ∙ q) in absurd (omega arith));
    fails = λ e k t. stops e k (file-means.accepted t.admitted) t;
    passed = λ q.
        by-file file
        (λ z. record {
          admitted = file-means.none z;
          entries = λ e l m. (order-means z e).none (scan-all file numbers places 1 entries (sym (check-scans file z) ∙ q) e l (omega arith));
        })
        (λ t. absurd (eqb-false (file_refusal file) 0 t (ap (λ (c : Checked). c.refusal) (sym (check-refused file t) ∙ q))));
    passes = λ a.
        let z = file-means.accepted a.admitted in
        check-scans file z ∙ scan-pass file numbers places 1 entries (λ e l m. (order-means z e).accepted (a.entries e l (omega arith)));
  }
