-- Laws of the order check: what it knows behind each entry that it passes, and what ends it. Assumes nothing.
use Prim.Native.Nat.{ℕ, zero, suc, ◌+◌, ◌-◌, ◌≤◌, ◌<◌}
use mathlib.Core.Path.{◌≡◌, refl, sym, ap, ◌∙◌}
use mathlib.Core.Bool.{Bool, true, false, cond}
use mathlib.Core.List.{List, [], ◌∷◌}
use native.Mathlib.Omega.{arith}
use lib.Dec.{eqb}
use Rattle.geometry.specs.declared.units.RecordNumber.{RecordNumber}
use Rattle.geometry.specs.declared.area.Slot.{Slot}
use Rattle.geometry.specs.Units.{entries_before}
use Rattle.geometry.specs.Area.{slot_of}
use Rattle.descriptor.specs.declared.numbers.DescriptorNumbers.{DescriptorNumbers}
use Rattle.descriptor.specs.Refusal.{row, refusal_in}
use Rattle.descriptor.specs.FirstRecord.{growth_in}
use Rattle.descriptor.specs.Answers.{validation_of, no_validation, Validates}
use Rattle.descriptor.proofs.Tests.{holds, broken}
use Rattle.entry.specs.Entered.{Entered}
use Rattle.entry.specs.Opening.{entered_of, end_of}
use Rattle.entry.proofs.Entering.{entry-number, entered-refused}
use Rattle.order.specs.declared.answers.Checked.{Checked}
use Rattle.order.specs.Order.{starts_in_order, ends_in_order, order_refusal, all_pass, checked_from, checked_all, checked_in, check_of}

-- the answer of a check that entry k ends with refusal n
abbrev pub failed : ℕ → ℕ → Checked
failed k n = record { entry = record { 0 = k }; refusal = n }

module _ (file : List ℕ) (d : DescriptorNumbers) (addresses : List RecordNumber) where
  -- entry k as it opens
  abbrev pub entry_at : ℕ → Entered
  entry_at k = entered_of file d addresses (record { 0 = k })

  -- with no entry left all have passed
  pub scan-none : (k : ℕ) → checked_from file d addresses k 0 ≡ all_pass
  unfolding checked_from
  scan-none k = refl

  -- an entry that passes is passed over, and one that fails ends the check
  scan : (k left n : ℕ) → 1 ≤ left → order_refusal file d addresses (record { 0 = k }) ≡ n → checked_from file d addresses k left ≡ cond (eqb n 0) (checked_from file d addresses (k + 1) (left - 1)) (failed k n)
  unfolding checked_from
  scan k zero n h e = absurd (omega arith)
  scan k (suc left) n h e = let q : suc left - 1 ≡ left = omega arith in rw (e, q)

  -- what the check knows behind the entries that it passed: the last of them ends at `end`, and the check of all is that of the others
  pub record Passing (entries passed end : ℕ) : Type 0 where
    pub few : passed ≤ entries
    pub last : end ≡ end_of (entry_at passed)
    pub rest : checked_all file d addresses ≡ checked_from file d addresses (passed + 1) (entries - passed)

  -- it knows that before entry 1, where there is nothing
  pub passing-none : {entries : ℕ} → entries ≡ entries_before d.xnext → Passing entries 0 0
  passing-none {entries} e =
      let none = entered-refused file d addresses (record { 0 = 0 }) 12 (entry-number file d addresses (record { 0 = 0 }) refl) refl in
      let all : entries_before d.xnext ≡ entries - 0 = omega arith in
      record { few = omega arith; last = sym (ap end_of none); rest = rw all }

  -- behind the last entry all have passed
  pub passing-all : {entries passed end : ℕ} → Passing entries passed end → entries ≤ passed → all_pass ≡ checked_all file d addresses
  passing-all {entries} {passed} p h =
      let q : entries - passed ≡ 0 = omega arith in
      sym (p.rest ∙ rw q (scan-none (passed + 1)))

  -- the next entry, x as it opens
  module _ {entries passed end : ℕ} (p : Passing entries passed end) (left : passed < entries) (x : Entered) (is : x ≡ entry_at (passed + 1)) where
    ended : (n : ℕ) → order_refusal file d addresses (record { 0 = passed + 1 }) ≡ n → eqb n 0 ≡ false → failed (passed + 1) n ≡ checked_all file d addresses
    ended n e o = sym (p.rest ∙ scan (passed + 1) (entries - passed) n (omega arith) e ∙ rw o)

    -- where it does not open, its own refusal ends the check
    pub fails-opening : eqb x.refusal 0 ≡ false → failed (passed + 1) x.refusal ≡ checked_all file d addresses
    unfolding order_refusal
    fails-opening o = ended x.refusal (rw (← is, o)) o

    -- where it opens, rule 25 for it and its slot
    module _ (opens : x.refusal ≡ 0) where
      -- its slot
      abbrev slot : Slot
      slot = slot_of (growth_in d) d.nex d.lind (record { 0 = passed + 1 })

      tested : order_refusal file d addresses (record { 0 = passed + 1 })
          ≡ refusal_in (row 25 (starts_in_order d addresses slot end x.start) ∷ row 25 (ends_in_order d addresses slot (end_of x)) ∷ [])
      unfolding order_refusal
      tested = let q : passed + 1 - 1 ≡ passed = omega arith in rw (← is, opens, q, ← p.last)

      -- the code's first test finds that it starts too early
      pub fails-start : {r : Bool} → r ≡ starts_in_order d addresses slot end x.start → r ≡ false → failed (passed + 1) 25 ≡ checked_all file d addresses
      fails-start t n = let s = broken t n in ended 25 (tested ∙ rw s) refl

      module _ {r q : Bool} (t : r ≡ starts_in_order d addresses slot end x.start) (starts : r ≡ true) (u : q ≡ ends_in_order d addresses slot (end_of x)) where
        -- its second test finds that it ends too late
        pub fails-end : q ≡ false → failed (passed + 1) 25 ≡ checked_all file d addresses
        fails-end n = let s = holds t starts in let e = broken u n in ended 25 (tested ∙ rw (s, e)) refl

        -- it passes both
        pub passes : q ≡ true → Passing entries (passed + 1) (end_of x)
        passes n =
            let s = holds t starts in
            let e = holds u n in
            let less : entries - (passed + 1) ≡ entries - passed - 1 = omega arith in
            record { few = omega arith; last = ap end_of is; rest = p.rest ∙ rw less (scan (passed + 1) (entries - passed) 0 (omega arith) (tested ∙ rw (s, e))) }

-- the check, by the validation
module _ (file : List ℕ) where
  -- a file that is refused has no entry that is looked at
  pub check-refused : {n : ℕ} → validation_of file ≡ no_validation n → failed 0 n ≡ check_of file
  unfolding check_of checked_in
  check-refused q = rw q

  -- and else all its entries are checked
  pub check-numbers : {d : DescriptorNumbers} {addresses : List RecordNumber} → Validates file d addresses → checked_all file d addresses ≡ check_of file
  unfolding check_of checked_in
  check-numbers q = rw q
