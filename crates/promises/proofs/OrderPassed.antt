-- What a passed order check says of each entry: it opens, and stands behind its extension's area or the entry before it, and before the next area. Assumes nothing.
use Prim.Native.Nat.{ℕ, ◌+◌, ◌-◌, ◌≤◌, ◌<◌}
use mathlib.Core.Path.{◌≡◌, sym, ap, ◌∙◌}
use mathlib.Core.Bool.{true, cond}
use mathlib.Core.List.{List}
use native.Mathlib.Omega.{arith}
use borrow.Author.Tests.{eqb-true, eqb-false, eq-eqb, ne_eqb, lt-ltb, leb-true, le-leb, ltb-true}
use lib.Dec.{eqb, ltb}
use Rattle.geometry.specs.declared.units.RecordNumber.{RecordNumber}
use Rattle.geometry.specs.declared.area.Slot.{Slot}
use Rattle.geometry.specs.Units.{entries_before}
use Rattle.geometry.specs.Growth.{capacity_of}
use Rattle.geometry.specs.Area.{slot_of}
use Rattle.descriptor.specs.declared.numbers.DescriptorNumbers.{DescriptorNumbers}
use Rattle.descriptor.specs.FirstRecord.{numbers_of, addresses_of, growth_in}
use Rattle.descriptor.specs.Refusal.{refusal_in}
use Rattle.descriptor.specs.Rules.{file_refusal}
use Rattle.descriptor.proofs.Refusals.{all_hold}
use Rattle.entry.specs.Opening.{entry_refusal, end_of}
use Rattle.entry.proofs.Entering.{entered-refusal}
use Rattle.order.specs.declared.answers.Checked.{Checked}
use Rattle.descriptor.specs.Areas.{area_start_of, area_end_of}
use Rattle.order.specs.Order.{starts_in_order, ends_in_order, order_rules, order_refusal, all_pass, checked_in, check_of}
use Rattle.outcome.proofs.Either.{either}
use Rattle.descriptor.specs.Answers.{Validates}
use Rattle.promises.proofs.Scan.{scan-all, scan-pass, check-refused, check-scans, by-file}
use Rattle.promises.proofs.Spread.{entry_at}

-- the slot of entry e among those of validated numbers
abbrev pub slot_at : DescriptorNumbers → ℕ → Slot
slot_at d e = slot_of (growth_in d) d.nex d.lind (record { 0 = e })

-- what holds of entry e once the check has passed it
pub record Passed (file : List ℕ) (d : DescriptorNumbers) (addresses : List RecordNumber) (e : ℕ) : Type 0 where
  pub opens : entry_refusal file d addresses (record { 0 = e }) ≡ 0
  pub first : (slot_at d e).place ≡ 1 → area_end_of d addresses (slot_at d e).extension.0 ≤ (entry_at file d addresses e).start
  pub next : ((slot_at d e).place ≡ 1 → ⊥) → end_of (entry_at file d addresses (e - 1)) ≤ (entry_at file d addresses e).start
  pub last : (slot_at d e).place ≡ capacity_of (growth_in d) (slot_at d e).extension.0 → (slot_at d e).extension.0 < d.nex
      → end_of (entry_at file d addresses e) ≤ area_start_of d addresses ((slot_at d e).extension.0 + 1)

-- ---- one entry

-- the two tests hold where what they ask for does
module _ (d : DescriptorNumbers) (addresses : List RecordNumber) (slot : Slot) where
  starts-pass : (before start : ℕ) → (slot.place ≡ 1 → area_end_of d addresses slot.extension.0 ≤ start) → ((slot.place ≡ 1 → ⊥) → before ≤ start)
      → starts_in_order d addresses slot before start ≡ true
  unfolding starts_in_order
  starts-pass before start f g =
      either (eqb slot.place 1)
      (λ q. rw q (le-leb (area_end_of d addresses slot.extension.0) start (f (eqb-true slot.place 1 q))))
      (λ q. rw q (le-leb before start (g (eqb-false slot.place 1 q))))

  ends-pass : (end : ℕ) → (slot.place ≡ capacity_of (growth_in d) slot.extension.0 → slot.extension.0 < d.nex → end ≤ area_start_of d addresses (slot.extension.0 + 1))
      → ends_in_order d addresses slot end ≡ true
  unfolding ends_in_order
  ends-pass end f =
      let k = slot.extension.0 in
      let capacity = capacity_of (growth_in d) k in
      either (eqb slot.place capacity)
      (λ p. either (ltb k d.nex)
      (λ q. rw (p, q) (le-leb end (area_start_of d addresses (k + 1)) (f (eqb-true slot.place capacity p) (ltb-true k d.nex q))))
      (λ q. rw (p, q)))
      (λ p. rw p)

-- a refusal that comes second
second_none : (n m : ℕ) → cond (eqb n 0) m n ≡ 0 → (n ≡ 0) × (m ≡ 0)
second_none n m e =
    either (eqb n 0)
    (λ q. (eqb-true n 0 q, rw q at e))
    (λ q. absurd (eqb-false n 0 q (rw q at e)))

module _ (file : List ℕ) (d : DescriptorNumbers) (addresses : List RecordNumber) where
  -- an entry with no refusal is passed
  pub passed : (e : ℕ) → order_refusal file d addresses (record { 0 = e }) ≡ 0 → Passed file d addresses e
  unfolding order_refusal starts_in_order ends_in_order
  passed e z =
      let slot = slot_at d e in
      let k = slot.extension.0 in
      let this = entry_at file d addresses e in
      let both = second_none this.refusal (refusal_in (order_rules file d addresses (record { 0 = e }))) z in
      let rows = all_hold (order_rules file d addresses (record { 0 = e })) (omega arith) both.1 in
      record {
        opens = sym (entered-refusal file d addresses (record { 0 = e })) ∙ both.0;
        first = λ p. leb-true (area_end_of d addresses k) this.start (rw (eq-eqb slot.place 1 p) at rows.0);
        next = λ p. leb-true (end_of (entry_at file d addresses (e - 1))) this.start (rw (ne_eqb slot.place 1 p) at rows.0);
        last = λ p l. leb-true (end_of this) (area_start_of d addresses (k + 1)) (rw (eq-eqb slot.place (capacity_of (growth_in d) k) p, lt-ltb k d.nex l) at rows.1.0);
      }

  -- and back: an entry of which these hold is passed
  pub passes : (e : ℕ) → Passed file d addresses e → order_refusal file d addresses (record { 0 = e }) ≡ 0
  unfolding order_refusal
  passes e p =
      let slot = slot_at d e in
      let opening = entered-refusal file d addresses (record { 0 = e }) ∙ p.opens in
      let starts = starts-pass d addresses slot (end_of (entry_at file d addresses (e - 1))) (entry_at file d addresses e).start p.first p.next in
      let ends = ends-pass d addresses slot (end_of (entry_at file d addresses e)) p.last in
      rw (opening, starts, ends)

  -- a file with these numbers, of all of whose entries these hold, passes the check
  pub check-passes : Validates file d addresses → ((e : ℕ) → 1 ≤ e → e ≤ entries_before d.xnext → Passed file d addresses e) → check_of file ≡ all_pass
  unfolding check_of checked_in
  check-passes v all = rw v (scan-pass file d addresses 1 (entries_before d.xnext) (λ e l h. passes e (all e l (omega arith))))

-- a file that passes the check is admitted, and so is each of its entries
pub check-passed : (file : List ℕ) → check_of file ≡ all_pass
    → (file_refusal file ≡ 0)
    × ((e : ℕ) → 1 ≤ e → e ≤ entries_before (numbers_of file).xnext → Passed file (numbers_of file) (addresses_of file (numbers_of file).nex) e)
check-passed file c =
    by-file file
    (λ z. (z, λ e l h. passed file _ _ e (scan-all file _ _ 1 (entries_before (numbers_of file).xnext) (sym (check-scans file z) ∙ c) e l (omega arith))))
    (λ q. absurd (eqb-false (file_refusal file) 0 q (ap (λ (x : Checked). x.refusal) (sym (check-refused file q) ∙ c))))
