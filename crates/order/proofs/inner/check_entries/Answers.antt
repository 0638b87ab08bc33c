-- `order::inner::check_entries` meets its contract: an entry that fails ends the check, and behind the last all have passed. Assumes nothing.
use Rattle.std.proofs.Common.{◌≡◌, refl, ◌+◌, sym, ap, ◌∙◌, arith, rules}
use borrow.Author.Tests.{ne_eqb}
use Rattle.outcome.proofs.Refusals.{number-positive}
use Rattle.entry.proofs.Entering.{entered-given, entered-not}
use Rattle.descriptor.specs.FirstRecord.{addresses_of}
use Rattle.entry.proofs.OpenedEntry.{known}
use Rattle.order.specs.declared.standing.Standing.{Standing}
use Rattle.order.specs.Standing.{no_standing}
use Rattle.order.specs.Order.{all_pass, checked_all}
use Rattle.order.proofs.Standings.{standing-none, standing-slot}
use Rattle.order.proofs.Checks.{failed, passing-none, passing-all, fails-opening, fails-start, fails-end, passes}
use Rattle.order.proofs.inner.check_entries.Goals as goal
use Rattle.order.proofs.inner.check_entries.Goals.{then-not-starts_in_order-via-then-not-starts_in_order, then-not-starts_in_order-via-else-not-starts_in_order+then-not-ends_in_order}

pub loop-passed-init : goal.loop-passed-init
loop-passed-init c =
    let none : c.default-at.result ≡ no_standing = search rules in
    (passing-none _ _ _ c.entries_before-entries.ensures, none ∙ sym (standing-none _ _))

pub enter_at-requires : goal.enter_at-requires
enter_at-requires c = (
  c.requires.0,
  omega arith,
  omega (arith, c.loop-passed-test.true, c.entries_before-entries.ensures),
  ap (λ (s : Standing). s.slot) c.standing_next-at.ensures ∙ standing-slot _ _ (record { 0 = c.loop-passed.passed + 1 }) (omega arith),
)

pub returns-in-Err : goal.returns-in-Err
returns-in-Err c =
    rw (c.number.ensures)
    (fails-opening _ _ _ c.loop-passed.invariant.0 c.loop-passed-test.true _ (entered-not _ _ _ _ _ c.in-Err.ensures) (ne_eqb _ 0 (number-positive c.in-Err.refusal)))

pub overflow_add-end : goal.overflow_add-end
overflow_add-end c =
    let a = c.requires.0.admitted in
    omega (arith, (known _ _ _ _ _ a (entered-given _ _ _ _ c.in-Ok.ensures) refl).ends, a.lent.high)

pub returns-then-not-starts_in_order : goal.returns-then-not-starts_in_order
returns-then-not-starts_in_order c =
    let x = entered-given _ _ _ _ c.in-Ok.ensures in
    let inv = c.loop-passed.invariant.0 in
    let left = c.loop-passed-test.true in
    let starts = c.starts_in_order.ensures in
    rw c.number-then-not-starts_in_order.ensures
    (elim c.then-not-starts_in_order.branch as (λ _. failed (c.loop-passed.passed + 1) 25 ≡ checked_all c.args.file.now c.args.d (addresses_of c.args.file.now c.args.d.nex)) [
      | then-not-starts_in_order-via-then-not-starts_in_order w ↦ fails-start _ _ _ inv left _ x refl starts w.if-not-starts_in_order.true
      | then-not-starts_in_order-via-else-not-starts_in_order+then-not-ends_in_order w ↦
          fails-end _ _ _ inv left _ x refl starts w.if-not-starts_in_order.false w.ends_in_order.ensures w.if-not-ends_in_order.true
    ])

pub loop-passed-preserved : goal.loop-passed-preserved
loop-passed-preserved c =
    let x = entered-given _ _ _ _ c.in-Ok.ensures in (
      passes _ _ _ c.loop-passed.invariant.0 c.loop-passed-test.true _ x refl c.starts_in_order.ensures c.if-not-starts_in_order.false
          c.ends_in_order.ensures c.if-not-ends_in_order.false,
      c.standing_next-at.ensures,
    )

pub returns : goal.returns
returns c =
    let all : c.default.result ≡ all_pass = search rules in
    all ∙ passing-all _ _ _ c.loop-passed.invariant.0 (omega arith)
