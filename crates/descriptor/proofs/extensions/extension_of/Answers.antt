-- `descriptor::extensions::extension_of` meets its contract. Assumes nothing.
use Rattle.std.proofs.Common.{◌≡◌, ℕ, ◌+◌, ◌-◌, ◌≤◌, sym, ap, ◌∙◌, arith}
use borrow.Author.Tests.{le-leb, lt-leb}
use Rattle.geometry.specs.Growth.{capacity_of, total_of}
use Rattle.geometry.specs.Totals.{total_before}
use Rattle.geometry.specs.declared.units.RecordNumber.{RecordNumber}
use Rattle.geometry.specs.Units.{index_of}
use Rattle.geometry.proofs.Capacities.{total-last, total-le}
use Rattle.geometry.proofs.TotalTables.{totals-length, before-total}
use Rattle.descriptor.specs.declared.validating.Validated.TheVariants.{Numbers}
use Rattle.descriptor.specs.FirstRecord.{growth_in, addresses_of, aex_of, aex_at}
use Rattle.descriptor.specs.Answers.{no_extension, extension_in, extension_of}
use Rattle.descriptor.proofs.Answered.{Admits, case-told, case-left}
use Rattle.descriptor.proofs.AreaOrder.{aex-stored, area-asks}
use Rattle.descriptor.proofs.extensions.extension_of.Goals as goal
use Rattle.descriptor.proofs.extensions.extension_of.Goals.{In-Numbers, Else-d-number}

-- what the numbers that the call gave show, and so the answer is that of its numbers
shown : (c : In-Numbers) → Admits c.args.file.now c.in-Numbers.d c.admit-case.new.totals
shown c = case-told _ c.admit-case.result c.admit-case.ensures.0 c.admit-case.ensures.1 c.in-Numbers.is

answer : (c : In-Numbers) → let d = c.in-Numbers.d in
    extension_of c.args.file.now c.args.number ≡ extension_in (Numbers d) (addresses_of c.args.file.now d.nex) c.args.number
unfolding extension_of
answer c = rw (shown c).validation

pub returns-in_default : goal.returns-in_default
unfolding extension_of extension_in
returns-in_default c =
    c.refused.ensures ∙ sym (rw (case-left _ c.admit-case.result c.admit-case.ensures.0 c.refusal_of.ensures c.in_default.is).validation)

pub returns-then-number-lt1 : goal.returns-then-number-lt1
unfolding extension_in
returns-then-number-lt1 c =
    let p = (goal.at.returns-then-number-lt1 c).In-Numbers in
    c.refused-then-number-lt1.ensures ∙ ap no_extension c.number.ensures ∙ sym (answer p ∙ rw (lt-leb 1 _ c.if-number-lt1.true))

pub returns-then-d-number : goal.returns-then-d-number
unfolding extension_in
returns-then-d-number c =
    let p = (goal.at.returns-then-d-number c).In-Numbers in
    c.refused-then-d-number.ensures ∙ ap no_extension c.number-then-d-number.ensures ∙ sym (answer p ∙ rw (le-leb 1 _ c.if-number-lt1.false, lt-leb _ c.in-Numbers.d.nex c.if-d-number.true))

-- the extension is one of those in use
used : (p : In-Numbers) → p.args.number.0 ≤ p.in-Numbers.d.nex → p.args.number.0 ≤ 16
used p within = omega (arith, within, (shown p).admitted.admitted.settled.nex-high)

pub total_before-before-requires : goal.total_before-before-requires
total_before-before-requires c =
    let p = (goal.at.total_before-before-requires c).In-Numbers in
    omega (arith, used p c.if-d-number.false, totals-length _ _ (shown p).table)

pub overflow_add-number : goal.overflow_add-number
overflow_add-number c = omega (arith, used (goal.at.overflow_add-number c).In-Numbers c.if-d-number.false)

pub total_before-requires : goal.total_before-requires
total_before-requires c =
    let p = (goal.at.total_before-requires c).In-Numbers in
    omega (arith, used p c.if-d-number.false, totals-length _ _ (shown p).table)

-- the total up to the extension and the total before it
later : (p : In-Numbers) (total : ℕ) → p.args.number.0 ≤ p.in-Numbers.d.nex → 1 ≤ p.args.number.0 →
    total ≡ total_before p.admit-case.new.totals (p.args.number.0 + 1) → total ≡ total_of (growth_in p.in-Numbers.d) p.args.number.0
later p total within counted e =
    let d = p.in-Numbers.d in
    let k = p.args.number.0 in
    let q : k + 1 - 1 ≡ k = omega arith in
    e ∙ before-total (growth_in d) d.nex (shown p).table (shown p).admitted.admitted.settled.nex-high (k + 1) (omega (arith, within)) ∙ ap (total_of (growth_in d)) q

earlier : (p : In-Numbers) (total : ℕ) → p.args.number.0 ≤ p.in-Numbers.d.nex →
    total ≡ total_before p.admit-case.new.totals p.args.number.0 → total ≡ total_of (growth_in p.in-Numbers.d) (p.args.number.0 - 1)
earlier p total within e =
    let d = p.in-Numbers.d in
    e ∙ before-total (growth_in d) d.nex (shown p).table (shown p).admitted.admitted.settled.nex-high p.args.number.0 (omega (arith, within))

pub overflow_sub-capacity : goal.overflow_sub-capacity
overflow_sub-capacity c =
    let p = (goal.at.overflow_sub-capacity c).In-Numbers in
    let d = p.in-Numbers.d in
    let k = p.args.number.0 in
    let less : k - 1 ≤ k = omega arith in
    omega (
      arith,
      later p _ c.if-d-number.false c.if-number-lt1.false c.total_before.ensures,
      earlier p _ c.if-d-number.false c.total_before-before.ensures,
      total-le (growth_in d) (k - 1) k less,
    )

-- the two totals differ by its capacity
capacity : (p : In-Numbers) (before after : ℕ) → p.args.number.0 ≤ p.in-Numbers.d.nex → 1 ≤ p.args.number.0 →
    after ≡ total_before p.admit-case.new.totals (p.args.number.0 + 1) → before ≡ total_before p.admit-case.new.totals p.args.number.0 →
    after - before ≡ capacity_of (growth_in p.in-Numbers.d) p.args.number.0
capacity p before after within counted up to =
    let d = p.in-Numbers.d in
    omega (arith, later p after within counted up, earlier p before within to, total-last (growth_in d) p.args.number.0 counted)

pub aex_in-requires : goal.aex_in-requires
aex_in-requires c =
    let p = (goal.at.aex_in-requires c).In-Numbers in
    let a = (shown p).admitted in
    (a.order, c.if-number-lt1.false, used p c.if-d-number.false, omega (arith, c.if-d-number.false, a.admitted.settled.nex-room, a.admitted.lent.first))

pub area_records-requires : goal.area_records-requires
area_records-requires c =
    let p = (goal.at.area_records-requires c).In-Numbers in
    area-asks _ _ (shown p).admitted.admitted.settled c.if-number-lt1.false c.if-d-number.false
    (capacity p _ _ c.if-d-number.false c.if-number-lt1.false c.total_before.ensures c.total_before-before.ensures)

-- where its area starts
first : (p : In-Numbers) (area : RecordNumber) → p.args.number.0 ≤ p.in-Numbers.d.nex → 1 ≤ p.args.number.0 →
    area ≡ aex_at p.args.file.now (index_of p.args.number) → area ≡ aex_of (addresses_of p.args.file.now p.in-Numbers.d.nex) p.args.number.0
first p area within counted e =
    let k = p.args.number.0 in
    let q : k - 1 + 1 ≡ k = omega (arith, counted) in
    e ∙ (rw q at (sym (aex-stored p.args.file.now p.in-Numbers.d.nex (k - 1) (omega (arith, counted, within)) (shown p).admitted.admitted.settled.nex-high)))

pub returns : goal.returns
unfolding extension_in
returns c =
    let p = (goal.at.returns c).In-Numbers in
    let e = capacity p _ _ c.if-d-number.false c.if-number-lt1.false c.total_before.ensures c.total_before-before.ensures in
    rw (e, first p _ c.if-d-number.false c.if-number-lt1.false c.aex_in.ensures, rw e at c.area_records.ensures)
    (sym (answer p ∙ rw (le-leb 1 _ c.if-number-lt1.false, le-leb _ c.in-Numbers.d.nex c.if-d-number.false)))
