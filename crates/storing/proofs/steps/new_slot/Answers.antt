-- `storing::steps::new_slot` meets its contract: slot 1 of a new area, or the next one of the last area in use. Assumes nothing.
use Rattle.std.proofs.Common.{◌≡◌, ◌+◌, ◌-◌, ◌*◌, ◌/◌, ◌≤◌, length, sym, ap, ◌∙◌, arith}
use native.Mathlib.Nat.{mul-le-mul}
use Rattle.geometry.specs.declared.units.RecordNumber.{RecordNumber}
use Rattle.geometry.specs.Units.{position_of, entries_before}
use Rattle.geometry.specs.Growth.{total_of}
use Rattle.geometry.proofs.Capacities.{capacity-limit, total-last}
use Rattle.geometry.proofs.Slots.{Holds}
use Rattle.geometry.proofs.TotalTables.{totals-length, before-total}
use Rattle.entry.specs.Opening.{slot_position_of}
use Rattle.descriptor.specs.FirstRecord.{growth_in, addresses_of, aex_of}
use Rattle.descriptor.proofs.AreaOrder.{aex-stored, area-first}
use Rattle.descriptor.proofs.Admitting.{free-small}
use Rattle.placing.specs.Placing.{entry_start, numbers_after, addresses_after}
use Rattle.placing.proofs.Places.{new-some, new-small, start-free}
use Rattle.storing.proofs.Accepting.{held_next, slot-before, slot-new, slot_next}
use Rattle.storing.proofs.steps.new_slot.Goals as goal
use Rattle.storing.proofs.steps.new_slot.Goals.{After-aex_in-first, After-total_before, After-position-2}

-- where no new area is needed, the last extension in use holds the new entry
held : (c : After-aex_in-first) → let d = c.args.d in Holds (growth_in d) d.xnext.0 d.nex
held c = held_next _ c.args.d _ c.requires.0.admitted (sym c.requires.2 ∙ c.if-extends.false)

-- its area starts where the file says
first : (c : After-aex_in-first) → let a = c.args in c.aex_in-first.result ≡ aex_of (addresses_of a.file.now a.d.nex) a.d.nex
first c =
    let k = c.args.d.nex in
    let some = (held c).counted in
    let q : k - 1 + 1 ≡ k = omega arith in
    c.aex_in-first.ensures ∙ (rw q at (sym (aex-stored c.args.file.now k (k - 1) (omega arith) c.requires.0.admitted.settled.nex-high)))

-- what the code counts before it in that area
before : (c : After-total_before) → let d = c.args.d in c.total_before.result ≡ total_of (growth_in d) (d.nex - 1)
before c =
    let d = c.args.d in
    c.total_before.ensures ∙ before-total (growth_in d) d.nex c.requires.1 c.requires.0.admitted.settled.nex-high d.nex (omega arith)

counted : (c : After-total_before) → let d = c.args.d in c.entries_before.result - c.total_before.result ≡ entries_before d.xnext - total_of (growth_in d) (d.nex - 1)
counted c = λ j. c.entries_before.ensures j - before c j

-- what the code adds is the slot's position
sum : (c : After-position-2) → let d = c.args.d in c.position-2.result + (c.entries_before.result - c.total_before.result) * d.lind
    ≡ slot_position_of (numbers_after d (entry_start d)) (addresses_after d (addresses_of c.args.file.now d.nex)) d.xnext
sum c =
    let p = (goal.at.After-position-2 c).After-total_before in
    let d = c.args.d in
    let area = c.position-2.ensures ∙ ap (λ (r : RecordNumber). position_of d.reclen r (record { 0 = 1 })) (first (goal.at.After-position-2 c).After-aex_in-first) in
    (λ j. area j + counted p j * d.lind) ∙ sym (slot_next _ d _ c.requires.0.admitted c.requires.3 (entry_start d) (sym c.requires.2 ∙ c.if-extends.false))

pub position-requires : goal.position-requires
position-requires c =
    let d = c.args.d in
    let a = c.requires.0.admitted in
    rw c.new_area.ensures (new-some d, omega (arith, new-small d a.settled (free-small _ _ _ a)), omega arith, omega arith, a.settled.reclen-high)

pub returns-then-extends : goal.returns-then-extends
returns-then-extends c =
    let d = c.args.d in
    c.position.ensures ∙ (λ i. position_of d.reclen (c.new_area.ensures i) (record { 0 = 1 }))
    ∙ sym (slot-new _ d _ c.requires.0.admitted c.requires.3 (entry_start d) (sym c.requires.2 ∙ c.if-extends.true))

pub aex_in-first-requires : goal.aex_in-first-requires
aex_in-first-requires c =
    let a = c.requires.0.admitted in
    (c.requires.0.order, (held_next _ c.args.d _ a (sym c.requires.2 ∙ c.if-extends.false)).counted, a.settled.nex-high, omega (arith, a.settled.nex-room, a.lent.first))

pub total_before-requires : goal.total_before-requires
total_before-requires c = omega (arith, c.requires.0.admitted.settled.nex-high, totals-length _ _ c.requires.1)

pub overflow_sub-before : goal.overflow_sub-before
overflow_sub-before c =
    let t = goal.at.overflow_sub-before c in
    omega (arith, c.entries_before.ensures, before t.After-total_before, (held t.After-aex_in-first).behind)

pub position-requires-2 : goal.position-requires-2
position-requires-2 c =
    let t = (goal.at.position-requires-2 c).After-aex_in-first in
    let d = c.args.d in
    let a = c.requires.0.admitted in
    rw (first t) (omega (arith, area-first _ d _ a d.nex (held t).counted (omega arith), a.settled.reclen-high))

pub overflow_mul-result : goal.overflow_mul-result
overflow_mul-result c =
    let t = goal.at.overflow_mul-result c in
    let h = held t.After-aex_in-first in
    let d = c.args.d in
    let a = c.requires.0.admitted in
    let own = capacity-limit (growth_in d) d.nex d.nex h.counted (omega arith) a.settled.within in
    let near : c.entries_before.result - c.total_before.result ≤ 16384 = omega (arith, counted t.After-total_before, h.reached, total-last (growth_in d) d.nex h.counted) in
    omega (arith, mul-le-mul near a.settled.lind-high)

pub overflow_add-result : goal.overflow_add-result
overflow_add-result c =
    let d = c.args.d in
    let a = c.requires.0.admitted in
    let inside : entry_start d ≤ length c.args.file.now / 4 = omega (arith, start-free d (sym c.requires.2 ∙ c.if-extends.false), a.room) in
    omega (arith, sum (goal.at.overflow_add-result c).After-position-2, slot-before _ d _ a c.requires.3 inside, a.lent.high)

pub returns : goal.returns
returns c = sum (goal.at.returns c).After-position-2
