-- `order::standing::standing_next` meets its contract. Assumes nothing.
use Rattle.std.proofs.Common.{◌≡◌, ◌+◌, ◌≤◌, length, ap, ◌∙◌, arith}
use native.Mathlib.Nat.{add-sub_cancel}
use Rattle.geometry.specs.declared.units.RecordNumber.{RecordNumber}
use Rattle.geometry.specs.Units.{position_of}
use Rattle.geometry.specs.Growth.{total_of}
use Rattle.geometry.proofs.TotalTables.{totals-length, before-total}
use Rattle.descriptor.specs.FirstRecord.{addresses_of, aex_of, growth_in}
use Rattle.descriptor.proofs.AreaOrder.{area-first}
use Rattle.order.proofs.Standings.{area-read, next-used, next-standing, same-standing, same-room}
use Rattle.order.proofs.standing.standing_next.Goals as goal
use Rattle.order.proofs.standing.standing_next.Goals.{Then-at-number, After-aex_in-first}

-- the next extension is in use
used : (c : Then-at-number) → c.args.at.extension.0 + 1 ≤ c.args.d.nex
used c = next-used _ _ c.requires.0 c.if-at-number.true

-- its area starts where the file says
first : (c : After-aex_in-first) → c.aex_in-first.result ≡ aex_of (addresses_of c.args.file.now c.args.d.nex) (c.args.at.extension.0 + 1)
first c = area-read c.args.file.now c.args.d c.requires.0.used.admitted _ (omega arith) (next-used _ _ c.requires.0 c.if-at-number.true) c.aex_in-first.ensures

pub overflow_add-next : goal.overflow_add-next
overflow_add-next c = omega (arith, used (goal.at.overflow_add-next c).Then-at-number, c.requires.0.used.admitted.admitted.settled.nex-high)

pub aex_in-first-requires : goal.aex_in-first-requires
aex_in-first-requires c =
    let a = c.requires.0.used.admitted in
    let u = used (goal.at.aex_in-first-requires c).Then-at-number in
    (a.order, omega arith, omega (arith, u, a.admitted.settled.nex-high), omega (arith, u, a.admitted.settled.nex-room, a.admitted.lent.first))

pub overflow_add-next-then-at-number : goal.overflow_add-next-then-at-number
overflow_add-next-then-at-number c = omega (arith, used (goal.at.overflow_add-next-then-at-number c).Then-at-number, c.requires.0.used.admitted.admitted.settled.nex-high)

pub total_before-requires : goal.total_before-requires
total_before-requires c =
    omega (arith, used (goal.at.total_before-requires c).Then-at-number, c.requires.0.used.admitted.admitted.settled.nex-high, totals-length (growth_in c.args.d) c.args.d.nex c.requires.1)

pub position-requires : goal.position-requires
position-requires c =
    let a = c.requires.0.used.admitted.admitted in
    let u = used (goal.at.position-requires c).Then-at-number in
    rw (first (goal.at.position-requires c).After-aex_in-first) (omega (arith, area-first (length c.args.file.now) c.args.d _ a _ (omega arith) u, a.settled.reclen-high))

pub returns-then-at-number : goal.returns-then-at-number
returns-then-at-number c =
    let d = c.args.d in
    let u = used (goal.at.returns-then-at-number c).Then-at-number in
    next-standing _ _ c.requires.0 c.if-at-number.true
    (c.total_before.ensures ∙ before-total (growth_in d) d.nex c.requires.1 c.requires.0.used.admitted.admitted.settled.nex-high _ (omega (arith, u)) ∙ ap (total_of (growth_in d)) (add-sub_cancel _ 1))
    (c.position.ensures ∙ ap (λ (r : RecordNumber). position_of d.reclen r (record { 0 = 1 })) (first (goal.at.returns-then-at-number c).After-aex_in-first))

pub overflow_add-result : goal.overflow_add-result
overflow_add-result c = omega (arith, same-room _ _ c.requires.0 c.if-at-number.false)

pub returns : goal.returns
returns c = same-standing _ _ c.requires.0 c.if-at-number.false
