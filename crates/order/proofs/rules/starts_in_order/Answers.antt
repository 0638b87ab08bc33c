-- `order::rules::starts_in_order` meets its contract. Assumes nothing.
use Rattle.std.proofs.Common.{ℕ, ◌≡◌, ◌+◌, ◌*◌, ◌^◌, ◌<◌, sym, ap, ◌∙◌, arith}
use lib.Dec.{leb}
use Rattle.descriptor.specs.FirstRecord.{addresses_of}
use Rattle.descriptor.specs.Areas.{area_end_of}
use Rattle.descriptor.proofs.AreaOrder.{area-asks}
use Rattle.order.proofs.Standings.{said}
use Rattle.order.proofs.Borders.{own-capacity, area-room, area-behind, starts_first, starts_other}
use Rattle.order.proofs.rules.starts_in_order.Goals as goal
use Rattle.order.proofs.rules.starts_in_order.Goals.{After-area_records-records}

-- what the code adds is where the area ends
sum : (c : After-area_records-records) → c.args.at.slot + c.area_records-records.result * c.args.d.reclen ≡ area_end_of c.args.d (addresses_of c.args.file.now c.args.d.nex) c.args.at.extension.0
sum c = area-behind _ _ c.requires c.if-number-at.true c.area_records-records.ensures

-- which is no large number
room : (c : After-area_records-records) → c.args.at.slot + c.area_records-records.result * c.args.d.reclen < 2 ^ 32
room c = rw (sum c) (area-room _ _ c.requires)

pub overflow_add-at : goal.overflow_add-at
overflow_add-at c = let s = said _ _ c.requires in omega (arith, s.before, s.held.behind, c.requires.used.high)

pub overflow_sub-at : goal.overflow_sub-at
overflow_sub-at c = let s = said _ _ c.requires in omega (arith, s.before, s.total, s.held.behind, s.held.reached)

pub area_records-records-requires : goal.area_records-records-requires
area_records-records-requires c =
    let s = said _ _ c.requires in
    area-asks _ _ c.requires.used.admitted.admitted.settled s.held.counted s.used (own-capacity _ _ c.requires)

pub overflow_mul-result : goal.overflow_mul-result
overflow_mul-result c = omega (arith, room (goal.at.overflow_mul-result c).After-area_records-records)

pub overflow_add-result : goal.overflow_add-result
overflow_add-result c = omega (arith, room (goal.at.overflow_add-result c).After-area_records-records)

pub returns-then-number-at : goal.returns-then-number-at
returns-then-number-at c =
    ap (λ (n : ℕ). leb n c.args.start) (sum (goal.at.returns-then-number-at c).After-area_records-records) ∙ sym (starts_first _ _ c.requires _ _ c.if-number-at.true)

pub returns : goal.returns
returns c = sym (starts_other _ _ c.requires _ _ c.if-number-at.false)
