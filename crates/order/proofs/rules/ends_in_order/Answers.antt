-- `order::rules::ends_in_order` meets its contract. Assumes nothing.
use Rattle.std.proofs.Common.{◌≡◌, ◌+◌, length, sym, ap, ◌∙◌, arith}
use lib.Dec.{leb}
use Rattle.geometry.specs.declared.units.RecordNumber.{RecordNumber}
use Rattle.geometry.specs.Units.{position_of}
use Rattle.descriptor.specs.FirstRecord.{addresses_of, aex_of}
use Rattle.descriptor.proofs.AreaOrder.{area-first}
use Rattle.order.proofs.Standings.{area-read}
use Rattle.order.proofs.Borders.{ends-other, ends-all, ends_last}
use Rattle.order.proofs.rules.ends_in_order.Goals as goal
use Rattle.order.proofs.rules.ends_in_order.Goals.{After-aex_in-next}

-- the next area starts where the file says
first : (c : After-aex_in-next) → c.aex_in-next.result ≡ aex_of (addresses_of c.args.file.now c.args.d.nex) (c.args.at.extension.0 + 1)
first c = area-read c.args.file.now c.args.d c.requires.used.admitted _ (omega arith) (omega arith) c.aex_in-next.ensures

pub returns-then-number-at : goal.returns-then-number-at
returns-then-number-at c = sym (ends-other _ _ c.requires _ c.if-number-at.true)

pub returns-then-d-at : goal.returns-then-d-at
returns-then-d-at c = sym (ends-all _ _ c.requires _ c.if-number-at.false (omega arith))

pub position-requires : goal.position-requires
position-requires c =
    let a = c.requires.used.admitted.admitted in
    rw (first (goal.at.position-requires c).After-aex_in-next)
    (omega (arith, area-first (length c.args.file.now) c.args.d _ a (c.args.at.extension.0 + 1) (omega arith) (omega arith), a.settled.reclen-high))

pub returns : goal.returns
returns c =
    let next = c.position.ensures ∙ ap (λ (r : RecordNumber). position_of c.args.d.reclen r (record { 0 = 1 })) (first (goal.at.returns c).After-aex_in-next) in
    ap (leb c.args.end) next ∙ sym (ends_last _ _ c.requires _ c.if-number-at.false (omega arith))
