-- `placing::areas::entry_start` meets its contract. Assumes nothing.
use Rattle.std.proofs.Common.{sym, ◌∙◌, arith}
use Rattle.placing.specs.Placing.{new_area, after_new_area}
use Rattle.placing.proofs.Places.{nex-more, after_small, start-extended, start-free}
use Rattle.placing.proofs.areas.entry_start.Goals as goal

pub after_new_area-requires : goal.after_new_area-requires
after_new_area-requires c =
    let p = c.requires in
    let extended = sym p.3 ∙ c.if-extends.true in
    (p.0, p.1, p.2, (nex-more c.args.d p.0 p.4 extended).0, p.4.within extended)

pub position-requires : goal.position-requires
unfolding new_area after_new_area
position-requires c =
    let p = c.requires in
    let small = after_small c.args.d p.0 p.2 (p.4.within (sym p.3 ∙ c.if-extends.true)) in
    rw c.after_new_area.ensures (omega (arith, small, p.0.reclen-high))

pub returns-then-extends : goal.returns-then-extends
returns-then-extends c = rw (start-extended c.args.d (sym c.requires.3 ∙ c.if-extends.true)) (rw c.after_new_area.ensures at c.position.ensures)

pub returns : goal.returns
returns c = c.free_position.ensures ∙ sym (start-free c.args.d (sym c.requires.3 ∙ c.if-extends.false))
