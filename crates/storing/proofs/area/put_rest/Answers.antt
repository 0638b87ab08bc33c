-- `storing::area::put_rest` meets its contract: zeros around the first slot, then nex and the address; or nothing. Assumes nothing.
use Rattle.std.proofs.Common.{◌≡◌, ◌+◌, ◌≤◌, sym, ◌∙◌, arith}
use Rattle.geometry.specs.Units.{position_of}
use Rattle.placing.specs.Placing.{new_start}
use Rattle.placing.proofs.Places.{new-some, new-small, new-low, new-slot, start-extended, nex-more}
use Rattle.storing.proofs.area.put_rest.Goals as goal
use Rattle.storing.proofs.area.put_rest.Goals.{After-position-slot}

-- the position where the new area starts
here : (c : After-position-slot) → c.position-slot.result ≡ new_start c.args.d
here c = c.position-slot.ensures ∙ (λ i. position_of c.args.d.reclen (c.new_area-area.ensures i) (record { 0 = 1 }))

-- the slot ends at or before the entry
ends : (c : After-position-slot) → c.position-slot.result + c.args.d.lind ≤ c.args.start
ends c = let d = c.args.d in omega (arith, here c, new-slot d c.requires.0, start-extended d (sym c.requires.3 ∙ c.if-extends.true), c.requires.5)

pub position-slot-requires : goal.position-slot-requires
position-slot-requires c =
    let d = c.args.d in
    rw c.new_area-area.ensures (new-some d, omega (arith, new-small d c.requires.0 c.requires.2), omega arith, omega arith, c.requires.0.reclen-high)

pub overflow_add-slot : goal.overflow_add-slot
overflow_add-slot c = omega (arith, ends (goal.at.overflow_add-slot c).After-position-slot, c.requires.6)

pub clear_around-requires : goal.clear_around-requires
clear_around-requires c =
    let p = (goal.at.clear_around-requires c).After-position-slot in
    (omega (arith, here p, new-low c.args.d c.requires.0, c.free_position.ensures), omega arith, ends p, c.requires.6, c.requires.7)

pub put_extension-requires : goal.put_extension-requires
put_extension-requires c =
    let room = nex-more c.args.d c.requires.0 c.requires.4 (sym c.requires.3 ∙ c.if-extends.true) in
    (c.new_area-area.ensures, room.0, omega (arith, room, c.requires.8, c.clear_around.auto.file))
