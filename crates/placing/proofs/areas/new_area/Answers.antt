-- `placing::areas::new_area` meets its contract. Assumes nothing.
use Rattle.std.proofs.Common.{◌≡◌, arith}
use Rattle.geometry.specs.Area.{records_for}
use Rattle.descriptor.specs.FirstRecord.{free_of}
use Rattle.placing.specs.Placing.{new_area}
use Rattle.placing.proofs.Places.{new-small}
use Rattle.placing.proofs.areas.new_area.Goals as goal
use Rattle.placing.proofs.areas.new_area.Goals.{After-records_for}

records : (c : After-records_for) → c.records_for.result ≡ records_for (free_of c.args.d) c.args.d.reclen
records c = rw c.free_position.ensures at c.records_for.ensures

pub overflow_add-result : goal.overflow_add-result
unfolding new_area
overflow_add-result c = omega (arith, records (goal.at.overflow_add-result c).After-records_for, new-small c.args.d c.requires.0 c.requires.2)

pub returns : goal.returns
unfolding new_area
returns c = rw (records (goal.at.returns c).After-records_for)
