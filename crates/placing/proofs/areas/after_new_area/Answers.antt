-- `placing::areas::after_new_area` meets its contract. Assumes nothing.
use Rattle.std.proofs.Common.{◌≡◌, ◌+◌, ap, arith}
use Rattle.geometry.specs.declared.units.RecordNumber.{RecordNumber}
use Rattle.geometry.specs.Growth.{capacity_of}
use Rattle.geometry.specs.Area.{area_records}
use Rattle.descriptor.specs.FirstRecord.{growth_in}
use Rattle.placing.specs.Placing.{after_new_area}
use Rattle.placing.proofs.Places.{after_small}
use Rattle.placing.proofs.areas.after_new_area.Goals as goal
use Rattle.placing.proofs.areas.after_new_area.Goals.{After-area_records}

-- the records of the new area, by the capacity of its extension
records : (c : After-area_records) → let d = c.args.d in c.area_records.result ≡ area_records (capacity_of (growth_in d) (d.nex + 1)) d.lind d.reclen
records c =
    let own : c.capacity-entries.result ≡ capacity_of (growth_in c.args.d) (c.args.d.nex + 1) = rw c.new.ensures at c.capacity-entries.ensures in
    rw own at c.area_records.ensures

pub overflow_add-result : goal.overflow_add-result
unfolding after_new_area
overflow_add-result c =
    omega (arith, ap (λ (r : RecordNumber). r.0) c.new_area.ensures, records (goal.at.overflow_add-result c).After-area_records, after_small c.args.d c.requires.0 c.requires.2 c.requires.4)

pub returns : goal.returns
unfolding after_new_area
returns c = rw (c.new_area.ensures, records (goal.at.returns c).After-area_records)
