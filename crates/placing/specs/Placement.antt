-- The place of an entry: where it starts, and whether a new extension is made for it.
use Rattle.descriptor.specs.declared.numbers.DescriptorNumbers.{DescriptorNumbers}
use Rattle.placing.specs.declared.placement.Placement.{Placement}
use Rattle.placing.specs.Placing.{full, entry_start}

-- the place that rules 23 and 24 admit
abbrev pub placed_at : DescriptorNumbers → Placement
placed_at d = record { extends = full d; start = entry_start d }
