-- What an example that is computed sees through of this crate, by one name: nothing else outside it looks inside a capacity.
use Rattle.geometry.specs.Units.{position_of, place_of}
use Rattle.geometry.specs.Growth.{capacity_of, total_of, over_of}
use Rattle.geometry.specs.Area.{records_for, extension_for, slot_of}

-- to unfold this is to unfold all that it names
unfoldable pub computing : Unit {0}
unfolding position_of place_of capacity_of total_of over_of records_for extension_for slot_of
computing = record {}
