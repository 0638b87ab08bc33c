-- The loop's invariant: the walk has come to the next extension, those passed are within the limit, `after` is the record after their areas, and the
-- table has their totals. Assumes nothing.
use Rattle.std.proofs.Common.{◌≡◌, ◌+◌, ◌-◌, false}
use Rattle.words.specs.Table.{places}
use Rattle.geometry.specs.Growth.{total_of, over_of}
use Rattle.geometry.specs.Walk.{walk_of}
use Rattle.descriptor.specs.FirstRecord.{growth_in, addresses_of}
use Rattle.descriptor.specs.Walking.{ordered_after}
use Rattle.descriptor.proofs.walking.walk_extensions.Given as goal

abbrev pub invariant-loop-passed : goal.invariant-loop-passed
invariant-loop-passed l =
    let g = growth_in l.d in
    (l.walk ≡ walk_of g (l.passed + 1)) × (over_of g l.passed ≡ false) × (l.after ≡ ordered_after l.d (addresses_of l.file l.d.nex) l.passed)
    × (l.before ≡ total_of g (l.passed - 1)) × (l.totals ≡ places 16 l.passed (λ i. total_of g (i + 1)) 0)
