-- What the check knows behind the entries that it passed, and that it carries the standing of the last of them.
use Rattle.std.proofs.Common.{◌≡◌}
use Rattle.descriptor.specs.FirstRecord.{addresses_of}
use Rattle.order.specs.Standing.{standing_of}
use Rattle.order.proofs.Checks.{Passing}
use Rattle.order.proofs.inner.check_entries.Given as goal

abbrev pub invariant-loop-passed : goal.invariant-loop-passed
invariant-loop-passed l =
    let addresses = addresses_of l.file l.d.nex in
    Passing l.file l.d addresses l.entries l.passed l.before × (l.at ≡ standing_of l.d addresses (record { 0 = l.passed }))
