-- A first record that is no negative number, and the records of an area, are small. Assumes nothing.
use Rattle.std.proofs.Common.{arith, w64}
use Rattle.words.proofs.Ranges.{at_least-bounds}
use Rattle.descriptor.proofs.Tests.{holds}
use Rattle.descriptor.proofs.AreaOrder.{records-small}
use Rattle.descriptor.proofs.inner.areas.after_area.Goals as goal

pub overflow_add-result : goal.overflow_add-result
overflow_add-result c =
    let d = c.args.d in
    let low = at_least-bounds w64 c.in_ok-after.after.0 c.args.first.0 (holds c.at_least.ensures c.if-not-at_least.false) in
    omega (arith, c.area_records.ensures, records-small c.args.capacity d.lind d.reclen (omega (arith, c.requires.0.reclen-low)) c.requires.1 c.requires.0.lind-high)
