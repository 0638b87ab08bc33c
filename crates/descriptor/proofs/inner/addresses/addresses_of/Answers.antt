-- A turn puts the next address at the next place. Assumes nothing.
use Rattle.std.proofs.Common.{◌≡◌, ◌+◌, ◌-◌, arith}
use Rattle.words.proofs.Table.{places-next}
use Rattle.descriptor.specs.FirstRecord.{aex_at}
use Rattle.descriptor.proofs.inner.addresses.addresses_of.Goals as goal

pub loop-filled-preserved : goal.loop-filled-preserved
loop-filled-preserved c =
    let l = c.loop-filled in
    let q : l.filled + 1 - 1 ≡ l.filled = omega arith in
    rw (l.invariant, c.aex_in.ensures, q) (places-next 16 l.filled (aex_at c.args.file.now) (record { 0 = 0 }) (omega arith))
