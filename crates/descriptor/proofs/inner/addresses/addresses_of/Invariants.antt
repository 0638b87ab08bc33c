-- The loop's invariant: the places passed hold their addresses, the others zero. Assumes nothing.
use Rattle.std.proofs.Common.{◌≡◌}
use Rattle.words.specs.Table.{places}
use Rattle.descriptor.specs.FirstRecord.{aex_at}
use Rattle.descriptor.proofs.inner.addresses.addresses_of.Given as goal

abbrev pub invariant-loop-filled : goal.invariant-loop-filled
invariant-loop-filled l = l.table ≡ places 16 l.filled (aex_at l.file) (record { 0 = 0 })
