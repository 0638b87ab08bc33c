-- The order that is handed on is the file's. Assumes nothing.
use mathlib.Core.Path.{◌∙◌}
use Rattle.words.proofs.Number.{order-little}
use Rattle.descriptor.proofs.inner.reading.numbers_of.Goals as goal

pub numbers_in-requires : goal.numbers_in-requires
numbers_in-requires c = (order-little c.byte_order_of-order.result c.if-order-eq0.true ∙ c.byte_order_of-order.ensures, c.requires)
