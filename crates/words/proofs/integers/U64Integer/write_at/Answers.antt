-- `words::integers::U64Integer::write_at` meets its contract, in either order. Assumes nothing.
use Rattle.std.proofs.Common.{◌∙◌, ap}
use Rattle.std.specs.Int.{to_le_bytes}
use Rattle.image.specs.Image.{splice}
use Rattle.words.specs.Word.{integer8}
use Rattle.words.proofs.StdBytes.{written-little, written-big}
use Rattle.words.proofs.integers.U64Integer.write_at.Goals as goal
use Rattle.words.proofs.integers.U64Integer.write_at.Goals.{then-order-eq0, else-order-eq0}

pub returns : goal.returns
returns c =
    let a = c.args in
    c.put.ensures
    ∙ ap (splice a.image.now a.at)
    (c.to_le_bytes.ensures
    ∙ elim c.if-order-eq0.branch [
      | then-order-eq0 w ↦ ap (to_le_bytes integer8) w.turned-is ∙ written-little a.order integer8 a.self w.if-order-eq0.true
      | else-order-eq0 w ↦
          ap (to_le_bytes integer8) (w.turned-is ∙ w.swap_bytes-turned.ensures) ∙ written-big a.order integer8 a.self w.if-order-eq0.false
    ])
