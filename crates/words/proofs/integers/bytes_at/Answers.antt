-- `words::integers::bytes_at` meets its contract: what it copies is the part. Assumes nothing.
use Rattle.std.proofs.Common.{ℕ, ◌∙◌, ap, take, drop, arith}
use Rattle.image.specs.Image.{part}
use Rattle.words.proofs.integers.bytes_at.Goals as goal

pub returns : goal.returns
unfolding part
returns g c =
    let a = c.args in
    c.copy_from_slice.ensures.after ∙ ap (λ (n : ℕ). take n (drop a.at a.image.now)) (omega arith)
