-- `update::inner::rewrite` meets its contract: two writes side by side are one. Assumes nothing.
use Rattle.std.proofs.Common.{ℕ, ◌+◌, ◌-◌, List, length, refl, ap, ◌∙◌}
use Rattle.image.specs.Image.{splice, zeros}
use Rattle.image.proofs.Splice.{splice-adjacent}
use Rattle.update.proofs.inner.rewrite.Goals as goal

pub returns : goal.returns
returns c =
    let file = c.args.file.now in
    let content = c.args.content.now in
    let behind = c.args.start + length content in
    let rest = zeros (c.args.space - length content) in
    c.zero.ensures ∙ ap (λ (f : List ℕ). splice f behind rest) c.put.ensures ∙ splice-adjacent file c.args.start content behind rest refl
