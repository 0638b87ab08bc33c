-- `update::inner::update_at` meets its contract: refused as the place is, by 28, or not at all. Assumes nothing.
use Rattle.std.proofs.Common.{sym, ◌∙◌, arith, length}
use Rattle.outcome.proofs.Refusals.{number-positive}
use Rattle.update.specs.Answers.{space_of}
use Rattle.update.proofs.Contents.{content-fits, place-first, content-next, refused, not-refused}
use Rattle.update.proofs.inner.update_at.Goals as goal

pub returns-then-place-ne0 : goal.returns-then-place-ne0
returns-then-place-ne0 c =
    let d = c.if-place-ne0.true in
    refused c.args.place c.args.content.now c.args.file.now (sym (place-first c.args.place c.args.content.now d)) d

pub returns-in-Err : goal.returns-in-Err
returns-in-Err c =
    let number = c.number.ensures in
    let given = c.in-Err.ensures ∙ sym (content-next c.args.place c.args.content.now c.if-place-ne0.false) in
    refused c.args.place c.args.content.now c.args.file.now (number ∙ given) (λ z. number-positive c.in-Err.refusal (sym number ∙ z))

pub rewrite-requires : goal.rewrite-requires
rewrite-requires c =
    let fits = content-fits (length c.args.content.now) (space_of c.args.place) (sym c.in-Ok.ensures) in
    let inside = c.requires in
    (omega (arith, inside.ordered, inside.ends, fits.1), omega (arith, fits.1), omega (arith, inside.whole, fits.0), omega (arith, fits.0), omega (arith, inside.small, fits.1))

pub returns-in-Ok : goal.returns-in-Ok
returns-in-Ok c =
    let done = not-refused c.args.place c.args.content.now c.args.file.now (content-next c.args.place c.args.content.now c.if-place-ne0.false ∙ sym c.in-Ok.ensures) in
    (done.0, c.rewrite.ensures ∙ done.1)
