-- A file that is not refused has its numbers. Assumes nothing.
use Rattle.std.proofs.Common.{sym, ap, ◌∙◌}
use Rattle.outcome.proofs.Refusals.{number-positive}
use Rattle.descriptor.specs.declared.numbers.DescriptorNumbers.{DescriptorNumbers}
use Rattle.descriptor.specs.declared.validating.Validated.TheVariants.{Numbers}
use Rattle.descriptor.specs.declared.validating.Validation.{Validation}
use Rattle.descriptor.proofs.Answered.{file-passed, answer-numbers, refuses-by}
use Rattle.descriptor.proofs.inner.admitting.admit.Goals as goal

pub numbers_of-requires : goal.numbers_of-requires
numbers_of-requires c = (file-passed _ (sym c.in-Ok.ensures.refuses)).long

pub returns-in-Ok : goal.returns-in-Ok
returns-in-Ok c =
    (ap (λ (d : DescriptorNumbers). Numbers d) c.numbers_of.ensures ∙ sym (ap (λ (v : Validation). v.numbers) (answer-numbers _ (sym c.in-Ok.ensures.refuses))), c.file_refusal.ensures.leaves)

pub returns-in-Err : goal.returns-in-Err
returns-in-Err c =
    let told = c.number.ensures ∙ c.in-Err.ensures.refuses in
    let refused = refuses-by c.args.file.now told (λ z. number-positive c.in-Err.refusal (sym c.number.ensures ∙ z)) in
    (sym (ap (λ (v : Validation). v.numbers) refused.validation), c.file_refusal.ensures.leaves)
