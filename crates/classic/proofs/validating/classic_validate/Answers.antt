-- The answer is that of the validation's case, whose numbers fit 32 bits.
use Rattle.std.proofs.Common.{◌≡◌, ℕ, List, sym, ap, subst, ◌∙◌, arith}
use Rattle.descriptor.specs.declared.validating.Validated.{Validated}
use Rattle.descriptor.specs.declared.validating.ValidatedCase.{ValidatedCase}
use Rattle.descriptor.specs.declared.validating.Validated.TheVariants.{Numbers}
use Rattle.descriptor.specs.Answers.{validated_case, case_of}
use Rattle.descriptor.specs.Bounds.{Narrow}
use Rattle.descriptor.proofs.Answered.{case-told, case-left}
use Rattle.geometry.specs.Units.{record_numbers}
use Rattle.classic.specs.Answers.{descriptor_from, descriptor_for}
use Rattle.classic.proofs.Narrow.{validated-narrow}
use Rattle.classic.proofs.validating.classic_validate.Goals as goal

-- the numbers of a file's case fit
fits : (file : List ℕ) (case : Validated) {x : ValidatedCase} → case ≡ case_of file → x ≡ validated_case case → Narrow x.numbers
fits file case e h = subst (λ (y : ValidatedCase). Narrow y.numbers) (sym (h ∙ ap validated_case e)) (validated-narrow file)

pub returns-in_default : goal.returns-in_default
returns-in_default c =
    let a = c.admit-case in
    let left = case-left _ a.result a.ensures.0 (ap (λ (x : ValidatedCase). x.refusal) c.validated_case.ensures) c.in_default.is in
    let case = c.validated_case.ensures ∙ ap validated_case a.ensures.0 in
    c.descriptor_from.ensures ∙ (λ j. descriptor_from (case j) (record_numbers (sym left.validation j).addresses))

pub aex_numbers-requires : goal.aex_numbers-requires
aex_numbers-requires c =
    let a = c.admit-case in
    let p = (case-told _ a.result a.ensures.0 a.ensures.1 c.in-Numbers.is).admitted in
    let s = p.admitted in
    (p.order, s.settled.nex-high, omega (arith, s.settled.nex-room, s.lent.first))

pub descriptor_from-requires-2 : goal.descriptor_from-requires-2
descriptor_from-requires-2 c = fits _ (Numbers c.in-Numbers.d) (sym c.in-Numbers.is ∙ c.admit-case.ensures.0) c.validated_case-2.ensures

pub returns : goal.returns
returns c =
    let a = c.admit-case in
    let told = case-told _ a.result a.ensures.0 a.ensures.1 c.in-Numbers.is in
    let case = c.validated_case-2.ensures in
    c.descriptor_from-2.ensures ∙ (λ j. descriptor_from (case j) (c.aex_numbers.ensures j)) ∙ ap descriptor_for (sym told.validation)
