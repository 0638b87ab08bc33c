-- What the answers for C ask of the answers below: which numbers of a validation and of an entry fit 32 bits. Assumes nothing.
use Prim.Native.Nat.{ℕ}
use mathlib.Core.Path.{◌≡◌, refl, sym, ap, ◌∙◌}
use mathlib.Core.List.{List}
use native.Mathlib.Omega.{arith}
use borrow.Author.Tests.{eqb-true}
use lib.Dec.{eqb}
use lib.ListN.{length}
use Rattle.geometry.specs.declared.units.EntryNumber.{EntryNumber}
use Rattle.geometry.specs.declared.units.RecordNumber.{RecordNumber}
use Rattle.descriptor.specs.declared.numbers.DescriptorNumbers.{DescriptorNumbers}
use Rattle.descriptor.specs.FirstRecord.{numbers_of}
use Rattle.descriptor.specs.Rules.{file_refusal}
use Rattle.descriptor.specs.Answers.{validation_of, validated_case}
use Rattle.descriptor.specs.Bounds.{Narrow, Admitted}
use Rattle.descriptor.proofs.Passed.{narrow}
use Rattle.descriptor.proofs.Answered.{file-passed, file-admitted, answer-numbers, answer-refused}
use Rattle.entry.specs.Entered.{Entered}
use Rattle.entry.specs.Opening.{entered_of}
use Rattle.entry.proofs.Entering.{entry-opens, entered-numbers, entered-refusal}
use Rattle.outcome.proofs.Either.{either}
use Rattle.classic.specs.Bounds.{Slim}

-- those of either case of a validation fit
pub validated-narrow : (file : List ℕ) → Narrow (validated_case (validation_of file).numbers).numbers
validated-narrow file =
    either (eqb (file_refusal file) 0)
    (λ q.
    let z = eqb-true (file_refusal file) 0 q in
    let a = file-admitted file z in
    rw (answer-numbers file z)
    (narrow (length file) (numbers_of file) (file-passed file z).settings (omega (arith, a.free.word-high, a.settled.reclen-high))))
    (λ q. rw (answer-refused file (file_refusal file) refl q) (omega arith))

-- and so do those of an entry that was entered with no refusal
pub slim : (file : List ℕ) (d : DescriptorNumbers) (addresses : List RecordNumber) (e : EntryNumber) (x : Entered)
    → Admitted (length file) d addresses → x ≡ entered_of file d addresses e → x.refusal ≡ 0 → Slim x
slim file d addresses e x a q z =
    let none = sym (entered-refusal file d addresses e) ∙ ap (λ (y : Entered). y.refusal) (sym q) ∙ z in
    let o = entry-opens file d addresses e a none in
    rw (q ∙ entered-numbers file d addresses e none) (record { word = omega (arith, o.word-high, a.settled.reclen-high); nsec = omega (arith, o.described.sections) })
