-- What is known of an entry that was entered with no refusal, and what an open is by the validation's case. Assumes nothing.
use borrow.Author.Rules.{rules}
use borrow.Author.Tests.{ne_eqb}
use Prim.Native.Nat.{ℕ, ◌+◌, ◌*◌, ◌^◌, ◌≤◌, ◌<◌}
use mathlib.Core.Path.{◌≡◌, refl, sym, ap, ◌∙◌}
use mathlib.Core.Bool.{true}
use mathlib.Core.Logic.{◌⊎◌, inl, inr}
use native.Mathlib.Decide.{ℕ_discrete}
use mathlib.Core.List.{List}
use lib.ListN.{length}
use Rattle.geometry.specs.declared.units.RecordNumber.{RecordNumber}
use Rattle.geometry.specs.declared.units.EntryNumber.{EntryNumber}
use Rattle.geometry.specs.Units.{entries_before}
use Rattle.descriptor.specs.declared.numbers.DescriptorNumbers.{DescriptorNumbers}
use Rattle.descriptor.specs.declared.validating.Validated.TheVariants.{Numbers}
use Rattle.descriptor.specs.Bounds.{Admitted}
use Rattle.descriptor.specs.FirstRecord.{addresses_of}
use Rattle.descriptor.specs.Answers.{validation_of, no_validation, case_of}
use Rattle.descriptor.proofs.Answered.{case-told}
use Rattle.layout.specs.FileCode.{byte_order_of}
use Rattle.pieces.specs.Contents.{data_within, sections_within}
use Rattle.pieces.specs.Bounds.{Described}
use Rattle.entry.specs.Entered.{Entered}
use Rattle.entry.specs.Opening.{entered_of}
use Rattle.entry.specs.Answers.{entered_in, not_opened, opened_as, open_of}
use Rattle.entry.proofs.Entering.{free-within, entry-opens, entered-numbers, entered-refusal}

-- what holds of the numbers of entry e that were entered with no refusal
pub record Known (file : List ℕ) (d : DescriptorNumbers) (e : EntryNumber) (x : Entered) : Type 0 where
  pub number-low : 1 ≤ e.0
  pub number-high : e.0 ≤ entries_before d.xnext
  pub described : Described (byte_order_of file) file x.start x.nsec
  pub nword-small : x.nword < 2 ^ 32
  pub ends : 4 * (x.start + x.nword) ≤ length file
  pub data-within : data_within x.nsec x.nword x.array ≡ true
  pub sections-within : sections_within file x.start x.nsec x.nword x.nsec ≡ true

-- and that it holds, by the rules that were passed
pub known : (file : List ℕ) (d : DescriptorNumbers) (addresses : List RecordNumber) (e : EntryNumber) (x : Entered)
    → Admitted (length file) d addresses → x ≡ entered_of file d addresses e → x.refusal ≡ 0 → Known file d e x
known file d addresses e x a q z =
    let none = sym (entered-refusal file d addresses e) ∙ ap (λ (y : Entered). y.refusal) (sym q) ∙ z in
    let o = entry-opens file d addresses e a none in
    let inside = free-within (length file) d addresses a in
    rw (q ∙ entered-numbers file d addresses e none) (search rules)

-- an open, by the validation
module _ (file : List ℕ) (e : EntryNumber) where
  -- a file that is refused opens no entry
  pub open-refused : {n : ℕ} → validation_of file ≡ no_validation n → (n ≡ 0 → ⊥) → open_of file e ≡ not_opened n
  unfolding open_of opened_as entered_in
  open-refused {n} q some = rw (q, ne_eqb n 0 some)

  -- and else the answer is made of what was entered
  pub open-numbers : {d : DescriptorNumbers} {addresses : List RecordNumber} → validation_of file ≡ record { refusal = 0; numbers = Numbers d; addresses = addresses }
      → open_of file e ≡ opened_as file (entered_of file d addresses e)
  unfolding open_of entered_in
  open-numbers q = rw q

-- so where the case is of numbers, an entry was entered with no refusal, or is not opened
pub entered_or_refused : (file : List ℕ) (e : EntryNumber) (d : DescriptorNumbers) → case_of file ≡ Numbers d
    → (entered_of file d (addresses_of file d.nex) e).refusal ≡ 0 ⊎ open_of file e ≡ not_opened (entered_of file d (addresses_of file d.nex) e).refusal
unfolding opened_as
entered_or_refused file e d q =
    let x = entered_of file d (addresses_of file d.nex) e in
    elim (ℕ_discrete x.refusal 0) [
      | yes z ↦ inl z
      | no z ↦ inr (open-numbers file e (case-told file (case_of file) refl refl q).validation ∙ rw (ne_eqb x.refusal 0 z))
    ]
