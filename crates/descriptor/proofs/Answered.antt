-- What a file's refusal is made of, and what the answer of `validate` tells: the numbers that it gives are the file's, and admitted. Assumes nothing.
use native.Mathlib.Decide.{ℕ_discrete}
use Prim.Native.Nat.{ℕ, ◌≤◌}
use mathlib.Core.Path.{◌≡◌, refl, sym, ap, ◌∙◌}
use mathlib.Core.Bool.{Bool, true, false, cond, ◌&&◌}
use mathlib.Core.List.{List, [], ◌∷◌, ◌++◌}
use native.Mathlib.Omega.{arith}
use borrow.Author.Tests.{leb-true, le-leb, ne_eqb}
use lib.Dec.{leb, eqb}
use lib.ListN.{length, replicate}
use Rattle.words.proofs.Table.{length-places}
use Rattle.outcome.proofs.Either.{either}
use Rattle.geometry.specs.declared.units.ExtensionNumber.{ExtensionNumber}
use Rattle.geometry.specs.declared.units.RecordNumber.{RecordNumber}
use Rattle.geometry.specs.Totals.{totals_of}
use Rattle.descriptor.specs.declared.numbers.DescriptorNumbers.{DescriptorNumbers}
use Rattle.descriptor.specs.declared.validating.Validated.{Validated}
use Rattle.descriptor.specs.declared.validating.Validated.TheVariants.{Numbers, Refused}
use Rattle.descriptor.specs.declared.validating.Validation.{Validation}
use Rattle.layout.specs.FileCode.{byte_order_of}
use Rattle.descriptor.specs.Refusal.{Rule, row, refusal_in}
use Rattle.descriptor.specs.FirstRecord.{numbers_of, addresses_of, growth_in}
use Rattle.descriptor.specs.Areas.{areas_start, areas_end}
use Rattle.descriptor.specs.Rules.{setting_rules, count_rules, filling_rules, no_leftovers, file_rules, setting_refusal, count_refusal, filling_refusal, file_refusal}
use Rattle.descriptor.specs.Walking.{totals_in}
use Rattle.descriptor.specs.Answers.{validation_of, no_validation, validated_case, case_of, extension_in, extension_of}
use Rattle.descriptor.specs.Bounds.{Admitted, AdmittedIn, TotalsOf}
use Rattle.descriptor.proofs.Refusals.{refusal-append, refusal-none, all_hold, hold-split}
use Rattle.descriptor.proofs.Passed.{admitted}

-- the number of a case that is a refusal
pub refusal-told : {case : Validated} {n r : ℕ} → r ≡ (validated_case case).refusal → case ≡ Refused n → r ≡ n
refusal-told e t = e ∙ ap (λ (case : Validated). (validated_case case).refusal) t

module _ (file : List ℕ) where
  abbrev d : DescriptorNumbers
  d = numbers_of file

  -- the parts of its table behind rule 1: 2 to 8, 9 to 11, and 29
  abbrev settings : List Rule
  settings = setting_rules (length file) d

  abbrev filling : List Rule
  filling = filling_rules (length file) d (addresses_of file d.nex)

  abbrev leftovers : List Rule
  leftovers = row 29 (no_leftovers file d) ∷ []

  -- the settings count, then the filling, and then the leftovers
  pub file-rest : leb 64 (length file) ≡ true → let s = setting_refusal (length file) d in let f = filling_refusal (length file) d (addresses_of file d.nex) in
      file_refusal file ≡ cond (eqb s 0) (cond (eqb f 0) (cond (no_leftovers file d) 0 29) f) s
  unfolding file_refusal setting_refusal filling_refusal
  file-rest h = rw (h, ← (refusal-append filling leftovers (omega arith))) (refusal-append settings (filling ++ leftovers) (omega arith))

  -- a file that is too short counts for rule 1 alone
  pub file-short : leb 64 (length file) ≡ false → file_refusal file ≡ 1
  unfolding file_refusal
  file-short h = rw h

  -- what a file with no refusal shows: it passed them all
  pub record FilePassed : Type 0 where
    pub long : 64 ≤ length file
    pub settings : setting_refusal (length file) d ≡ 0
    pub filling : filling_refusal (length file) d (addresses_of file d.nex) ≡ 0
    pub clear : no_leftovers file d ≡ true

  -- a file with no refusal passed them
  pub file-passed : file_refusal file ≡ 0 → FilePassed
  unfolding file_refusal setting_refusal filling_refusal
  file-passed e =
      let a = all_hold (file_rules file d (addresses_of file d.nex)) (omega arith) e in
      let b = hold-split settings (filling ++ leftovers) a.1 in
      let c = hold-split filling leftovers b.1 in
      record { long = leb-true 64 (length file) a.0; settings = refusal-none settings b.0; filling = refusal-none filling c.0; clear = c.1.0 }

  -- so its numbers and addresses are admitted
  pub file-admitted : file_refusal file ≡ 0 → Admitted (length file) d (addresses_of file d.nex)
  unfolding addresses_of
  file-admitted e = let p = file-passed e in admitted (length file) d (addresses_of file d.nex) (length-places 16 d.nex _ _) p.long p.settings p.filling

  -- its code says the order of its numbers
  pub file-order : d.order ≡ byte_order_of file
  unfolding numbers_of
  file-order = refl

  -- a file that is not refused has its numbers and addresses
  pub answer-numbers : file_refusal file ≡ 0 → validation_of file ≡ record { refusal = 0; numbers = Numbers d; addresses = addresses_of file d.nex }
  unfolding validation_of
  answer-numbers e = simp e

  -- a file that is refused has no numbers
  pub answer-refused : (n : ℕ) → file_refusal file ≡ n → eqb n 0 ≡ false → validation_of file ≡ no_validation n
  unfolding validation_of
  answer-refused n e h = simp (e, h)

  -- taken apart: numbers that it gave are the file's own, with the file's own addresses, and admitted
  pub record Told (v : Validation) (n : DescriptorNumbers) : Type 0 where
    pub refusal : file_refusal file ≡ 0
    pub numbers : n ≡ d
    pub addresses : v.addresses ≡ addresses_of file d.nex
    pub admitted : AdmittedIn file n v.addresses

  -- what a validation that gave numbers shows
  pub told : (v : Validation) (n : DescriptorNumbers) → v ≡ validation_of file → v.numbers ≡ Numbers n → Told v n
  told v n e q =
      elim (ℕ_discrete (file_refusal file) 0) [
        | yes z ↦
            let w = e ∙ answer-numbers z in
            let numbers : n ≡ d = cc in
            let addresses : v.addresses ≡ addresses_of file d.nex = cc in
            record { refusal = z; numbers = numbers; addresses = addresses; admitted = rw (numbers, addresses) (record { admitted = file-admitted z; order = file-order }) }
        | no z ↦
            let w = e ∙ answer-refused (file_refusal file) refl (ne_eqb (file_refusal file) 0 z) in
            let never : ◌≡◌ {A = ℕ} 0 1 = cc in
            absurd (omega arith)
      ]

  -- the filling is refused by the counts, and then by the areas
  pub filling-parts : (addresses : List RecordNumber)
      → filling_refusal (length file) d addresses ≡ cond (eqb (count_refusal (length file) d) 0) (cond (areas_start d addresses d.nex && areas_end d addresses) 0 11) (count_refusal (length file) d)
  unfolding filling_refusal count_refusal
  filling-parts addresses =
      refusal-append (count_rules (length file) d) (row 11 (areas_start d addresses d.nex) ∷ row 11 (areas_end d addresses) ∷ []) (omega arith)
      ∙ ap (λ (n : ℕ). cond (eqb (refusal_in (count_rules (length file) d)) 0) n (refusal_in (count_rules (length file) d)))
      (either (areas_start d addresses d.nex) (λ q. rw q refl) (λ q. rw q refl))

  -- the totals of a file whose settings pass
  pub totals-settled : leb 64 (length file) ≡ true → setting_refusal (length file) d ≡ 0 → totals_in file ≡ totals_of (growth_in d) d.nex
  unfolding totals_in
  totals-settled h e = rw (h, e) refl

  -- and of any other
  pub totals-unsettled : (b : Bool) → leb 64 (length file) ≡ b → b && eqb (setting_refusal (length file) d) 0 ≡ false → totals_in file ≡ replicate 16 0
  unfolding totals_in
  totals-unsettled b h e = rw (h, e) refl

  -- a file of 64 bytes and more, part by part of its table
  module _ (h : leb 64 (length file) ≡ true) where
    -- refused by its settings
    pub settings-refused : (n : ℕ) → setting_refusal (length file) d ≡ n → eqb n 0 ≡ false → (file_refusal file ≡ n) × (totals_in file ≡ replicate 16 0)
    settings-refused n e other = (file-rest h ∙ rw (e, other), totals-unsettled true h (rw (e, other)))

    module _ (e : setting_refusal (length file) d ≡ 0) where
      -- refused by how far it is filled
      pub filling-refused : (n : ℕ) → filling_refusal (length file) d (addresses_of file d.nex) ≡ n → eqb n 0 ≡ false → file_refusal file ≡ n
      filling-refused n f other = file-rest h ∙ rw (e, f, other)

      -- refused by its leftovers, or not refused
      pub leftovers-refused : {b : Bool} → filling_refusal (length file) d (addresses_of file d.nex) ≡ 0 → no_leftovers file d ≡ b → file_refusal file ≡ cond b 0 29
      leftovers-refused f l = file-rest h ∙ rw (e, f, l)

  -- taken apart: a case that gives numbers gives the file's own, which are admitted, and the totals left are theirs
  pub record Admits (n : DescriptorNumbers) (totals : List ℕ) : Type 0 where
    pub numbers : n ≡ d
    pub validation : validation_of file ≡ record { refusal = 0; numbers = Numbers n; addresses = addresses_of file n.nex }
    pub admitted : AdmittedIn file n (addresses_of file n.nex)
    pub table : TotalsOf n totals

  -- and one with a refusal gives the number that validating does
  pub record Refuses (n : ℕ) : Type 0 where
    pub validation : validation_of file ≡ no_validation n
    pub broken : n ≡ 0 → ⊥

  -- what a file with no refusal shows, of its own numbers
  pub admits : {n : DescriptorNumbers} {totals : List ℕ} → n ≡ d → totals ≡ totals_in file → file_refusal file ≡ 0 → Admits n totals
  admits numbers t z =
      let p = file-passed z in
      record {
        numbers = numbers;
        validation = rw numbers (answer-numbers z);
        admitted = rw numbers (record { admitted = file-admitted z; order = file-order });
        table = rw numbers (t ∙ totals-settled (le-leb 64 (length file) p.long) p.settings);
      }

  -- and what one with a refusal does, whose number was found
  pub refuses-by : {n : ℕ} → n ≡ file_refusal file → (n ≡ 0 → ⊥) → Refuses n
  refuses-by {n} e z = record { validation = answer-refused n (sym e) (ne_eqb n 0 z); broken = z }

  module _ (case : Validated) (e : case ≡ case_of file) where
    -- what a case that gives numbers shows
    pub case-told : {n : DescriptorNumbers} {totals : List ℕ} → totals ≡ totals_in file → case ≡ Numbers n → Admits n totals
    case-told {n} t q = let w = told (validation_of file) n refl (sym e ∙ q) in admits w.numbers t w.refusal

    -- and what a case with a refusal does, whose number was asked for
    pub case-left : {n r : ℕ} → r ≡ (validated_case case).refusal → case ≡ Refused n → Refuses r
    case-left {n} {r} k q =
        elim (ℕ_discrete (file_refusal file) 0) [
          | yes z ↦
              let w = sym q ∙ e ∙ ap (λ (v : Validation). v.numbers) (answer-numbers z) in
              let never : ◌≡◌ {A = ℕ} 0 1 = cc in
              absurd (omega arith)
          | no z ↦
              let whole = answer-refused (file_refusal file) refl (ne_eqb (file_refusal file) 0 z) in
              let number : r ≡ file_refusal file = k ∙ ap (λ (c : Validated). (validated_case c).refusal) (e ∙ ap (λ (v : Validation). v.numbers) whole) in
              refuses-by number (λ q. z (sym number ∙ q))
        ]

  -- an extension, by the validation's case
  pub extension-by : (k : ExtensionNumber) (v : Validation) (case : Validated) → v ≡ validation_of file → v.numbers ≡ case
      → extension_of file k ≡ extension_in case v.addresses k
  unfolding extension_of
  extension-by k v case e q = rw (← e, ← q)
