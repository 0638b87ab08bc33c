-- What it is for a record to be the one that a file has: rule 27 holds exactly then, and the file validates with the record's numbers and addresses. Assumes nothing.
use Prim.Native.Nat.{ℕ}
use mathlib.Core.Path.{◌≡◌, refl, ap, ◌∙◌}
use mathlib.Core.Bool.{cond, ◌&&◌}
use mathlib.Core.List.{List}
use native.Mathlib.Omega.{arith}
use borrow.Author.Tests.{eqb-true, eqb-false, eq-eqb}
use lib.Dec.{eqb}
use lib.ListN.{get_or}
use Rattle.std.proofs.Math.Bool.{and_assoc, and-true}
use Rattle.outcome.proofs.Either.{either}
use Rattle.words.specs.Code.{same_numbers}
use Rattle.words.proofs.Codes.{same-equal, same_self}
use Rattle.geometry.specs.declared.units.RecordNumber.{RecordNumber}
use Rattle.geometry.specs.Units.{record_numbers}
use Rattle.descriptor.specs.declared.numbers.DescriptorNumbers.{DescriptorNumbers}
use Rattle.descriptor.specs.FirstRecord.{growth_in}
use Rattle.descriptor.specs.declared.validating.Validated.{Validated}
use Rattle.descriptor.specs.declared.validating.Validation.{Validation}
use Rattle.descriptor.specs.Answers.{validation_of, Validates}
use Rattle.descriptor.specs.Rules.{file_refusal}
use Rattle.descriptor.proofs.Refusals.{all_hold}
use Rattle.descriptor.proofs.Answered.{answer-numbers, answer-refused}
use Rattle.held.specs.declared.answers.OpenFile.{OpenFile}
use Rattle.held.specs.declared.answers.OpenFileAnswer.{OpenFileAnswer}
use Rattle.geometry.specs.Totals.{totals_of}
use Rattle.held.specs.Record.{open_file_with, open_file_in, open_file_of, TrueOf}
use Rattle.held.specs.Rules.{fields_of, held_rules, held_refusal}
use Rattle.held.specs.contracts.answers.OpenFilePartialEq.TheImpl as comparison
use Rattle.held.proofs.Tables.{records-equal, numbers-compared, records-compared}

-- numbers with the same fields are equal
fields-equal : (d e : DescriptorNumbers) → fields_of d ≡ fields_of e → d ≡ e
fields-equal d e q =
    let at : (i : ℕ) → get_or (fields_of d) i 0 ≡ get_or (fields_of e) i 0 = λ i. ap (λ (l : List ℕ). get_or l i 0) q in
    λ i. record {
      order = record { 0 = at 0 i };
      reclen = at 1 i;
      kind = at 2 i;
      vind = at 3 i;
      lind = at 4 i;
      flags = at 5 i;
      xnext = record { 0 = at 6 i };
      nextrec = record { 0 = at 7 i };
      nextword = record { 0 = at 8 i };
      lex1 = at 9 i;
      nex = at 10 i;
      gex = at 11 i;
    }

-- where 27 is not given, a record is the one that the file has
pub held-true : (file : List ℕ) (held : OpenFile) → held_refusal file held ≡ 0 → TrueOf file held
unfolding held_refusal
held-true file held e =
    let rows = all_hold (held_rules file held) (omega arith) e in
    let x = open_file_of file in
    let numbers = fields-equal held.numbers x.file.numbers (same-equal _ _ rows.1.0) in
    let addresses = records-equal held.addresses x.file.addresses rows.1.1.0 in
    let totals = same-equal held.totals x.file.totals rows.1.1.1.0 in
    record {
      admitted = eqb-true x.refusal 0 rows.0;
      same = λ i. record { numbers = numbers i; addresses = addresses i; totals = totals i };
    }

-- and where it is, 27 is not given
pub true-held : (file : List ℕ) (held : OpenFile) → TrueOf file held → held_refusal file held ≡ 0
unfolding held_refusal
true-held file held t =
    let x = (open_file_of file).file in
    rw (t.same, eq-eqb (open_file_of file).refusal 0 t.admitted, same_self (fields_of x.numbers), same_self (record_numbers x.addresses), same_self x.totals)

-- the derived comparison says whether two records have the same fields, addresses and totals
compared : (one other : OpenFile)
    → (comparison.ghosts).eq one other
    ≡ (same_numbers (fields_of one.numbers) (fields_of other.numbers) && same_numbers (record_numbers one.addresses) (record_numbers other.addresses)
    && same_numbers one.totals other.totals)
unfolding same_numbers
compared one other = simp (records-compared one.addresses other.addresses, numbers-compared one.totals other.totals, and_assoc, and-true)

-- so 27 is given where a file is refused, or its record and the one that is lent do not compare as the same
pub held-compared : (file : List ℕ) (held : OpenFile) → let x = open_file_of file in held_refusal file held ≡ cond (eqb x.refusal 0) (cond ((comparison.ghosts).eq held x.file) 0 27) 27
unfolding held_refusal
held-compared file held =
    let x = open_file_of file in
    rw (compared held x.file)
    (either (same_numbers (fields_of held.numbers) (fields_of x.file.numbers))
    (λ q. either (same_numbers (record_numbers held.addresses) (record_numbers x.file.addresses)) (λ r. rw (q, r)) (λ r. rw (q, r)))
    (λ q. rw q))

-- else it is given
pub held-27 : (file : List ℕ) (held : OpenFile) → (held_refusal file held ≡ 0 → ⊥) → held_refusal file held ≡ 27
unfolding held_refusal
held-27 file held d =
    let x = open_file_of file in
    either (eqb x.refusal 0)
    (λ p. either (same_numbers (fields_of held.numbers) (fields_of x.file.numbers))
    (λ q. either (same_numbers (record_numbers held.addresses) (record_numbers x.file.addresses))
    (λ r. either (same_numbers held.totals x.file.totals) (λ s. absurd (d (rw (p, q, r, s)))) (λ s. rw (p, q, r, s)))
    (λ r. rw (p, q, r)))
    (λ q. rw (p, q)))
    (λ p. rw p)

-- the record of a file, by the case of its validation
pub record-by : (file : List ℕ) (v : Validation) (case : Validated) → v ≡ validation_of file → v.numbers ≡ case → open_file_of file ≡ open_file_in case v.addresses
record-by file v case e q = rw (← e, ← q)

-- the record of a file that validates with these numbers and addresses
pub validated-record : (file : List ℕ) (d : DescriptorNumbers) (addresses : List RecordNumber) → Validates file d addresses
    → open_file_of file ≡ record { refusal = 0; file = open_file_with d addresses }
unfolding open_file_in
validated-record file d addresses v = rw v

-- a file that has a record validates with its numbers and addresses, and its totals are those of its numbers
pub record Shown (file : List ℕ) (held : OpenFile) : Type 0 where
  pub validates : Validates file held.numbers held.addresses
  pub totals : held.totals ≡ totals_of (growth_in held.numbers) held.numbers.nex

-- so does every file that a record is true of
pub true-shown : (file : List ℕ) (held : OpenFile) → TrueOf file held → Shown file held
unfolding open_file_in
true-shown file held t =
    let n = file_refusal file in
    either (eqb n 0)
    (λ q.
    let v = answer-numbers file (eqb-true n 0 q) in
    let same = t.same ∙ ap (λ (x : OpenFileAnswer). x.file) (validated-record file _ _ v) in
    rw same (record { validates = v; totals = refl }))
    (λ q. absurd (eqb-false n 0 q (rw (answer-refused file n refl q) at t.admitted)))
