-- Rule 27 of Q-5: the record that is lent is the one that validating the lent file gives, in every field.
use Rattle.std.specs.Prelude.{ℕ, List, [], ◌∷◌, eqb}
use Rattle.words.specs.Code.{same_numbers}
use Rattle.geometry.specs.Units.{record_numbers}
use Rattle.descriptor.specs.declared.numbers.DescriptorNumbers.{DescriptorNumbers}
use Rattle.descriptor.specs.Refusal.{Rule, row, refusal_in}
use Rattle.held.specs.declared.answers.OpenFile.{OpenFile}
use Rattle.held.specs.Record.{open_file_of}

-- the fields of a first record but the addresses, and its order
abbrev pub fields_of : DescriptorNumbers → List ℕ
fields_of d =
    d.order.0 ∷
    d.reclen ∷
    d.kind ∷
    d.vind ∷
    d.lind ∷
    d.flags ∷
    d.xnext.0 ∷
    d.nextrec.0 ∷
    d.nextword.0 ∷
    d.lex1 ∷
    d.nex ∷
    d.gex ∷
    []

-- the file is not refused; and its record has these fields, these addresses and these totals
abbrev pub held_rules : List ℕ → OpenFile → List Rule
held_rules file held =
    let x = open_file_of file in
    row 27 (eqb x.refusal 0) ∷
    row 27 (same_numbers (fields_of held.numbers) (fields_of x.file.numbers)) ∷
    row 27 (same_numbers (record_numbers held.addresses) (record_numbers x.file.addresses)) ∷
    row 27 (same_numbers held.totals x.file.totals) ∷
    []

-- the refusal by them, 0 where the record is true of the file
unfoldable pub held_refusal : List ℕ → OpenFile → ℕ
held_refusal file held = refusal_in (held_rules file held)
