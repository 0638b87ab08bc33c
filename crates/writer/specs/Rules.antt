-- The rules of an append, 21 to 24, as one table in the order of 01, on admitted numbers and the count of bytes lent.
use Rattle.std.specs.Prelude.{ℕ, ◌-◌, ◌%◌, List, [], ◌∷◌, ◌++◌, leb, eqb, ℤ, length}
use Rattle.geometry.specs.Units.{offset_of}
use Rattle.layout.specs.EntryWords.{sections_max}
use Rattle.descriptor.specs.declared.numbers.DescriptorNumbers.{DescriptorNumbers}
use Rattle.descriptor.specs.Refusal.{Rule, row, refusal_in}
use Rattle.placing.specs.Rules.{placement_rules}
use Rattle.storing.specs.Handed.{Handed, sum_of, distinct, positive, nword_in}

-- rules 21 and 22: what is handed in
abbrev pub handed_rules : DescriptorNumbers → List ℕ → List ℤ → List ℤ → List ℕ → List ℕ → List Rule
handed_rules d index ids lengths sections values =
    row 21 (eqb (length index) (offset_of (d.lind - 3))) ∷
    row 22 (leb (length ids) sections_max) ∷
    row 22 (eqb (length lengths) (length ids)) ∷
    row 22 (distinct ids (length ids)) ∷
    row 22 (positive lengths (length lengths)) ∷
    row 22 (eqb (length sections) (offset_of (sum_of lengths))) ∷
    row 22 (eqb (length values % 4) 0) ∷
    []

-- the refusal by them, 0 where they hold
unfoldable pub handed_refusal : DescriptorNumbers → List ℕ → List ℤ → List ℤ → List ℕ → List ℕ → ℕ
handed_refusal d index ids lengths sections values = refusal_in (handed_rules d index ids lengths sections values)

-- the whole table: then the rules of the entry's place, 23 and 24
abbrev pub append_rules : ℕ → DescriptorNumbers → Handed → List Rule
append_rules bytes d h =
    handed_rules d h.index h.ids h.lengths h.sections h.values ++ placement_rules bytes d (nword_in h)

-- its refusal, 0 when accepted
unfoldable pub append_refusal : ℕ → DescriptorNumbers → Handed → ℕ
append_refusal bytes d h = refusal_in (append_rules bytes d h)
