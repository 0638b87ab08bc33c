-- Rules 23 and 24 of an append, as one table in the order of 01, on admitted numbers and the count of bytes lent.
use Rattle.std.specs.Prelude.{ℕ, ◌+◌, ◌/◌, not, ◌||◌, List, [], ◌∷◌, ◌++◌, leb, ltb}
use Rattle.geometry.specs.Growth.{capacity_of}
use Rattle.descriptor.specs.declared.numbers.DescriptorNumbers.{DescriptorNumbers}
use Rattle.descriptor.specs.Refusal.{Rule, row, refusal_in}
use Rattle.descriptor.specs.FirstRecord.{mex_of, growth_in}
use Rattle.placing.specs.Placing.{full, entry_start}

-- rule 23: where the extensions in use are full, another may be made
abbrev pub extension_rules : DescriptorNumbers → List Rule
extension_rules d =
    row 23 (not (full d) || ltb d.nex (mex_of d.reclen)) ∷
    row 23 (not (full d) || leb (capacity_of (growth_in d) (d.nex + 1)) 16384) ∷
    []

-- rule 24: an entry of nword words ends within the buffer
abbrev pub space_rules : ℕ → DescriptorNumbers → ℕ → List Rule
space_rules bytes d nword = row 24 (leb (entry_start d + nword) (bytes / 4)) ∷ []

-- both, in their order
abbrev pub placement_rules : ℕ → DescriptorNumbers → ℕ → List Rule
placement_rules bytes d nword = extension_rules d ++ space_rules bytes d nword

-- the refusal by rule 23, 0 where it holds
unfoldable pub extension_refusal : DescriptorNumbers → ℕ
extension_refusal d = refusal_in (extension_rules d)

-- the refusal by both, 0 where they hold
unfoldable pub placement_refusal : ℕ → DescriptorNumbers → ℕ → ℕ
placement_refusal bytes d nword = refusal_in (placement_rules bytes d nword)
