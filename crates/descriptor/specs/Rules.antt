-- The rules of the first record as one table in the order of 01, refusals 1 to 11 and then 29.
use Rattle.std.specs.Prelude.{ℕ, zero, suc, ◌-◌, ◌/◌, ◌%◌, ◌^◌, Bool, not, ◌&&◌, List, [], ◌∷◌, ◌++◌, length, leb, ltb, eqb}
use Rattle.image.specs.Image.{part, all_zero}
use Rattle.words.specs.Word.{integer4, integer8, signed_of}
use Rattle.words.specs.Range.{within, at_least}
use Rattle.geometry.specs.declared.units.RecordNumber.{RecordNumber}
use Rattle.geometry.specs.declared.growth.Growth.{Growth}
use Rattle.geometry.specs.Units.{offset_of, first_record_offset_of, entries_before}
use Rattle.geometry.specs.Growth.{total_of, over_of}
use Rattle.layout.specs.FirstRecordWords.{after_aex}
use Rattle.descriptor.specs.declared.numbers.DescriptorNumbers.{DescriptorNumbers}
use Rattle.descriptor.specs.Refusal.{Rule, row, refusal_in}
use Rattle.descriptor.specs.FirstRecord.{numbers_of, addresses_of, mex_of, growth_in, free_of}
use Rattle.descriptor.specs.Areas.{areas_start, areas_end}

-- n entries fit nex extensions: both are 0, or n is at most the first nex capacities together and more than the first nex - 1 together
unfoldable pub entries_fit : Growth → ℕ → ℕ → Bool
entries_fit g zero n = eqb n 0
entries_fit g (suc k) n = leb n (total_of g (suc k)) && ltb (total_of g k) n

-- rules 2 to 8 but for the capacities: each setting and nex within its limits, over the count of bytes lent
abbrev pub limit_rules : ℕ → DescriptorNumbers → List Rule
limit_rules bytes d =
    row 2 (within 0 1 (signed_of integer4 d.order.0)) ∷
    row 3 (within 16 4096 (signed_of integer4 d.reclen)) ∷
    row 4 (leb bytes (2 ^ 30)) ∷
    row 4 (eqb (bytes % offset_of d.reclen) 0) ∷
    row 5 (within 1 3 (signed_of integer4 d.kind)) ∷
    row 6 (at_least 2 (signed_of integer4 d.vind)) ∷
    row 6 (within 3 256 (signed_of integer4 d.lind)) ∷
    row 7 (within 0 1 (signed_of integer4 d.flags)) ∷
    row 8 (within 1 4096 (signed_of integer4 d.lex1)) ∷
    row 8 (within 10 20 (signed_of integer4 d.gex)) ∷
    row 8 (within 0 (mex_of d.reclen) (signed_of integer4 d.nex)) ∷
    []

-- rules 2 to 8: the settings
abbrev pub setting_rules : ℕ → DescriptorNumbers → List Rule
setting_rules bytes d = limit_rules bytes d ++ row 8 (not (over_of (growth_in d) d.nex)) ∷ []

-- rules 9 and 10: the count of entries, and the next free record and word
abbrev pub count_rules : ℕ → DescriptorNumbers → List Rule
count_rules bytes d =
    row 9 (at_least 1 (signed_of integer8 d.xnext.0)) ∷
    row 9 (entries_fit (growth_in d) d.nex (entries_before d.xnext)) ∷
    row 10 (at_least 2 (signed_of integer8 d.nextrec.0)) ∷
    row 10 (within 1 d.reclen (signed_of integer4 d.nextword.0)) ∷
    row 10 (leb (free_of d) (bytes / 4)) ∷
    []

-- rules 9 to 11: how far the file is filled
abbrev pub filling_rules : ℕ → DescriptorNumbers → List RecordNumber → List Rule
filling_rules bytes d addresses = count_rules bytes d ++ row 11 (areas_start d addresses d.nex) ∷ row 11 (areas_end d addresses) ∷ []

-- rule 29: the words of the first record after the addresses in use, words 15 + 2 × nex to reclen, are zero
unfoldable pub no_leftovers : List ℕ → DescriptorNumbers → Bool
no_leftovers file d =
    let start = first_record_offset_of (after_aex d.nex) in
    let end = offset_of d.reclen in
    all_zero (part file start (end - start))

-- the refusal of the limits, 0 where all their rules hold
unfoldable pub limit_refusal : ℕ → DescriptorNumbers → ℕ
limit_refusal bytes d = refusal_in (limit_rules bytes d)

-- of the settings
unfoldable pub setting_refusal : ℕ → DescriptorNumbers → ℕ
setting_refusal bytes d = refusal_in (setting_rules bytes d)

-- of the counts: xnext and the next free word
unfoldable pub count_refusal : ℕ → DescriptorNumbers → ℕ
count_refusal bytes d = refusal_in (count_rules bytes d)

-- and of how far the file is filled: the counts and the index areas
unfoldable pub filling_refusal : ℕ → DescriptorNumbers → List RecordNumber → ℕ
filling_refusal bytes d addresses = refusal_in (filling_rules bytes d addresses)

-- the whole table
abbrev pub file_rules : List ℕ → DescriptorNumbers → List RecordNumber → List Rule
file_rules file d addresses =
    row 1 (leb 64 (length file)) ∷ setting_rules (length file) d ++ filling_rules (length file) d addresses ++ row 29 (no_leftovers file d) ∷ []

-- creation's: 1 to 8
abbrev pub creation_rules : ℕ → DescriptorNumbers → List Rule
creation_rules bytes d = row 1 (leb 64 bytes) ∷ setting_rules bytes d

-- the refusal of a file, 0 when its descriptor is admitted
unfoldable pub file_refusal : List ℕ → ℕ
file_refusal file = refusal_in (file_rules file (numbers_of file) (addresses_of file (numbers_of file).nex))
