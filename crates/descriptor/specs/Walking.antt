-- What the one walk over the extensions in use finds: whether a capacity is over the limit, the totals, and the end of the areas.
use Rattle.std.specs.Prelude.{ℕ, ◌+◌, ◌-◌, Bool, false, cond, ◌&&◌, Option, Some, None, List, length, replicate, leb, eqb}
use Rattle.geometry.specs.declared.units.RecordNumber.{RecordNumber}
use Rattle.words.specs.Word.{integer8, signed_of}
use Rattle.words.specs.Range.{at_least}
use Rattle.geometry.specs.Units.{position_of}
use Rattle.geometry.specs.Growth.{total_of, over_of}
use Rattle.geometry.specs.Area.{area_records}
use Rattle.geometry.specs.Totals.{totals_of}
use Rattle.descriptor.specs.declared.numbers.DescriptorNumbers.{DescriptorNumbers}
use Rattle.descriptor.specs.declared.walking.Walked.{Walked}
use Rattle.descriptor.specs.FirstRecord.{numbers_of, growth_in, free_of}
use Rattle.descriptor.specs.Areas.{area_after, areas_start}
use Rattle.descriptor.specs.Rules.{setting_refusal}

-- the record after area k where the first k areas keep their order
unfoldable pub ordered_after : DescriptorNumbers → List RecordNumber → ℕ → Option RecordNumber
ordered_after d addresses k = cond (areas_start d addresses k) (Some (area_after d addresses k)) None

-- the record after one area more, by the one after those before it and its own first record and capacity
unfoldable pub area_added : DescriptorNumbers → Option RecordNumber → RecordNumber → ℕ → Option RecordNumber
area_added d None first capacity = None
area_added d (Some after) first capacity =
    cond (at_least after.0 (signed_of integer8 first.0)) (Some (record { 0 = first.0 + area_records capacity d.lind d.reclen })) None

-- rule 11 by the record after the last area, which there is where the areas keep their order
unfoldable pub areas_hold : DescriptorNumbers → Option RecordNumber → Bool
areas_hold d None = false
areas_hold d (Some after) = leb (position_of d.reclen after (record { 0 = 1 })) (free_of d)

-- the record after the last area, where the areas keep their order, and the totals without the last extension and with it; nothing where a capacity is over the limit
unfoldable pub walked_of : DescriptorNumbers → List RecordNumber → Option Walked
walked_of d addresses =
    let g = growth_in d in
    cond (over_of g d.nex) None (Some (record { after = ordered_after d addresses d.nex; before = total_of g (d.nex - 1); total = total_of g d.nex }))

-- the totals of the extensions in use, zeros where a capacity is over the limit
unfoldable pub walked_totals : DescriptorNumbers → List ℕ
walked_totals d = cond (over_of (growth_in d) d.nex) (replicate 16 0) (totals_of (growth_in d) d.nex)

-- the totals of a file whose settings pass, zeros for any other
unfoldable pub totals_in : List ℕ → List ℕ
totals_in file =
    let d = numbers_of file in
    cond (leb 64 (length file) && eqb (setting_refusal (length file) d) 0) (totals_of (growth_in d) d.nex) (replicate 16 0)
