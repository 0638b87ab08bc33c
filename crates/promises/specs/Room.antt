-- Room for an entry (Q-13 of 02): the places where it can stand, with a new index area before it where one is needed, and what an answer says of them.
use Rattle.std.specs.Prelude.{ℕ, ◌+◌, ◌*◌, ◌/◌, ◌≤◌, ◌≡◌, ◌⊎◌, ◌↔◌, Bool, true, false, not, ◌&&◌, ◌||◌, List, [], ◌∷◌, leb, ltb, length, take, drop}
use Rattle.geometry.specs.declared.units.RecordNumber.{RecordNumber}
use Rattle.geometry.specs.declared.units.EntryNumber.{EntryNumber}
use Rattle.geometry.specs.Units.{position_of}
use Rattle.geometry.specs.Growth.{capacity_of, total_of}
use Rattle.geometry.specs.Area.{area_records}
use Rattle.descriptor.specs.declared.numbers.DescriptorNumbers.{DescriptorNumbers}
use Rattle.descriptor.specs.FirstRecord.{aex_of, mex_of, growth_in, free_of, numbers_of}
use Rattle.descriptor.specs.Rules.{file_refusal}
use Rattle.descriptor.specs.Answers.{validation_of}
use Rattle.storing.specs.Handed.{Handed, Integers, nword_in}
use Rattle.writer.specs.declared.answers.Appended.{Appended}
use Rattle.writer.specs.Rules.{handed_refusal}
use Rattle.writer.specs.Answers.{append_of, file_after}
use Rattle.batch.specs.declared.answers.Batched.{Batched}
use Rattle.batch.specs.Batch.{Batch, IntegersIn, entries_in}
use Rattle.through.specs.Answers.{no_append}
use Rattle.promises.specs.Contents.{numbers_in, opened_in, start_in}

-- ---- the places

-- a place for an entry: the position of its first word, and the first record of the new index area, which counts only where one is needed
pub record EntryPlace : Type 0 where
  pub start : ℕ
  pub area : RecordNumber

-- a new index area is needed: entry n + 1, whose number is xnext, exceeds the capacities in use
abbrev pub needs_area : DescriptorNumbers → Bool
needs_area d = ltb (total_of (growth_in d) d.nex) d.xnext.0

-- the first record has a place for the address of another extension: nex is below mex
abbrev pub below_mex : DescriptorNumbers → Bool
below_mex d = ltb d.nex (mex_of d.reclen)

-- the capacity that the next extension has
abbrev pub capacity_next : DescriptorNumbers → ℕ
capacity_next d = capacity_of (growth_in d) (d.nex + 1)

-- it is admitted: at most 16,384
abbrev pub capacity_admitted : DescriptorNumbers → Bool
capacity_admitted d = leb (capacity_next d) 16384

-- so another extension may be made
abbrev pub may_extend : DescriptorNumbers → Bool
may_extend d = below_mex d && capacity_admitted d

-- an extension is needed, and none may be made
abbrev pub Unextendable : DescriptorNumbers → Type 0
Unextendable d = (needs_area d ≡ true) × (may_extend d ≡ false)

-- a position is at or after the next free word
abbrev pub from_free : DescriptorNumbers → ℕ → Bool
from_free d p = leb (free_of d) p

-- the position where the new index area starts whose first record is r
abbrev pub area_first : DescriptorNumbers → RecordNumber → ℕ
area_first d r = position_of d.reclen r (record { 0 = 1 })

-- and where it ends, with its last record
abbrev pub area_end : DescriptorNumbers → RecordNumber → ℕ
area_end d r = area_first d r + area_records (capacity_next d) d.lind d.reclen * d.reclen

-- it stands before an entry at a position: it starts at or after the next free word, and ends at or before that position
abbrev pub area_stands : DescriptorNumbers → RecordNumber → ℕ → Bool
area_stands d r start = from_free d (area_first d r) && leb (area_end d r) start

-- an entry of nword words stands at a position: at or after the next free word, and within a buffer of so many bytes
abbrev pub entry_stands : ℕ → DescriptorNumbers → ℕ → ℕ → Bool
entry_stands bytes d nword start = from_free d start && leb (start + nword) (bytes / 4)

-- so a place is admissible: the entry stands there, and where a new area is needed, it may be made and stands before the entry
abbrev pub admissible : ℕ → DescriptorNumbers → ℕ → EntryPlace → Bool
admissible bytes d nword p =
    entry_stands bytes d nword p.start && (not (needs_area d) || may_extend d && area_stands d p.area p.start)

-- ---- in a file

-- a place of a file is admissible for what is handed in
abbrev pub Admissible : List ℕ → Handed → EntryPlace → Type 0
Admissible file h p = admissible (length file) (numbers_of file) (nword_in h) p ≡ true

-- there is none
abbrev pub NoPlace : List ℕ → Handed → Type 0
NoPlace file h = (p : EntryPlace) → Admissible file h p → ⊥

-- the file is admitted, by 1 to 11 and 29, and what is handed in passes 21 and 22
pub record Ready (file : List ℕ) (h : Handed) : Type 0 where
  pub admitted : file_refusal file ≡ 0
  pub handed : handed_refusal (numbers_of file) h.index h.ids h.lengths h.sections h.values ≡ 0

-- the place of entry e of a file, as opening it and validating the file give it: its start, and the last index area
abbrev pub place_in : List ℕ → EntryNumber → EntryPlace
place_in file e = record { start = start_in file e; area = aex_of (validation_of file).addresses (numbers_in file).nex }

-- ---- what an answer says

-- no room: 23 or 24
abbrev pub NoRoom : ℕ → Type 0
NoRoom refusal = (refusal ≡ 23) ⊎ (refusal ≡ 24)

-- the file after an append holds what was handed in as entry e, at the best place of the file before it
pub record BestPlace (file : List ℕ) (h : Handed) (after : List ℕ) (e : EntryNumber) : Type 0 where
  -- the entry opens, and has the words that were handed in
  pub opens : (opened_in after e).refusal ≡ 0
  pub words : (opened_in after e).nword ≡ nword_in h
  -- its place was admissible
  pub place : Admissible file h (place_in after e)
  -- and no place that was ends earlier than the entry does
  pub earliest : (p : EntryPlace) → Admissible file h p → start_in after e + (opened_in after e).nword ≤ p.start + nword_in h

-- what an append to a file means that answers so and leaves this file
pub record RoomMeans (file : List ℕ) (h : Handed) (answer : Appended) (after : List ℕ) : Type 0 where
  -- it is accepted exactly when file and input are ready and there is an admissible place
  pub accepted : (answer.refusal ≡ 0) ↔ (Ready file h × ((p : EntryPlace) × Admissible file h p))
  -- it answers 23 or 24 exactly when they are ready and there is none
  pub refused : NoRoom answer.refusal ↔ (Ready file h × NoPlace file h)
  -- 23 where an extension is needed and none may be made
  pub by-23 : (answer.refusal ≡ 23) ↔ (Ready file h × Unextendable (numbers_of file))
  -- else 24
  pub by-24 : (answer.refusal ≡ 24) ↔ (Ready file h × NoPlace file h × (Unextendable (numbers_of file) → ⊥))
  -- where it is accepted, the entry stands at the best place
  pub best : Integers h → answer.refusal ≡ 0 → BestPlace file h after answer.number

-- ---- batches

-- each of these entries, appended in turn, stands at the best place of the file as the one before it left it
abbrev pub BestInTurn : List ℕ → List Handed → Type 0
BestInTurn file [] = Unit
BestInTurn file (h ∷ hs) = BestPlace file h (file_after file h) (append_of file h).number × BestInTurn (file_after file h) hs

-- a refusal before these entries is none where none is left, else it means what it does of an append of the next, which leaves the file
abbrev pub MeansNext : List Handed → List ℕ → ℕ → Type 0
MeansNext [] file refusal = refusal ≡ 0
MeansNext (h ∷ hs) file refusal = RoomMeans file h (no_append refusal) file

-- what a batch means that answers so and leaves this file
pub record BatchMeans (file : List ℕ) (b : Batch) (answer : Batched) (after : List ℕ) : Type 0 where
  -- the entries that it accepts stand each at the best place
  pub accepted : IntegersIn b → BestInTurn file (take answer.accepted (entries_in b))
  -- and its refusal means what it does of the next one, on the file that it leaves
  pub ends : MeansNext (drop answer.accepted (entries_in b)) after answer.refusal
