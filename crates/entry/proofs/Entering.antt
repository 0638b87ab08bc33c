-- What the rules 12 to 19 leave of an entry of admitted numbers, once they are passed. Assumes nothing.
use native.Mathlib.Decide.{ℕ_discrete}
use borrow.Author.Rules.{rules}
use Rattle.descriptor.proofs.Passed.{place-bounds, place-behind}
use Prim.Native.Nat.{ℕ, ◌+◌, ◌*◌, ◌^◌, ◌≤◌, ◌<◌}
use mathlib.Core.Path.{◌≡◌, refl, sym, ap, ◌∙◌}
use mathlib.Core.Bool.{true, false, cond}
use mathlib.Core.List.{List, ◌++◌}
use native.Mathlib.Omega.{arith}
use borrow.Author.Tests.{leb-true, le-leb, lt-leb, eqb-true, ne_eqb}
use lib.Dec.{eqb}
use lib.ListN.{length}
use mir.Syntax.{w32, w64}
use Rattle.words.specs.Code.{same_numbers}
use Rattle.words.proofs.Ranges.{within-bounds, at_least-bounds}
use Rattle.geometry.specs.declared.units.RecordNumber.{RecordNumber}
use Rattle.geometry.specs.declared.units.EntryNumber.{EntryNumber}
use Rattle.geometry.specs.declared.units.Place.{Place}
use Rattle.geometry.specs.declared.area.Slot.{Slot}
use Rattle.geometry.specs.Units.{entries_before}
use Rattle.geometry.specs.Growth.{capacity_of}
use Rattle.geometry.specs.Area.{slot_of}
use Rattle.geometry.proofs.Slots.{Stands, slot-stands, slot-within, records-hold}
use Rattle.descriptor.specs.declared.numbers.DescriptorNumbers.{DescriptorNumbers}
use Rattle.descriptor.specs.Refusal.{Rule, refusal_in}
use Rattle.descriptor.specs.FirstRecord.{aex_of, growth_in, free_of}
use Rattle.descriptor.specs.Bounds.{Admitted}
use Rattle.descriptor.proofs.Refusals.{refusal-append, refusal-none, all_hold, hold-split}
use Rattle.descriptor.proofs.Fitting.{fit-reach}
use Rattle.descriptor.proofs.AreaOrder.{area-ends, area-words, area-first}
use Rattle.layout.specs.FileCode.{byte_order_of}
use Rattle.layout.specs.EntryWords.{entry_code}
use Rattle.pieces.specs.EntryDescriptor.{entry_code_of, nsec_of, nword_of, xnum_of, data_of}
use Rattle.pieces.specs.Contents.{data_within, sections_within, sections_apart, data_apart}
use Rattle.pieces.specs.Bounds.{Described}
use Rattle.entry.specs.Opening.{slot_position_of, place_stored, start_of, number_rules, start_rules, head_rules, content_rules, start_refusal, head_refusal, content_refusal, entry_rules, entry_refusal, not_entered, entered_at, numbers_of, entered_of}
use Rattle.entry.specs.declared.entered.Entered.{Entered as Numbers}
use Rattle.entry.specs.Entered.{given}
use Rattle.outcome.specs.declared.refusal.Refusal.{Refusal}
use Rattle.outcome.specs.Refusal.{number_of}
use Rattle.outcome.proofs.Refusals.{number-positive}

-- the words of an admitted file lie within its bytes
pub free-within : (bytes : ℕ) (d : DescriptorNumbers) (addresses : List RecordNumber) → Admitted bytes d addresses → 4 * free_of d ≤ bytes
free-within bytes d addresses a = omega (arith, a.room)

module _ (bytes : ℕ) (d : DescriptorNumbers) (addresses : List RecordNumber) (a : Admitted bytes d addresses) (e : EntryNumber)
    (low : 1 ≤ e.0) (high : e.0 ≤ entries_before d.xnext) where
  -- the slot of an entry in use stands in an area in use
  pub slot-in-use : Stands (growth_in d) d.nex d.lind e.0 (slot_of (growth_in d) d.nex d.lind e)
  slot-in-use =
      slot-stands (growth_in d) d.nex d.lind e low
      (omega (arith, fit-reach (growth_in d) (entries_before d.xnext) d.nex a.fit))

  -- so does one that was found to be it
  pub slot-found : {s : Slot} → s ≡ slot_of (growth_in d) d.nex d.lind e → Stands (growth_in d) d.nex d.lind e.0 s
  slot-found q = rw q slot-in-use

  -- it ends before the next free position
  pub slot-inside : slot_position_of d addresses e + d.lind ≤ free_of d
  unfolding slot_position_of
  slot-inside =
      let s = slot_of (growth_in d) d.nex d.lind e in
      let k = s.extension.0 in
      let u = slot-in-use in
      let area = area-words bytes d addresses a k u.held.counted u.used in
      let enough = records-hold (capacity_of (growth_in d) k * d.lind) d.reclen (omega (arith, a.settled.reclen-low)) in
      omega (arith, slot-within (growth_in d) d.nex d.lind e.0 s u, area-ends bytes d addresses a k u.used)

  -- and so within the bytes lent
  pub slot_lent : 4 * (slot_position_of d addresses e + d.lind) ≤ bytes
  slot_lent = omega (arith, slot-inside, a.room)

  -- it stands behind the first record
  pub slot-low : d.reclen ≤ slot_position_of d addresses e
  unfolding slot_position_of
  slot-low =
      let k = (slot_of (growth_in d) d.nex d.lind e).extension.0 in
      let first = area-first bytes d addresses a k slot-in-use.held.counted slot-in-use.used in
      omega (arith, place-behind d.reclen (aex_of addresses k) (record { 0 = 1 }) first.0)

-- what holds of entry e, which starts at a place, once its rules are passed
pub record Opens (file : List ℕ) (d : DescriptorNumbers) (e : EntryNumber) (place : Place) : Type 0 where
  pub number-low : 1 ≤ e.0
  pub number-high : e.0 ≤ entries_before d.xnext
  pub record-low : 2 ≤ place.«record».0
  pub record-high : place.«record».0 ≤ 2 ^ 32
  pub word_low : 1 ≤ place.word.0
  pub word-high : place.word.0 ≤ d.reclen
  pub code : same_numbers (entry_code_of file (start_of d place)) entry_code ≡ true
  pub described : Described (byte_order_of file) file (start_of d place) (nsec_of file (start_of d place))
  pub nword-low : 11 + 5 * nsec_of file (start_of d place) ≤ nword_of file (start_of d place)
  pub nword-small : nword_of file (start_of d place) < 2 ^ 32
  pub ends : start_of d place + nword_of file (start_of d place) ≤ free_of d
  pub xnum : xnum_of file (start_of d place) ≡ e.0
  pub ldata-small : (data_of file (start_of d place)).words < 2 ^ 63
  pub data-within : data_within (nsec_of file (start_of d place)) (nword_of file (start_of d place)) (data_of file (start_of d place)) ≡ true
  pub sections-within : sections_within file (start_of d place) (nsec_of file (start_of d place)) (nword_of file (start_of d place)) (nsec_of file (start_of d place)) ≡ true
  pub sections-apart : sections_apart file (start_of d place) (nsec_of file (start_of d place)) (nsec_of file (start_of d place)) ≡ true
  pub data-apart : data_apart file (start_of d place) (nsec_of file (start_of d place)) (data_of file (start_of d place)) ≡ true

-- what the part of rule 13 leaves
pub record Begins (d : DescriptorNumbers) (place : Place) : Type 0 where
  pub record-low : 2 ≤ place.«record».0
  pub record-high : place.«record».0 ≤ 2 ^ 32
  pub word_low : 1 ≤ place.word.0
  pub word-high : place.word.0 ≤ d.reclen
  pub ends : start_of d place + 11 ≤ free_of d

-- a place that rule 13 does not refuse
pub start-passed : (bytes : ℕ) (d : DescriptorNumbers) (addresses : List RecordNumber) (place : Place) → Admitted bytes d addresses → start_refusal d place ≡ 0 → Begins d place
unfolding start_refusal
start-passed bytes d addresses place a z =
    let h = all_hold (start_rules d place) (omega arith) z in
    let ends = leb-true (start_of d place + 11) (free_of d) h.1.1.0 in
    omega (arith, place-bounds d place.«record» place.word a.settled h.0 h.1.0 (omega (arith, a.room, a.lent.high)))

-- what is left of the table behind the entry descriptor
abbrev pub contents : List ℕ → DescriptorNumbers → Place → List Rule
contents file d place =
    let start = start_of d place in
    content_rules file start (nsec_of file start) (nword_of file start) (data_of file start)

-- behind the start
abbrev pub after_start : List ℕ → DescriptorNumbers → EntryNumber → Place → List Rule
after_start file d e place = head_rules file d (start_of d place) e ++ contents file d place

-- behind the number
abbrev pub after_number : List ℕ → DescriptorNumbers → EntryNumber → Place → List Rule
after_number file d e place = start_rules d place ++ after_start file d e place

-- what the rules up to 16 leave, before the contents are looked at
pub record Heads (file : List ℕ) (d : DescriptorNumbers) (start : ℕ) : Type 0 where
  pub described : Described (byte_order_of file) file start (nsec_of file start)
  pub nword-low : 11 + 5 * nsec_of file start ≤ nword_of file start
  pub nword-small : nword_of file start < 2 ^ 32
  pub ends : start + nword_of file start ≤ free_of d

module _ (file : List ℕ) (d : DescriptorNumbers) (addresses : List RecordNumber) (start : ℕ) (e : EntryNumber)
    (a : Admitted (length file) d addresses) (begin : start + 11 ≤ free_of d) where
  -- an entry that they do not refuse
  pub head_passed : head_refusal file d start e ≡ 0 → Heads file d start
  unfolding head_refusal
  head_passed z =
      let h = all_hold (head_rules file d start e) (omega arith) z in
      let nsec = within-bounds w32 0 64 (nsec_of file start) (omega arith) h.1.0 in
      let nword = at_least-bounds w64 (11 + 5 * nsec_of file start) (nword_of file start) h.1.1.0 in
      let ends = leb-true (start + nword_of file start) (free_of d) h.1.1.1.0 in
      let inside = free-within (length file) d addresses a in
      record {
        described = record { coded = refl; sections = nsec.1; lent = a.lent.high; within = omega arith };
        nword-low = nword.0;
        nword-small = omega (arith, a.lent.high);
        ends = ends;
      }

module _ (file : List ℕ) (d : DescriptorNumbers) (addresses : List RecordNumber) (e : EntryNumber) where
  abbrev here : Place
  here = place_stored file (slot_position_of d addresses e)

  -- an entry with no refusal opens, at the place that its slot names
  pub entry-opens : Admitted (length file) d addresses → entry_refusal file d addresses e ≡ 0 → Opens file d e here
  unfolding entry_refusal start_refusal head_refusal
  entry-opens a z =
      let start = start_of d here in
      let number = hold-split (number_rules d e) (after_number file d e here) (all_hold (entry_rules file d e here) (omega arith) z) in
      let begin = hold-split (start_rules d here) (after_start file d e here) number.1 in
      let rest = hold-split (head_rules file d start e) (contents file d here) begin.1 in
      let bounds = start-passed (length file) d addresses here a (refusal-none (start_rules d here) begin.0) in
      let head = head_passed file d addresses start e a bounds.ends (refusal-none (head_rules file d start e) rest.0) in
      let low = leb-true 1 e.0 number.0.0 in
      let high = leb-true e.0 (entries_before d.xnext) number.0.1.0 in
      let xnum = eqb-true (xnum_of file start) e.0 rest.0.1.1.1.1.0 in
      let ldata = (at_least-bounds w64 0 (data_of file start).words rest.1.0).1 in
      search rules

  -- its numbers are those at that place
  pub entered-numbers : entry_refusal file d addresses e ≡ 0 → entered_of file d addresses e ≡ entered_at file d here
  unfolding entered_of
  entered-numbers z = simp z

  -- and one with a refusal has none
  pub entered-refused : (n : ℕ) → entry_refusal file d addresses e ≡ n → eqb n 0 ≡ false → entered_of file d addresses e ≡ not_entered n
  unfolding entered_of
  entered-refused n z h = simp (z, h)

  -- so is a call's answer that gives them
  pub entered-given : {x : Numbers} → (entry_refusal file d addresses e ≡ 0) × (x ≡ numbers_of file d addresses e) → given x ≡ entered_of file d addresses e
  entered-given h = ap given h.1 ∙ sym (entered-numbers h.0)

  -- and one that refuses
  pub entered-not : (r : Refusal) → number_of r ≡ entry_refusal file d addresses e → not_entered (number_of r) ≡ entered_of file d addresses e
  entered-not r h = sym (entered-refused (number_of r) (sym h) (ne_eqb (number_of r) 0 (number-positive r)))

  -- the refusal of what was entered is the entry's
  pub entered-refusal : (entered_of file d addresses e).refusal ≡ entry_refusal file d addresses e
  entered-refusal =
      elim (ℕ_discrete (entry_refusal file d addresses e) 0) [
        | yes z ↦ rw (entered-numbers z) (sym z)
        | no z ↦ rw (entered-refused (entry_refusal file d addresses e) refl (ne_eqb (entry_refusal file d addresses e) 0 z))
      ]

  -- a number that no entry has is refused by 12
  pub entry-number : refusal_in (number_rules d e) ≡ 12 → entry_refusal file d addresses e ≡ 12
  unfolding entry_refusal
  entry-number h = refusal-append (number_rules d e) (after_number file d e here) (omega arith) ∙ rw h

  -- as is one below 1, and one past the file's
  pub number_low : e.0 < 1 → entry_refusal file d addresses e ≡ 12
  number_low low = entry-number (rw (lt-leb 1 e.0 low))

  pub number_high : 1 ≤ e.0 → entries_before d.xnext < e.0 → entry_refusal file d addresses e ≡ 12
  number_high some past = entry-number (rw (le-leb 1 e.0 some, lt-leb e.0 (entries_before d.xnext) past))

  rest : refusal_in (number_rules d e) ≡ 0
      → let start = start_of d here in
      let content = content_refusal file start (nsec_of file start) (nword_of file start) (data_of file start) in
      entry_refusal file d addresses e
      ≡ cond (eqb (start_refusal d here) 0) (cond (eqb (head_refusal file d start e) 0) content (head_refusal file d start e)) (start_refusal d here)
  unfolding entry_refusal start_refusal head_refusal content_refusal
  rest h =
      refusal-append (number_rules d e) (after_number file d e here) (omega arith) ∙ rw h
      (refusal-append (start_rules d here) (after_start file d e here) (omega arith)
      ∙ ap (λ (n : ℕ). cond (eqb (refusal_in (start_rules d here)) 0) n (refusal_in (start_rules d here)))
      (refusal-append (head_rules file d (start_of d here) e) (contents file d here) (omega arith)))

  module _ (number : refusal_in (number_rules d e) ≡ 0) (place : Place) (is : place ≡ here) where
    abbrev start : ℕ
    start = start_of d place

    -- the refusal of the start is the entry's
    pub refused-start : (n : ℕ) → start_refusal d place ≡ n → eqb n 0 ≡ false → entry_refusal file d addresses e ≡ n
    refused-start n z h = rest number ∙ rw (← is, z, h)

    -- and so is that of the head
    pub refused-head : (n : ℕ) → start_refusal d place ≡ 0 → head_refusal file d start e ≡ n → eqb n 0 ≡ false → entry_refusal file d addresses e ≡ n
    refused-head n s z h = rest number ∙ rw (← is, s, z, h)

    -- behind the head the refusal is that of the contents
    pub entry-content : (n : ℕ) → start_refusal d place ≡ 0 → head_refusal file d start e ≡ 0
        → content_refusal file start (nsec_of file start) (nword_of file start) (data_of file start) ≡ n → entry_refusal file d addresses e ≡ n
    entry-content n s t z = rest number ∙ rw (← is, s, t, z)
