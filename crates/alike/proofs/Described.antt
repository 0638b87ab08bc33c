-- The slot and the entry descriptor alone fix how an entry opens: two files that hold them alike have the same numbers, tables and places of parts. Assumes nothing.
use Prim.Native.Nat.{ℕ, ◌+◌, ◌*◌, ◌≤◌}
use mathlib.Core.Path.{◌≡◌, sym, ap, ◌∙◌}
use mathlib.Core.Bool.{true}
use mathlib.Core.Logic.{inl, inr}
use mathlib.Mathlib.Data.Bool.Basic.{dichotomy}
use mathlib.Core.List.{List}
use native.Mathlib.Omega.{arith}
use borrow.Author.Tests.{le-leb, ltb-true}
use lib.Dec.{ltb}
use lib.IntN.{ℤ}
use lib.ListN.{length}
use mir.Syntax.{w32}
use Rattle.image.specs.Image.{part}
use Rattle.words.specs.Word.{integer4, integer8, signed_of}
use Rattle.words.specs.Range.{within}
use Rattle.words.proofs.Access.{bits-alike}
use Rattle.geometry.specs.declared.units.RecordNumber.{RecordNumber}
use Rattle.geometry.specs.declared.units.EntryNumber.{EntryNumber}
use Rattle.geometry.specs.declared.units.Place.{Place}
use Rattle.geometry.specs.Units.{position_of, entries_before}
use Rattle.layout.specs.FileCode.{byte_order_of}
use Rattle.layout.specs.EntryWords.{version_word, nsec_word, nword_word, xnum_word, descriptor_words}
use Rattle.descriptor.specs.declared.numbers.DescriptorNumbers.{DescriptorNumbers}
use Rattle.descriptor.specs.Refusal.{refusal_in}
use Rattle.descriptor.specs.FirstRecord.{free_of}
use Rattle.descriptor.specs.Bounds.{Admitted}
use Rattle.descriptor.proofs.Refusals.{refusal-none, all_hold, hold-split}
use Rattle.pieces.specs.EntryDescriptor.{nsec_of, nword_of, data_of}
use Rattle.pieces.specs.Tables.{section_named}
use Rattle.entry.specs.Opening.{slot_position_of, place_stored, start_of, number_rules, start_rules, head_rules, entry_rules, entry_refusal, entered_of}
use Rattle.entry.specs.Answers.{opened_as}
use Rattle.entry.proofs.Entering.{Opens, entry-opens, entered-numbers, contents, after_start, after_number}
use Rattle.handing.specs.Parts.{index_part, section_part, data_part}
use Rattle.alike.proofs.EntryFields.{bytes_same, word4-same, word8-same, code_same, data-same, section-same, content-same, tables-same, named-same}

-- an entry that opens in a file, and another file of the same order that has its index and its descriptor where they were, and as many words and entries or more
pub record Describes (f g : List ℕ) (d d' : DescriptorNumbers) (addresses addresses' : List RecordNumber) (e : EntryNumber) : Type 0 where
  pub admitted : Admitted (length f) d addresses
  pub opens : entry_refusal f d addresses e ≡ 0
  pub order : byte_order_of g ≡ byte_order_of f
  pub reclen : d'.reclen ≡ d.reclen
  pub lind : d'.lind ≡ d.lind
  pub entries : entries_before d.xnext ≤ entries_before d'.xnext
  pub free : free_of d ≤ free_of d'
  pub slot : slot_position_of d' addresses' e ≡ slot_position_of d addresses e
  pub index : part g (4 * slot_position_of d addresses e) (4 * d.lind) ≡ part f (4 * slot_position_of d addresses e) (4 * d.lind)
  pub same : part g (4 * (entered_of f d addresses e).start) (4 * descriptor_words (entered_of f d addresses e).nsec)
      ≡ part f (4 * (entered_of f d addresses e).start) (4 * descriptor_words (entered_of f d addresses e).nsec)

module _ (f g : List ℕ) (d d' : DescriptorNumbers) (addresses addresses' : List RecordNumber) (e : EntryNumber) (t : Describes f g d d' addresses addresses' e) where
  abbrev place : Place
  place = place_stored f (slot_position_of d addresses e)

  abbrev start : ℕ
  start = start_of d place

  abbrev nsec : ℕ
  nsec = nsec_of f start

  abbrev nword : ℕ
  nword = nword_of f start

  opened : Opens f d e place
  opened = entry-opens f d addresses e t.admitted t.opens

  abbrev words : ℕ
  words = descriptor_words nsec

  entry-bytes : part g (4 * start) (4 * words) ≡ part f (4 * start) (4 * words)
  entry-bytes = rw (entered-numbers f d addresses e t.opens) at t.same

  -- its slot names the same place
  place-there : place_stored g (slot_position_of d' addresses' e) ≡ place
  unfolding place_stored
  place-there =
      let slot = slot_position_of d addresses e in
      let within = bytes_same g f slot d.lind t.index in
      let first = bits-alike integer8 g f (4 * slot) (4 * slot) t.order (within (4 * slot) 8 (omega arith) (omega arith)) in
      let second = bits-alike integer4 g f (4 * (slot + 2)) (4 * (slot + 2)) t.order (within (4 * (slot + 2)) 4 (omega arith) (omega arith)) in
      rw (t.slot, first, second)

  start-there : start_of d' place ≡ start
  start-there = ap (λ (n : ℕ). position_of n place.«record» place.word) t.reclen

  nsec-there : nsec_of g start ≡ nsec
  nsec-there = word4-same g f t.order start words entry-bytes nsec_word (omega arith) (omega arith)

  nword-there : nword_of g start ≡ nword
  nword-there = word8-same g f t.order start words entry-bytes nword_word (omega arith) (omega arith)

  data-there : data_of g start ≡ data_of f start
  data-there = data-same g f t.order start words entry-bytes (omega arith)

  -- the entry opens there too: each rule holds as it does here
  pub opens-there : entry_refusal g d' addresses' e ≡ 0
  unfolding entry_refusal
  opens-there =
      let number = hold-split (number_rules d e) (after_number f d e place) (all_hold (entry_rules f d e place) (omega arith) t.opens) in
      let begin = hold-split (start_rules d place) (after_start f d e place) number.1 in
      let head = hold-split (head_rules f d start e) (contents f d place) begin.1 in
      let more = le-leb e.0 (entries_before d'.xnext) (omega (arith, opened.number-high, t.entries)) in
      let word : within 1 d'.reclen (signed_of w32 place.word.0) ≡ true = rw t.reclen begin.0.1.0 in
      let described = le-leb (start + 11) (free_of d') (omega (arith, t.free, opened.nword-low, opened.ends)) in
      let ends = le-leb (start + nword) (free_of d') (omega (arith, t.free, opened.ends)) in
      let code = code_same g f t.order start words entry-bytes (omega arith) in
      let xnum = word8-same g f t.order start words entry-bytes xnum_word (omega arith) (omega arith) in
      let content = content-same g f t.order start words entry-bytes nsec (omega arith) nword (data_of f start) in
      rw (place-there, start-there, code, nsec-there, nword-there, xnum, data-there)
      (rw (number.0.0, more, begin.0.0, word, described, head.0.0, head.0.1.0, head.0.1.1.0, ends, head.0.1.1.1.1.0)
      (ap refusal_in content ∙ refusal-none (contents f d place) head.1))

  -- with the same numbers
  pub entered-there : entered_of g d' addresses' e ≡ entered_of f d addresses e
  entered-there =
      let version = ap (signed_of w32) (word4-same g f t.order start words entry-bytes version_word (omega arith) (omega arith)) in
      entered-numbers g d' addresses' e opens-there
      ∙ rw (place-there, start-there, version, nsec-there, nword-there, data-there) (sym (entered-numbers f d addresses e t.opens))

  -- its tables
  pub open-there : opened_as g (entered_of g d' addresses' e) ≡ opened_as f (entered_of f d addresses e)
  unfolding opened_as
  open-there =
      rw (entered-there, entered-numbers f d addresses e t.opens, tables-same g f t.order start words entry-bytes nsec (omega arith))

  -- and the places of its parts
  pub index-place : index_part g d' addresses' e ≡ index_part f d addresses e
  unfolding index_part
  index-place = rw (entered-there, entered-numbers f d addresses e t.opens, t.slot, t.lind)

  -- of a section
  pub section-place : (identifier : ℤ) → section_part g d' addresses' e identifier ≡ section_part f d addresses e identifier
  unfolding section_part
  section-place identifier =
      let i = section_named f start identifier 0 nsec in
      rw (entered-there, entered-numbers f d addresses e t.opens, named-same g f t.order start words entry-bytes nsec (omega arith) identifier 0 nsec (omega arith))
      (elim (dichotomy (ltb i nsec)) [
        | inl q ↦ rw q
        | inr q ↦ rw (q, section-same g f t.order start words entry-bytes nsec (omega arith) i (ltb-true i nsec q))
      ])

  -- of its data
  pub data-place : data_part g d' addresses' e ≡ data_part f d addresses e
  unfolding data_part
  data-place = rw (entered-there, entered-numbers f d addresses e t.opens)
