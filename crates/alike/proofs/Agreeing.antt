-- Two files that hold the same bytes where an entry stands have the same entry there, and the same bytes of its parts. Assumes nothing.
use Prim.Native.Nat.{ℕ, ◌+◌, ◌*◌, ◌-◌}
use mathlib.Core.Path.{◌≡◌, ap, ◌∙◌}
use mathlib.Core.Logic.{inl, inr}
use mathlib.Mathlib.Data.Bool.Basic.{dichotomy}
use mathlib.Core.List.{List}
use native.Mathlib.Omega.{arith}
use borrow.Author.Tests.{ltb-true, eqb-false}
use lib.Dec.{eqb, ltb}
use lib.IntN.{ℤ}
use Rattle.image.specs.Image.{part}
use Rattle.geometry.specs.declared.units.RecordNumber.{RecordNumber}
use Rattle.geometry.specs.declared.units.EntryNumber.{EntryNumber}
use Rattle.descriptor.specs.declared.numbers.DescriptorNumbers.{DescriptorNumbers}
use Rattle.pieces.specs.declared.contents.Piece.{Piece}
use Rattle.pieces.specs.EntryDescriptor.{nsec_of, nword_of, section_of, data_of}
use Rattle.pieces.specs.Tables.{section_named}
use Rattle.pieces.proofs.Pieces.{Placed, section-placed, data-placed}
use Rattle.entry.specs.Opening.{slot_position_of, place_stored, start_of, entered_at, entered_of}
use Rattle.entry.proofs.Entering.{Opens, entry-opens, entered-numbers}
use Rattle.handing.specs.Parts.{piece_from, index_part, section_part, data_part, bytes_of}
use Rattle.alike.proofs.EntryFields.{bytes_same}
use Rattle.alike.proofs.Described.{Describes, index-place, section-place, data-place}

-- an entry that opens in a file, and another file that has its index and all its words where they were, and as many words and entries or more
pub record Agrees (f g : List ℕ) (d d' : DescriptorNumbers) (addresses addresses' : List RecordNumber) (e : EntryNumber) : Type 0 where
  pub described : Describes f g d d' addresses addresses' e
  pub same : part g (4 * (entered_of f d addresses e).start) (4 * (entered_of f d addresses e).nword)
      ≡ part f (4 * (entered_of f d addresses e).start) (4 * (entered_of f d addresses e).nword)

module _ (f g : List ℕ) (d d' : DescriptorNumbers) (addresses addresses' : List RecordNumber) (e : EntryNumber) (t : Agrees f g d d' addresses addresses' e) where
  abbrev start : ℕ
  start = start_of d (place_stored f (slot_position_of d addresses e))

  abbrev nsec : ℕ
  nsec = nsec_of f start

  abbrev nword : ℕ
  nword = nword_of f start

  opened : Opens f d e (place_stored f (slot_position_of d addresses e))
  opened = entry-opens f d addresses e t.described.admitted t.described.opens

  numbers : entered_of f d addresses e ≡ entered_at f d (place_stored f (slot_position_of d addresses e))
  numbers = entered-numbers f d addresses e t.described.opens

  -- the bytes of its index words
  pub index-there : bytes_of g (index_part g d' addresses' e) ≡ bytes_of f (index_part f d addresses e)
  unfolding index_part
  index-there =
      let slot = slot_position_of d addresses e in
      ap (bytes_of g) (index-place f g d d' addresses addresses' e t.described)
      ∙ rw numbers
      (bytes_same g f slot d.lind t.described.index (4 * (slot + 3)) (4 * (slot + 3) + 4 * (d.lind - 3) - 4 * (slot + 3)) (omega arith) (omega arith))

  -- the bytes of a piece that lies within it
  pub piece-there : (p : Piece) → Placed nsec nword p → bytes_of g (piece_from start p) ≡ bytes_of f (piece_from start p)
  piece-there p h =
      let at = 4 * (start + (p.address.0 - 1)) in
      bytes_same g f start nword (rw numbers at t.same) at (at + 4 * p.words - at) (omega arith) (omega (arith, h.first, h.last))

  -- of a section by its identifier
  pub section-there : (identifier : ℤ) → bytes_of g (section_part g d' addresses' e identifier) ≡ bytes_of f (section_part f d addresses e identifier)
  unfolding section_part part
  section-there identifier =
      let i = section_named f start identifier 0 nsec in
      ap (bytes_of g) (section-place f g d d' addresses addresses' e t.described identifier)
      ∙ rw numbers (elim (dichotomy (ltb i nsec)) [
        | inl q ↦ rw q
        | inr q ↦ rw q (piece-there (section_of f start nsec i) (section-placed f start nsec nword i nsec (ltb-true i nsec q) opened.sections-within))
      ])

  -- and of its data
  pub data-part-there : bytes_of g (data_part g d' addresses' e) ≡ bytes_of f (data_part f d addresses e)
  unfolding data_part part
  data-part-there =
      let array = data_of f start in
      ap (bytes_of g) (data-place f g d d' addresses addresses' e t.described)
      ∙ rw numbers (elim (dichotomy (eqb array.words 0)) [
        | inl q ↦ rw q (piece-there array (data-placed nsec nword array opened.nword-small (eqb-false array.words 0 q) opened.data-within))
        | inr q ↦ rw q
      ])
