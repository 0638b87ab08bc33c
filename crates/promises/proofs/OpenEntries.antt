-- An entry that opens, as a reader finds it: its numbers, where it starts, and the sections of its tables. Assumes nothing.
use Prim.Native.Nat.{ℕ, ◌-◌, ◌≤◌}
use mathlib.Core.Path.{◌≡◌, ap₂, ◌∙◌}
use mathlib.Core.List.{List}
use native.Mathlib.Omega.{arith}
use lib.IntN.{pos}
use lib.ListN.{length, get_or}
use Rattle.words.proofs.Table.{places-at}
use Rattle.geometry.specs.declared.units.RecordNumber.{RecordNumber}
use Rattle.geometry.specs.declared.units.EntryNumber.{EntryNumber}
use Rattle.descriptor.specs.declared.numbers.DescriptorNumbers.{DescriptorNumbers}
use Rattle.descriptor.specs.Bounds.{Admitted}
use Rattle.pieces.specs.declared.contents.Piece.{Piece}
use Rattle.pieces.specs.EntryDescriptor.{identifier_at, section_of}
use Rattle.pieces.specs.Tables.{section_identifiers, section_lengths, section_addresses, sections_of}
use Rattle.pieces.proofs.Pieces.{Placed, section-placed}
use Rattle.entry.specs.Entered.{Entered}
use Rattle.entry.specs.declared.answers.Open.TheVariants as answers
use Rattle.entry.specs.Opening.{place_stored, slot_position_of, entry_refusal, entered_at}
use Rattle.entry.specs.Answers.{opened_as, open_of, data_place_of}
use Rattle.entry.proofs.Entering.{Opens, entry-opens, entered-numbers}
use Rattle.entry.proofs.OpenedEntry.{open-numbers}
use Rattle.handing.specs.Parts.{piece_from, bytes_of}
use Rattle.descriptor.specs.Answers.{Validates}
use Rattle.promises.specs.Contents.{start_in, piece_at, Section, section_read}
use Rattle.promises.proofs.Readings.{numbers-shown}

-- section i of an entry, counted from 0, as it is stored
abbrev pub section_in : List ℕ → Entered → ℕ → Section
section_in file y i = record { identifier = identifier_at file y.start i; bytes = bytes_of file (piece_from y.start (section_of file y.start y.nsec i)) }

-- entry e of a file that validates with these numbers opens
pub record OpenEntry (file : List ℕ) (d : DescriptorNumbers) (addresses : List RecordNumber) (e : EntryNumber) : Type 0 where
  pub shown : Validates file d addresses
  pub admitted : Admitted (length file) d addresses
  pub opens : entry_refusal file d addresses e ≡ 0

module _ {file : List ℕ} {d : DescriptorNumbers} {addresses : List RecordNumber} {e : EntryNumber} (o : OpenEntry file d addresses e) where
  -- its numbers, as they are stored
  abbrev pub stored : Entered
  stored = entered_at file d (place_stored file (slot_position_of d addresses e))

  rules : Opens file d e stored.place
  rules = entry-opens file d addresses e o.admitted o.opens

  -- the answer of the open
  pub open-shown : open_of file e
      ≡ record { answer = answers.Numbers stored.place stored.version stored.nsec stored.nword (data_place_of stored.array); sections = sections_of file stored.start stored.nsec }
  unfolding opened_as
  open-shown = open-numbers file e o.shown ∙ rw (entered-numbers file d addresses e o.opens)

  -- where it starts
  pub start-shown : start_in file e ≡ stored.start
  start-shown = rw (open-shown, numbers-shown file o.shown)

  module _ (k : ℕ) (low : 1 ≤ k) (high : k ≤ stored.nsec) where
    -- where the section at a place of its tables stands
    pub piece-shown : piece_at file e k ≡ section_of file stored.start stored.nsec (k - 1)
    unfolding sections_of section_lengths section_addresses
    piece-shown =
        let few = rules.described.sections in
        let address = places-at 64 stored.nsec (λ i. (section_of file stored.start stored.nsec i).address) (record { 0 = 0 }) (k - 1) (omega arith) few in
        let words = places-at 64 stored.nsec (λ i. (section_of file stored.start stored.nsec i).words) 0 (k - 1) (omega arith) few in
        rw open-shown (λ i. record { address = address i; words = words i })

    -- what is read there
    pub section-shown : section_read file e k ≡ section_in file stored (k - 1)
    unfolding section_read sections_of section_identifiers
    section-shown =
        let named : get_or (open_of file e).sections.identifiers (k - 1) (pos 0) ≡ identifier_at file stored.start (k - 1) =
        rw open-shown (places-at 64 stored.nsec (identifier_at file stored.start) (pos 0) (k - 1) (omega arith) rules.described.sections) in
        let bytes = ap₂ (λ (s : ℕ) (p : Piece). bytes_of file (piece_from s p)) start-shown piece-shown in
        λ i. record { identifier = named i; bytes = bytes i }

    -- it lies within the entry
    pub piece-placed : Placed stored.nsec stored.nword (section_of file stored.start stored.nsec (k - 1))
    piece-placed = section-placed file stored.start stored.nsec stored.nword (k - 1) stored.nsec (omega arith) rules.sections-within
