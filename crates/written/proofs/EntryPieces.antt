-- The sections and the data of the new entry, as the file that an accepted append leaves has them: within the entry, and apart. Assumes nothing.
use Prim.Native.Nat.{ℕ, ◌+◌, ◌≤◌, ◌<◌}
use mathlib.Core.Path.{◌≡◌, ap₂}
use mathlib.Core.Bool.{true}
use mathlib.Core.List.{List}
use native.Mathlib.Omega.{arith}
use borrow.Author.Tests.{eqb-false, le-leb}
use lib.Dec.{eqb}
use lib.IntN.{pos}
use lib.ListN.{length, get_or}
use Rattle.outcome.proofs.Either.{either}
use Rattle.words.proofs.Ranges.{at_least-row}
use Rattle.words.proofs.Runs.{run-all}
use Rattle.geometry.specs.declared.units.RecordNumber.{RecordNumber}
use Rattle.descriptor.specs.declared.numbers.DescriptorNumbers.{DescriptorNumbers}
use Rattle.layout.specs.FileCode.{byte_order_of}
use Rattle.layout.specs.EntryWords.{first_content}
use Rattle.pieces.specs.declared.contents.Piece.{Piece}
use Rattle.pieces.specs.EntryDescriptor.{section_of, data_of}
use Rattle.pieces.specs.Contents.{piece_within, data_within, sections_within, apart_from, sections_apart, data_apart}
use Rattle.pieces.proofs.Pieces.{section_within, within-run, apart-run, sections-run, within_none, apart_none, sections-none, apart-ends}
use Rattle.storing.specs.Handed.{Handed, sum_of, nsec_in, ldata_in, nword_in}
use Rattle.placing.specs.Placing.{entry_start}
use Rattle.storing.specs.Writing.{head_of}
use Rattle.storing.specs.Bounds.{Accepted}
use Rattle.storing.proofs.Lengths.{sum-rise, some_words}
use Rattle.written.proofs.AppendLeaves.{new, left}
use Rattle.written.proofs.EntryRead.{adata-some, adata-new, ldata-new, words, before, long, words-few, length-new, address-new}

module _ (file : List ℕ) {d : DescriptorNumbers} {addresses : List RecordNumber} {h : Handed} (x : Accepted (length file) d addresses h) (o : d.order ≡ byte_order_of file) where
  abbrev start : ℕ
  start = entry_start d

  -- ---- the sections

  -- where section i stands, counted from 0: behind those before it
  abbrev pub piece : (i : ℕ) → i < nsec_in h → Piece
  piece i l = record { address = record { 0 = (first_content (nsec_in h)).0 + before file x o i l }; words = words file x o i l }

  -- so its place is read
  pub section-new : (i : ℕ) (l : i < nsec_in h) → section_of (new file x) start (nsec_in h) i ≡ piece i l
  unfolding section_of
  section-new i l = ap₂ (λ (a n : ℕ). record { address = record { 0 = a }; words = n }) (address-new file x o i l) (length-new file x o i l)

  -- rule 18 of section i
  section-within : (i : ℕ) (l : i < nsec_in h) → section_within (new file x) start (nsec_in h) (nword_in h) i ≡ true
  unfolding piece_within
  section-within i l =
      let first = (first_content (nsec_in h)).0 in
      let few = words-few file x o i l in
      let small = (left file x).small in
      rw (
        section-new i l,
        at_least-row 1 (words file x o i l) (some_words (get_or h.lengths i (pos 0)) (long file x o i l)) (omega arith),
        at_least-row first (first + before file x o i l) (omega arith) (omega arith),
        le-leb (first + before file x o i l + words file x o i l) (nword_in h + 1) (omega arith),
      )

  -- they stand within the entry
  pub sections-within : sections_within (new file x) start (nsec_in h) (nword_in h) (nsec_in h) ≡ true
  sections-within = run-all (within-run (new file x) start (nsec_in h) (nword_in h)) (within_none (new file x) start (nsec_in h) (nword_in h)) (nsec_in h) section-within

  -- a piece that starts where section k does, or behind, is apart from those before it
  behind-apart : (p : Piece) (k : ℕ) → k ≤ nsec_in h → ((j : ℕ) (l : j < nsec_in h) → j < k → (piece j l).address.0 + (piece j l).words ≤ p.address.0)
      → apart_from (new file x) start (nsec_in h) p k ≡ true
  behind-apart p k l ends =
      run-all (apart-run (new file x) start (nsec_in h) p) (apart_none (new file x) start (nsec_in h) p) k
      (λ j m. let g : j < nsec_in h = omega arith in rw (section-new j g) (apart-ends (piece j g) p (ends j g m)))

  -- rule 19 of section k
  section-apart : (k : ℕ) (l : k < nsec_in h) → apart_from (new file x) start (nsec_in h) (section_of (new file x) start (nsec_in h) k) k ≡ true
  section-apart k l =
      rw (section-new k l) (behind-apart (piece k l) k (omega arith) (λ j g m. omega (arith, sum-rise h.lengths j k m (omega (arith, x.fitting.pairs)))))

  -- and each is apart from those before it
  pub sections-apart : sections_apart (new file x) start (nsec_in h) (nsec_in h) ≡ true
  sections-apart = run-all (sections-run (new file x) start (nsec_in h)) (sections-none (new file x) start (nsec_in h)) (nsec_in h) section-apart

  -- ---- the data

  -- where it stands: behind the sections
  abbrev pub array : Piece
  array = record { address = record { 0 = (head_of h d.xnext).adata.0 }; words = ldata_in h }

  -- so its place is read
  pub data-new : data_of (new file x) start ≡ array
  unfolding data_of
  data-new = ap₂ (λ (a n : ℕ). record { address = record { 0 = a }; words = n }) (adata-new file x o) (ldata-new file x o)

  -- it stands within the entry
  pub data-within : data_within (nsec_in h) (nword_in h) array ≡ true
  unfolding data_within piece_within
  data-within =
      let at = (first_content (nsec_in h)).0 + sum_of h.lengths in
      either (eqb (ldata_in h) 0)
      (λ q. rw q)
      (λ q. rw (
        q,
        adata-some file x o (eqb-false (ldata_in h) 0 q),
        at_least-row (first_content (nsec_in h)).0 at (omega arith) (omega (arith, (left file x).small)),
        le-leb (at + ldata_in h) (nword_in h + 1) (omega arith),
      ))

  -- and apart from the sections
  pub data-apart : data_apart (new file x) start (nsec_in h) array ≡ true
  unfolding data_apart
  data-apart =
      either (eqb (ldata_in h) 0)
      (λ q. rw q)
      (λ q. rw q (behind-apart array (nsec_in h) (omega arith) (λ j g m. omega (arith, adata-some file x o (eqb-false (ldata_in h) 0 q), words-few file x o j g))))
