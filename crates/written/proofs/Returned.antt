-- Demand 2's last sentence: an accepted append, opened by its number, comes back as handed in: version, index words, each section by
-- its identifier, and data. Assumes nothing.
use Prim.Native.Nat.{ℕ, ◌+◌, ◌*◌, ◌-◌, ◌<◌}
use mathlib.Core.Path.{◌≡◌, refl, sym, ap, ◌∙◌}
use mathlib.Core.Bool.{true, false≢true}
use mathlib.Core.List.{List, [], ◌∷◌}
use native.Mathlib.Omega.{arith}
use borrow.Author.Tests.{lt-ltb, eqb-true, eqb-false, not-true}
use lib.Dec.{eqb}
use lib.IntN.{ℤ, pos}
use lib.ListN.{length, get_or, take}
use Rattle.image.specs.Image.{part}
use Rattle.words.specs.Table.{places}
use Rattle.words.proofs.Table.{places_same}
use Rattle.words.proofs.Runs.{run-test}
use Rattle.geometry.specs.Units.{place_of}
use Rattle.descriptor.specs.declared.numbers.DescriptorNumbers.{DescriptorNumbers}
use Rattle.descriptor.specs.FirstRecord.{numbers_of, addresses_of}
use Rattle.descriptor.specs.Rules.{file_refusal}
use Rattle.descriptor.proofs.Answered.{file-order}
use Rattle.pieces.specs.declared.contents.Piece.{Piece}
use Rattle.pieces.specs.declared.tables.Sections.{Sections}
use Rattle.pieces.specs.EntryDescriptor.{identifier_at, section_of}
use Rattle.entry.specs.declared.answers.Opened.{Opened}
use Rattle.entry.specs.declared.answers.Open.TheVariants as opened
use Rattle.layout.specs.FileCode.{byte_order_of}
use Rattle.layout.specs.EntryWords.{first_content}
use Rattle.pieces.specs.Tables.{section_identifiers, section_lengths, sections_of, section_named}
use Rattle.pieces.specs.Tables as tables
use Rattle.pieces.proofs.SectionTables.{named, same-equal}
use Rattle.entry.specs.Answers.{entered_in, opened_as, open_of, data_place_of}
use Rattle.handing.specs.Parts.{part_in, index_part, section_part, data_part, index_words_of, section_words_of, data_words_of, bytes_of}
use Rattle.storing.specs.Handed.{Handed, Integers, words_of, sum_of, distinct, nsec_in, ldata_in, nword_in}
use Rattle.placing.specs.Placing.{entry_start}
use Rattle.writer.specs.Rules.{append_refusal}
use Rattle.storing.specs.Writing.{head_of}
use Rattle.writer.specs.Answers.{file_after}
use Rattle.storing.specs.Bounds.{Accepted}
use Rattle.outcome.proofs.Either.{either}
use Rattle.writer.proofs.HandedIn.{absent-run, distinct-run, handed-rows, handed-passed}
use Rattle.storing.proofs.Accepting.{value-bytes}
use Rattle.written.proofs.Cases.{by_order}
use Rattle.written.proofs.AppendLeaves.{new, then, slot, left}
use Rattle.written.proofs.ReadBack.{admits, file-written, validated-after}
use Rattle.written.proofs.EntryRead.{identifier-new, adata-some, section-read, data-read}
use Rattle.written.proofs.EntryPieces.{section-new}
use Rattle.written.proofs.Reopened.{index-new, entered-new}

-- of identifiers that are distinct, a later one is not an earlier one
not-twice : (ids : List ℤ) (n i j : ℕ) → distinct ids n ≡ true → i < j → j < n → get_or ids i (pos 0) ≡ get_or ids j (pos 0) → ⊥
not-twice ids n i j t h l e =
    let z = get_or ids j (pos 0) in
    let other = not-true _ (run-test (absent-run ids z) i j h (run-test (distinct-run ids) j n l t)) in
    false≢true (sym other ∙ same-equal (get_or ids i (pos 0)) z e)

-- the empty part is what is left of nothing
empty : (file ys : List ℕ) → length ys ≡ 0 → part file 0 0 ≡ ys
unfolding part
empty file [] e = refl
empty file (y ∷ ys) e = absurd (omega (arith, e))

-- the three tables of what is handed in: sections one behind the other
abbrev pub tables_of : Handed → Sections
tables_of h = record {
  identifiers = places 64 (nsec_in h) (λ i. get_or h.ids i (pos 0)) (pos 0);
  lengths = places 64 (nsec_in h) (λ i. words_of (get_or h.lengths i (pos 0))) 0;
  addresses = places 64 (nsec_in h) (λ i. record { 0 = (first_content (nsec_in h)).0 + sum_of (take i h.lengths) }) (record { 0 = 0 });
}

-- the answer of an open of it
abbrev pub opened_from : Handed → DescriptorNumbers → Opened
opened_from h d = record {
  answer =
      opened.Numbers (place_of d.reclen (entry_start d)) h.version (nsec_in h) (nword_in h)
      (data_place_of (record { address = record { 0 = (head_of h d.xnext).adata.0 }; words = ldata_in h }));
  sections = tables_of h;
}

module _ (file : List ℕ) (h : Handed) (g : Integers h) (z : file_refusal file ≡ 0) (a : append_refusal (length file) (numbers_of file) h ≡ 0) where
  abbrev d : DescriptorNumbers
  d = numbers_of file

  abbrev x : Accepted (length file) d (addresses_of file d.nex) h
  x = admits file h z a

  -- its code says the order of its numbers
  abbrev o : d.order ≡ byte_order_of file
  o = file-order file

  -- opened by its number it comes back as handed in
  pub opened-again : open_of (file_after file h) d.xnext ≡ opened_from h d
  unfolding open_of entered_in opened_as sections_of section_identifiers section_lengths tables.section_addresses
  opened-again =
      rw (
        file-written file h z a,
        validated-after file z x,
        entered-new file x o g.version,
        places_same 64 (nsec_in h) (identifier_at (new file x) (entry_start d)) (λ i. get_or h.ids i (pos 0)) (pos 0) (λ i l. identifier-new file x o i l (g.ids i l)),
        places_same 64 (nsec_in h) (λ i. (section_of (new file x) (entry_start d) (nsec_in h) i).words) (λ i. words_of (get_or h.lengths i (pos 0))) 0
            (λ i l. ap (λ (p : Piece). p.words) (section-new file x o i l)),
        places_same 64 (nsec_in h) (λ i. (section_of (new file x) (entry_start d) (nsec_in h) i).address) (λ i. record { 0 = (first_content (nsec_in h)).0 + sum_of (take i h.lengths) }) (record { 0 = 0 })
            (λ i l. ap (λ (p : Piece). p.address) (section-new file x o i l)),
      )

  -- its index words have the bytes that were handed in
  pub index-again : bytes_of (file_after file h) (index_words_of (file_after file h) d.xnext) ≡ h.index
  unfolding part_in index_part
  index-again =
      let at = 4 * (slot file x + 3) in
      let q : at + 4 * ((then file x).lind - 3) - at ≡ length h.index = omega (arith, x.fitting.index, (left file x).lind) in
      rw (file-written file h z a, validated-after file z x, entered-new file x o g.version, q) (index-new file x o)

  -- the section that an identifier names
  found : (i : ℕ) (l : i < nsec_in h) → section_named (new file x) (entry_start d) (get_or h.ids i (pos 0)) 0 (nsec_in h) ≡ i
  found i l =
      let id = get_or h.ids i (pos 0) in
      let n = named (new file x) (entry_start d) (nsec_in h) id in
      let r = section_named (new file x) (entry_start d) id 0 (nsec_in h) in
      let differ = (handed-rows d h (handed-passed d h (length file) a)).1.1.1.0 in
      by_order r i
      (λ e. e)
      (λ m. let low : r < nsec_in h = omega arith in absurd (not-twice h.ids (nsec_in h) r i differ m l (sym (identifier-new file x o r low (g.ids r low)) ∙ n.found low)))
      (λ m. absurd (n.first i m (identifier-new file x o i l (g.ids i l))))

  -- so does the section that each identifier names
  pub section-again : (i : ℕ) → i < nsec_in h → bytes_of (file_after file h) (section_words_of (file_after file h) d.xnext (get_or h.ids i (pos 0)))
      ≡ part h.sections (4 * sum_of (take i h.lengths)) (4 * words_of (get_or h.lengths i (pos 0)))
  unfolding part_in section_part
  section-again i l =
      let at = 4 * (entry_start d + ((first_content (nsec_in h)).0 + sum_of (take i h.lengths) - 1)) in
      let n = 4 * words_of (get_or h.lengths i (pos 0)) in
      let q : at + n - at ≡ n = omega arith in
      rw (file-written file h z a, validated-after file z x, entered-new file x o g.version, found i l, lt-ltb i (nsec_in h) l, section-new file x o i l, q) (section-read file x o i l)

  -- and so does the data
  pub data-again : bytes_of (file_after file h) (data_words_of (file_after file h) d.xnext) ≡ h.values
  unfolding part_in data_part
  data-again =
      let size = value-bytes d h x.fitting in
      let at = 4 * (entry_start d + ((first_content (nsec_in h)).0 + sum_of h.lengths - 1)) in
      let n : at + 4 * ldata_in h - at ≡ length h.values = omega arith in
      rw (file-written file h z a, validated-after file z x, entered-new file x o g.version)
      (either (eqb (ldata_in h) 0)
      (λ q. rw q (empty (new file x) h.values (omega (arith, eqb-true (ldata_in h) 0 q))))
      (λ q. rw (q, adata-some file x o (eqb-false (ldata_in h) 0 q), n) (data-read file x o)))
