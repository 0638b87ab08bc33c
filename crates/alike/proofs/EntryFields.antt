-- Two files of one order that hold the same bytes of an entry have the same fields there: its numbers, its tables, its rules. Assumes nothing.
use Prim.Native.Nat.{ℕ, zero, suc, ◌+◌, ◌*◌, ◌-◌, ◌≤◌, ◌<◌}
use mathlib.Core.Path.{◌≡◌, refl, sym, ap, ◌∙◌}
use mathlib.Core.List.{List}
use native.Mathlib.Omega.{arith}
use lib.IntN.{ℤ, pos}
use mir.Syntax.{w32}
use Rattle.image.specs.Image.{part}
use Rattle.image.proofs.Part.{part-part}
use Rattle.words.specs.Word.{integer4, integer8, signed_of}
use Rattle.words.proofs.Access.{bits-alike}
use Rattle.words.proofs.Table.{places_same}
use Rattle.geometry.specs.declared.units.EntryAddress.{EntryAddress}
use Rattle.layout.specs.FileCode.{byte_order_of}
use Rattle.layout.specs.EntryWords.{adata_word, ldata_word, identifier_word, length_word, address_word, descriptor_words}
use Rattle.pieces.specs.declared.contents.Piece.{Piece}
use Rattle.pieces.specs.EntryDescriptor.{word_of, word_offset, word4, word8, entry_code_of, identifier_at, section_of, data_of}
use Rattle.pieces.specs.Contents.{sections_within, apart_from, sections_apart, data_apart}
use Rattle.pieces.specs.Tables.{section_identifiers, section_lengths, section_addresses, sections_of, section_named}
use Rattle.entry.specs.Opening.{content_rules}

module _ (f g : List ℕ) (start words : ℕ) (same : part f (4 * start) (4 * words) ≡ part g (4 * start) (4 * words)) where
  -- bytes of the entry
  pub bytes_same : (at n : ℕ) → 4 * start ≤ at → at + n ≤ 4 * (start + words) → part f at n ≡ part g at n
  bytes_same at n l h =
      sym (part-part f (4 * start) (4 * words) (at - 4 * start) n at (omega arith) (omega arith))
      ∙ ap (λ (xs : List ℕ). part xs (at - 4 * start) n) same
      ∙ part-part g (4 * start) (4 * words) (at - 4 * start) n at (omega arith) (omega arith)

module _ (f g : List ℕ) (order : byte_order_of f ≡ byte_order_of g) (start words : ℕ) (same : part f (4 * start) (4 * words) ≡ part g (4 * start) (4 * words)) where
  abbrev within-entry : (at n : ℕ) → 4 * start ≤ at → at + n ≤ 4 * (start + words) → part f at n ≡ part g at n
  within-entry = bytes_same f g start words same

  -- its words
  pub word4-same : (a : EntryAddress) → 1 ≤ a.0 → a.0 ≤ words → word4 f start a ≡ word4 g start a
  unfolding word_of
  word4-same a l h = bits-alike integer4 f g (word_offset start a) (word_offset start a) order (within-entry (word_offset start a) 4 (omega arith) (omega arith))

  -- and so is an Integer*8
  pub word8-same : (a : EntryAddress) → 1 ≤ a.0 → a.0 + 1 ≤ words → word8 f start a ≡ word8 g start a
  unfolding word_of
  word8-same a l h = bits-alike integer8 f g (word_offset start a) (word_offset start a) order (within-entry (word_offset start a) 8 (omega arith) (omega arith))

  -- its code
  pub code_same : 1 ≤ words → entry_code_of f start ≡ entry_code_of g start
  unfolding entry_code_of
  code_same h = within-entry (4 * (start + (1 - 1))) 4 (omega arith) (omega arith)

  -- where its data stands
  pub data-same : 11 ≤ words → data_of f start ≡ data_of g start
  unfolding data_of
  data-same h = rw (word8-same adata_word (omega arith) (omega arith), word8-same ldata_word (omega arith) (omega arith))

  module _ (nsec : ℕ) (l : descriptor_words nsec ≤ words) where
    -- a section's identifier, and where it stands
    pub identifier-same : (i : ℕ) → i < nsec → identifier_at f start i ≡ identifier_at g start i
    identifier-same i h = ap (signed_of w32) (word4-same (identifier_word i) (omega arith) (omega arith))

    -- so each section is the same
    pub section-same : (i : ℕ) → i < nsec → section_of f start nsec i ≡ section_of g start nsec i
    unfolding section_of
    section-same i h = rw (word8-same (address_word nsec i) (omega arith) (omega arith), word8-same (length_word nsec i) (omega arith) (omega arith))

    within_same : (nword k : ℕ) → k ≤ nsec → sections_within f start nsec nword k ≡ sections_within g start nsec nword k
    unfolding sections_within
    within_same nword zero h = refl
    within_same nword (suc k) h = rw (within_same nword k (omega arith), section-same k (omega arith))

    from-same : (p : Piece) (k : ℕ) → k ≤ nsec → apart_from f start nsec p k ≡ apart_from g start nsec p k
    unfolding apart_from
    from-same p zero h = refl
    from-same p (suc k) h = rw (from-same p k (omega arith), section-same k (omega arith))

    apart-same : (k : ℕ) → k ≤ nsec → sections_apart f start nsec k ≡ sections_apart g start nsec k
    unfolding sections_apart
    apart-same zero h = refl
    apart-same (suc k) h = rw (apart-same k (omega arith), section-same k (omega arith), from-same (section_of g start nsec k) k (omega arith))

    -- the rules 17 to 19 are the same
    pub content-same : (nword : ℕ) (p : Piece) → content_rules f start nsec nword p ≡ content_rules g start nsec nword p
    unfolding data_apart
    content-same nword p = rw (within_same nword nsec (omega arith), apart-same nsec (omega arith), from-same p nsec (omega arith))

    -- the tables are the same
    pub tables-same : sections_of f start nsec ≡ sections_of g start nsec
    unfolding sections_of section_identifiers section_lengths section_addresses
    tables-same =
        rw (
          places_same 64 nsec (identifier_at f start) (identifier_at g start) (pos 0) identifier-same,
          places_same 64 nsec (λ i. (section_of f start nsec i).words) (λ i. (section_of g start nsec i).words) 0 (λ i h. ap (λ (p : Piece). p.words) (section-same i h)),
          places_same 64 nsec (λ i. (section_of f start nsec i).address) (λ i. (section_of g start nsec i).address) (record { 0 = 0 }) (λ i h. ap (λ (p : Piece). p.address) (section-same i h)),
        )

    -- and an identifier names the same section
    pub named-same : (identifier : ℤ) (i left : ℕ) → i + left ≤ nsec → section_named f start identifier i left ≡ section_named g start identifier i left
    unfolding section_named
    named-same identifier i zero h = refl
    named-same identifier i (suc left) h = rw (identifier-same i (omega arith), named-same identifier (i + 1) left (omega arith))
