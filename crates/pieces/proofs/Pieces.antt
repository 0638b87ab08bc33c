-- Laws of an entry's pieces: the tests that run over the sections, one section after the other, and where a piece stands that passed.
-- Assumes nothing.
use mathlib.Core.Path.{◌≡◌, refl}
use mathlib.Core.Bool.{Bool, true, ◌&&◌, and-eq-true_iff}
use mathlib.Core.List.{List}
use Prim.Native.Nat.{ℕ, ◌+◌, ◌^◌, ◌≤◌, ◌<◌}
use native.Mathlib.Omega.{arith}
use native.Mathlib.Numerals.{add-one}
use borrow.Author.Tests.{leb-true, le-leb, ne_eqb}
use Rattle.words.specs.declared.byte_order.ByteOrder.{ByteOrder}
use Rattle.words.specs.Word.{integer8, signed_of}
use Rattle.words.specs.Range.{at_least}
use Rattle.words.proofs.Ranges.{at_least-bounds}
use Rattle.words.proofs.Runs.{Run, run-test}
use Rattle.layout.specs.FileCode.{byte_order_of}
use Rattle.layout.specs.EntryWords.{first_content}
use Rattle.pieces.specs.declared.contents.Piece.{Piece}
use Rattle.pieces.specs.EntryDescriptor.{section_of}
use Rattle.pieces.specs.Contents.{piece_within, data_within, sections_within, apart, apart_from, sections_apart}
use Rattle.pieces.specs.Bounds.{Described, Small}

-- a piece with a word at least, within the words that content may have, and so with an end that fits
pub record Placed (nsec nword : ℕ) (p : Piece) : Type 0 where
  pub some : 1 ≤ p.words
  pub first : (first_content nsec).0 ≤ p.address.0
  pub last : p.address.0 + p.words ≤ nword + 1
  pub small : Small p

-- a descriptor within a file of bytes in an order, which is the one that its code says
pub described-in : {o : ByteOrder} {file : List ℕ} {start nsec : ℕ} → o ≡ byte_order_of file → Described (byte_order_of file) file start nsec → Described o file start nsec
described-in e h = record { coded = e; sections = h.sections; lent = h.lent; within = h.within }

-- the bounds that the test of a piece leaves
within-bounds : (nsec nword : ℕ) (p : Piece) → piece_within nsec nword p ≡ true
    → ((first_content nsec).0 ≤ p.address.0) × (p.address.0 < 2 ^ 63) × (p.address.0 + p.words ≤ nword + 1)
unfolding piece_within
within-bounds nsec nword p e =
    let both = (and-eq-true_iff (at_least (first_content nsec).0 (signed_of integer8 p.address.0)) _).0 e in
    let start = at_least-bounds integer8 (first_content nsec).0 p.address.0 both.0 in
    (start.0, start.1, leb-true (p.address.0 + p.words) (nword + 1) both.1)

-- a piece that passes both tests stands within those words
pub piece-placed : (nsec nword : ℕ) (p : Piece) → at_least 1 (signed_of integer8 p.words) ≡ true → piece_within nsec nword p ≡ true → Placed nsec nword p
piece-placed nsec nword p some e =
    let words = at_least-bounds integer8 1 p.words some in
    let within = within-bounds nsec nword p e in
    omega arith

module _ (file : List ℕ) (start nsec nword : ℕ) where
  -- the test of one section
  abbrev pub section_within : ℕ → Bool
  section_within k =
      at_least 1 (signed_of integer8 (section_of file start nsec k).words) && piece_within nsec nword (section_of file start nsec k)

  -- all sections pass where each of these tests does
  pub within-run : Run (sections_within file start nsec nword) section_within
  unfolding sections_within
  within-run = record { next = λ k. rw add-one }

  -- each section that passed stands within those words
  pub section-placed : (i n : ℕ) → i < n → sections_within file start nsec nword n ≡ true → Placed nsec nword (section_of file start nsec i)
  section-placed i n h e =
      let s = section_of file start nsec i in
      let both = (and-eq-true_iff (at_least 1 (signed_of integer8 s.words)) (piece_within nsec nword s)).0 (run-test within-run i n h e) in
      piece-placed nsec nword s both.0 both.1

-- and so does the data that passed, if there is any
pub data-placed : (nsec nword : ℕ) (p : Piece) → nword < 2 ^ 32 → (p.words ≡ 0 → ⊥) → data_within nsec nword p ≡ true → Placed nsec nword p
unfolding data_within
data-placed nsec nword p h some e =
    let within = within-bounds nsec nword p (rw (ne_eqb p.words 0 some) at e) in
    omega arith

-- the runs of the tests that two pieces share no word
module _ (file : List ℕ) (start nsec : ℕ) where
  -- a piece is apart from the sections where it is from each
  pub apart-run : (p : Piece) → Run (apart_from file start nsec p) (λ k. apart (section_of file start nsec k) p)
  unfolding apart_from
  apart-run p = record { next = λ k. rw add-one }

  -- the sections are apart where each is from those before it
  pub sections-run : Run (sections_apart file start nsec) (λ k. apart_from file start nsec (section_of file start nsec k) k)
  unfolding sections_apart
  sections-run = record { next = λ k. rw add-one }

-- where there is no section none is outside
pub within_none : (file : List ℕ) (start nsec nword : ℕ) → sections_within file start nsec nword 0 ≡ true
unfolding sections_within
within_none file start nsec nword = refl

-- where there is no section a piece meets none
pub apart_none : (file : List ℕ) (start nsec : ℕ) (p : Piece) → apart_from file start nsec p 0 ≡ true
unfolding apart_from
apart_none file start nsec p = refl

-- and none meets another
pub sections-none : (file : List ℕ) (start nsec : ℕ) → sections_apart file start nsec 0 ≡ true
unfolding sections_apart
sections-none file start nsec = refl

-- a piece that ends before another shares no word with it
pub apart-ends : (p q : Piece) → p.address.0 + p.words ≤ q.address.0 → apart p q ≡ true
unfolding apart
apart-ends p q l = rw (le-leb (p.address.0 + p.words) q.address.0 l)
