-- Laws of how the sections of an entry stand in it: the highest end, and sections in order. Assumes nothing.
use mathlib.Core.Path.{◌≡◌, refl, sym, ap, ◌∙◌}
use mathlib.Core.Bool.{Bool, true, false, and-true, and-false}
use mathlib.Core.List.{List}
use Prim.Native.Nat.{ℕ, ◌+◌, ◌≤◌, ◌<◌, max}
use native.Mathlib.Omega.{arith}
use native.Mathlib.Numerals.{add-one}
use native.Mathlib.Decide.{le_ind}
use borrow.Author.Tests.{leb-true, le-leb, lt-leb}
use lib.Dec.{leb}
use Rattle.outcome.proofs.Either.{either}
use Rattle.std.specs.Prelude.{Some, None}
use Rattle.words.specs.Word.{integer8, signed_of}
use Rattle.words.specs.Range.{at_least}
use Rattle.words.proofs.Runs.{Run, run-next, run-test, run-all, run-failed}
use Rattle.pieces.specs.declared.contents.Piece.{Piece}
use Rattle.pieces.specs.declared.spread.Spread.{Spread}
use Rattle.pieces.specs.EntryDescriptor.{section_of}
use Rattle.pieces.specs.Contents.{piece_within, sections_within, apart_from, sections_apart}
use Rattle.pieces.specs.Spread.{highest_end, in_order, spread_of}
use Rattle.pieces.specs.Bounds.{Ending}
use Rattle.pieces.proofs.Pieces.{within-run, section-placed, apart-run, apart_none, apart-ends, sections-run, sections-none}

module _ (file : List ℕ) (start nsec : ℕ) where
  -- the end of section k
  abbrev pub section_end : ℕ → ℕ
  section_end k = (section_of file start nsec k).address.0 + (section_of file start nsec k).words

  -- where there is no section the highest end is 0
  pub end_none : highest_end file start nsec 0 ≡ 0
  unfolding highest_end
  end_none = refl

  -- and none is out of order
  pub order-none : in_order file start nsec 0 ≡ true
  unfolding in_order
  order-none = refl

  -- the sections stand in order where none starts before the highest end of those before it
  order-run : Run (in_order file start nsec) (λ k. leb (highest_end file start nsec k) (section_of file start nsec k).address.0)
  unfolding in_order
  order-run = record { next = λ k. rw add-one }

  -- a turn of a loop that keeps the highest end of k sections and reads the next, s
  module _ (k : ℕ) {end : ℕ} {s : Piece} (h : end ≡ highest_end file start nsec k) (e : s ≡ section_of file start nsec k) where
    -- the higher of that end and its own is the next highest
    pub end-next : {r : ℕ} → r ≡ max end (s.address.0 + s.words) → r ≡ highest_end file start nsec (k + 1)
    unfolding highest_end
    end-next q = rw (add-one, ← h, ← e) q

    -- a section that starts before that end is out of order
    pub order-broken : s.address.0 < end → false ≡ in_order file start nsec (k + 1)
    order-broken l = sym (rw (order-run.next k, ← h, ← e, lt-leb end s.address.0 l) (and-false (in_order file start nsec k)))

    -- any other keeps the order
    pub order-kept : end ≤ s.address.0 → in_order file start nsec k ≡ in_order file start nsec (k + 1)
    order-kept l = sym (rw (order-run.next k, ← h, ← e, le-leb end s.address.0 l) (and-true (in_order file start nsec k)))

  -- each of the first k sections ends at or before the highest end of them
  pub end-highest : (i k : ℕ) → i < k → section_end i ≤ highest_end file start nsec k
  unfolding highest_end
  end-highest i k h = le_ind (λ n. section_end i ≤ highest_end file start nsec n) (omega arith) (λ n l f. omega arith) k h

  -- a piece that starts at or after that end shares no word with one of them
  pub apart-after : (p : Piece) (k : ℕ) → highest_end file start nsec k ≤ p.address.0 → apart_from file start nsec p k ≡ true
  apart-after p k h =
      run-all (apart-run file start nsec p) (apart_none file start nsec p) k
      (λ i l. apart-ends (section_of file start nsec i) p (omega (arith, end-highest i k l)))

  -- and a test against it says so
  pub apart_after : (p : Piece) (k end : ℕ) → end ≡ highest_end file start nsec k → end ≤ p.address.0 → leb end p.address.0 ≡ apart_from file start nsec p k
  apart_after p k end e h = le-leb end p.address.0 h ∙ sym (apart-after p k (omega arith))

  -- so sections in order share no word
  pub ordered-apart : (k : ℕ) → in_order file start nsec k ≡ true → sections_apart file start nsec k ≡ true
  ordered-apart k e =
      run-all (sections-run file start nsec) (sections-none file start nsec) k
      (λ i l. apart-after (section_of file start nsec i) i (leb-true _ _ (run-test order-run i k l e)))

  -- which need no comparison
  pub ordered_apart : {ordered : Bool} → (ordered ≡ true → in_order file start nsec nsec ≡ true) → ordered ≡ true → ordered ≡ sections_apart file start nsec nsec
  ordered_apart e h = h ∙ sym (ordered-apart nsec (e h))

  -- the pass over an entry of nword words
  module _ (nword : ℕ) where
    -- says nothing where a section, s, has no word
    pub spread-empty : (k : ℕ) {s : Piece} → s ≡ section_of file start nsec k → k < nsec → at_least 1 (signed_of integer8 s.words) ≡ false → None ≡ spread_of file start nsec nword
    unfolding spread_of
    spread-empty k e l h = rw (run-failed (within-run file start nsec nword) k nsec l (rw (← e, h)))

    -- nor where one does not lie within the entry
    pub spread-outside : (k : ℕ) {s : Piece} → s ≡ section_of file start nsec k → k < nsec → at_least 1 (signed_of integer8 s.words) ≡ true → piece_within nsec nword s ≡ false
        → None ≡ spread_of file start nsec nword
    unfolding spread_of
    spread-outside k e l h q = rw (run-failed (within-run file start nsec nword) k nsec l (rw (← e, h, q)))

    -- one more section that does lies within it too
    pub within-next : (k : ℕ) {s : Piece} → s ≡ section_of file start nsec k → sections_within file start nsec nword k ≡ true → at_least 1 (signed_of integer8 s.words) ≡ true
        → piece_within nsec nword s ≡ true → sections_within file start nsec nword (k + 1) ≡ true
    within-next k e z h q = run-next (within-run file start nsec nword) k z ∙ rw (← e, h, q)

    -- where all do, the sections have ends that fit
    pub ending : sections_within file start nsec nword nsec ≡ true → Ending file start nsec
    ending e = record { each = λ i l. (section-placed file start nsec nword i nsec l e).small }

    -- where it says nothing they do not all lie within the entry
    pub spread-none : None ≡ spread_of file start nsec nword → sections_within file start nsec nword nsec ≡ false
    unfolding spread_of
    spread-none e = either (sections_within file start nsec nword nsec) (λ q. cc (rw q at e)) (λ q. q)

    -- and where it says r they do, r says whether they stand in order, and the highest of their ends
    pub spread-some : {r : Spread} → Some r ≡ spread_of file start nsec nword
        → (sections_within file start nsec nword nsec ≡ true) × (r.ordered ≡ in_order file start nsec nsec) × (r.end.0 ≡ highest_end file start nsec nsec)
    unfolding spread_of
    spread-some {r} e =
        either (sections_within file start nsec nword nsec)
        (λ q. let h = rw q at e in let s : r ≡ record { ordered = in_order file start nsec nsec; end = record { 0 = highest_end file start nsec nsec } } = cc in (q, ap (λ (x : Spread). x.ordered) s, ap (λ (x : Spread). x.end.0) s))
        (λ q. cc (rw q at e))
