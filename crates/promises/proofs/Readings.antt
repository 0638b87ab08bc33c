-- Laws of what a reader finds: entries 1 to n in order, sections that stand alike in two files, and sections handed in one after another, which come back cut.
-- Assumes nothing.
use Prim.Native.Nat.{ℕ, zero, suc, ◌+◌, ◌*◌, ◌-◌, ◌≤◌, ◌<◌}
use mathlib.Core.Path.{◌≡◌, refl, sym, ap, ap₂, ◌∙◌}
use mathlib.Core.Bool.{cond}
use mathlib.Core.List.{List, [], ◌∷◌, ◌++◌}
use native.Mathlib.Omega.{arith}
use lib.Dec.{eqb}
use lib.IntN.{ℤ, pos}
use lib.ListN.{length, get_or, take, drop, length-append}
use lib.Seq.{drop-drop}
use Rattle.image.specs.Image.{part}
use Rattle.geometry.specs.declared.units.RecordNumber.{RecordNumber}
use Rattle.geometry.specs.declared.units.EntryNumber.{EntryNumber}
use Rattle.descriptor.specs.declared.numbers.DescriptorNumbers.{DescriptorNumbers}
use Rattle.descriptor.specs.declared.validating.Validation.{Validation}
use Rattle.descriptor.specs.Answers.{validated_case, Validates}
use Rattle.entry.specs.declared.answers.Opened.{Opened}
use Rattle.entry.specs.Answers.{open_of, open_case}
use Rattle.handing.specs.Parts.{piece_from, bytes_of, index_words_of, data_words_of}
use Rattle.storing.specs.Handed.{words_of, sum_of}
use Rattle.promises.specs.Contents.{numbers_in, entries_of, opened_in, start_in, in_order, Section, piece_at, section_read, content_read, Reading, holds, refused, reading_of, contents}
use Rattle.promises.specs.Calls.{sections_cut}

-- the numbers of a file that validates are those that it validates with
pub numbers-shown : (file : List ℕ) {d : DescriptorNumbers} {addresses : List RecordNumber} → Validates file d addresses → numbers_in file ≡ d
numbers-shown file shown = ap (λ (v : Validation). (validated_case v.numbers).numbers) shown

-- ---- f 1, .., f n

-- they agree where f does
pub in_order-same : {A : Type 0} (f g : ℕ → A) (n : ℕ) → ((k : ℕ) → 1 ≤ k → k ≤ n → f k ≡ g k) → in_order f n ≡ in_order g n
in_order-same f g zero e = refl
in_order-same {A} f g (suc n) e =
    ap₂ (λ (l : List A) (y : A). l ++ (y ∷ [])) (in_order-same f g n (λ k l h. e k l (omega arith))) (e (suc n) (omega arith) (omega arith))

-- there are n of them
in_order-length : {A : Type 0} (f : ℕ → A) (n : ℕ) → length (in_order f n) ≡ n
in_order-length f zero = refl
in_order-length f (suc n) = length-append (in_order f n) (f (suc n) ∷ []) ∙ omega (arith, in_order-length f n)

-- the first of them, and the others
pub in_order-first : {A : Type 0} (f : ℕ → A) (n : ℕ) → in_order f (suc n) ≡ f 1 ∷ in_order (λ k. f (suc k)) n
in_order-first f zero = refl
in_order-first {A} f (suc n) = ap (λ (l : List A). l ++ (f (suc (suc n)) ∷ [])) (in_order-first f n)

-- and each of them
in_order-at : {A : Type 0} (f : ℕ → A) (n k : ℕ) (d : A) → k < n → get_or (in_order f n) k d ≡ f (suc k)
in_order-at f zero k d l = absurd (omega arith)
in_order-at {A} f (suc n) zero d l = ap (λ (l : List A). get_or l 0 d) (in_order-first f n)
in_order-at {A} f (suc n) (suc k) d l = ap (λ (l : List A). get_or l (suc k) d) (in_order-first f n) ∙ in_order-at (λ i. f (suc i)) n k d (omega arith)

-- a file has as many contents as entries
pub length-contents : (file : List ℕ) → length (contents file) ≡ entries_of file
unfolding contents
length-contents file = in_order-length (λ k. reading_of file (record { 0 = k })) (entries_of file)

-- behind k of them stands what is found under number k + 1
pub contents-at : (file : List ℕ) (k : ℕ) (d : Reading) → k < entries_of file → get_or (contents file) k d ≡ reading_of file (record { 0 = suc k })
unfolding contents
contents-at file k d l = in_order-at (λ k. reading_of file (record { 0 = k })) (entries_of file) k d l

-- ---- two files that answer alike

module _ (f g : List ℕ) (e : EntryNumber) (opens : open_of g e ≡ open_of f e)
    (index : bytes_of g (index_words_of g e) ≡ bytes_of f (index_words_of f e))
    (section : (k : ℕ) → 1 ≤ k → k ≤ (opened_in f e).nsec → bytes_of g (piece_from (start_in g e) (piece_at f e k)) ≡ bytes_of f (piece_from (start_in f e) (piece_at f e k)))
    (values : bytes_of g (data_words_of g e) ≡ bytes_of f (data_words_of f e)) where
  section-alike : (k : ℕ) → 1 ≤ k → k ≤ (opened_in f e).nsec → section_read g e k ≡ section_read f e k
  unfolding section_read
  section-alike k l h =
      let bytes = ap (λ (o : Opened). bytes_of g (piece_from (start_in g e) (record { address = get_or o.sections.addresses (k - 1) (record { 0 = 0 }); words = get_or o.sections.lengths (k - 1) 0 }))) opens
      ∙ section k l h in
      λ i. record { identifier = get_or (opens i).sections.identifiers (k - 1) (pos 0); bytes = bytes i }

  content-alike : content_read g e ≡ content_read f e
  unfolding content_read
  content-alike =
      let sections =
      ap (λ (o : Opened). in_order (section_read g e) (open_case o.answer).nsec) opens ∙ in_order-same (section_read g e) (section_read f e) (opened_in f e).nsec section-alike in
      λ i. record { version = (open_case (opens i).answer).version; index = index i; sections = sections i; values = values i }

  -- the same is found under the number
  pub reading-alike : reading_of g e ≡ reading_of f e
  unfolding reading_of
  reading-alike = λ i.
      let refusal = (open_case (opens i).answer).refusal in
      cond (eqb refusal 0) (holds (content-alike i)) (refused refusal)

-- ---- sections one behind the other

-- the section that stands behind the lengths before it
abbrev pub section_at : List ℤ → List ℤ → List ℕ → ℕ → Section
section_at ids lengths bytes i = record {
  identifier = get_or ids i (pos 0);
  bytes = part bytes (4 * sum_of (take i lengths)) (4 * words_of (get_or lengths i (pos 0)));
}

part-later : (bytes : List ℕ) (k s n : ℕ) → part bytes (4 * (k + s)) n ≡ part (drop (4 * k) bytes) (4 * s) n
unfolding part
part-later bytes k s n = let q : 4 * k + 4 * s ≡ 4 * (k + s) = omega arith in ap (take n) (sym (drop-drop (4 * s) (4 * k) bytes ∙ ap (λ (m : ℕ). drop m bytes) q))

later-section : (z n : ℤ) (ids lengths : List ℤ) (bytes : List ℕ) (i : ℕ)
    → section_at (z ∷ ids) (n ∷ lengths) bytes (suc i) ≡ section_at ids lengths (drop (4 * words_of n) bytes) i
later-section z n ids lengths bytes i =
    let q = part-later bytes (words_of n) (sum_of (take i lengths)) (4 * words_of (get_or lengths i (pos 0))) in
    λ j. record { identifier = get_or ids i (pos 0); bytes = q j }

-- sections that are read where the lengths before them end are the sections as they were handed in
pub cut-read : (read : ℕ → Section) (ids lengths : List ℤ) (bytes : List ℕ) → length lengths ≡ length ids
    → ((k : ℕ) → 1 ≤ k → k ≤ length ids → read k ≡ section_at ids lengths bytes (k - 1)) → in_order read (length ids) ≡ sections_cut ids lengths bytes
unfolding part
cut-read read [] lengths bytes p e = refl
cut-read read (z ∷ ids) [] bytes p e = absurd (omega arith)
cut-read read (z ∷ ids) (n ∷ lengths) bytes p e =
    in_order-first read (length ids)
    ∙ ap₂ (λ (s : Section) (l : List Section). s ∷ l) (e 1 (omega arith) (omega arith))
    (cut-read (λ k. read (suc k)) ids lengths (drop (4 * words_of n) bytes) (omega arith)
    (λ k l h.
    let q : suc k - 1 ≡ suc (k - 1) = omega arith in
    e (suc k) (omega arith) (omega arith) ∙ ap (section_at (z ∷ ids) (n ∷ lengths) bytes) q ∙ later-section z n ids lengths bytes (k - 1)))
