-- What a reader finds after an accepted update of a sound file: every other entry reads as it did, and the entry of the update with its first section that has the
-- identifier rewritten. Assumes nothing.
use Prim.Native.Nat.{ℕ, zero, suc, ◌-◌, ◌≤◌, ◌<◌}
use mathlib.Core.Path.{◌≡◌, refl, sym, ap, ap₂, ◌∙◌}
use mathlib.Core.Bool.{true, false, cond}
use mathlib.Core.List.{List, ◌∷◌}
use native.Mathlib.Omega.{arith}
use borrow.Author.Tests.{eqb-true}
use lib.Dec.{eqb}
use lib.IntN.{ℤ}
use lib.ListN.{length}
use Rattle.outcome.proofs.Either.{either}
use Rattle.geometry.specs.declared.units.RecordNumber.{RecordNumber}
use Rattle.descriptor.specs.declared.numbers.DescriptorNumbers.{DescriptorNumbers}
use Rattle.descriptor.specs.FirstRecord.{numbers_of, addresses_of}
use Rattle.descriptor.specs.Answers.{Validates}
use Rattle.descriptor.proofs.Answered.{file-admitted}
use Rattle.pieces.specs.declared.contents.Piece.{Piece}
use Rattle.pieces.specs.EntryDescriptor.{identifier_at}
use Rattle.pieces.specs.Tables.{same_integer}
use Rattle.pieces.proofs.SectionTables.{named, same-equal, same-other}
use Rattle.entry.specs.Answers.{open_case}
use Rattle.handing.specs.Parts.{piece_from, index_part, data_part, bytes_of}
use Rattle.alike.proofs.Described.{Describes, opens-there, index-place, data-place}
use Rattle.update.specs.Answers.{Update, padded, place_named, update_of, file_after_update}
use Rattle.updated.proofs.Rewritten.{update-length, space-holds, space-length}
use Rattle.updated.proofs.EntryAfter.{entry_named, count_before, section_behind, section-given, place_is, entry-given, number-given, section-stays, data-stays, index_stays}
use Rattle.promises.specs.Contents.{entries_of, opened_in, start_in, in_order, Section, piece_at, section_read, content_read, holds, reading_of}
use Rattle.promises.specs.Calls.{rewritten, first_rewritten, reading_updated}
use Rattle.promises.specs.Regions.{Sound}
use Rattle.promises.specs.Updates.{HandsOut}
use Rattle.promises.proofs.Readings.{numbers-shown, in_order-first, in_order-same}
use Rattle.promises.proofs.OpenEntries.{OpenEntry, open-shown, start-shown, piece-shown, section-shown}
use Rattle.promises.proofs.EntryAlike.{opens-alike, start-alike, reading-there}
use Rattle.promises.proofs.HandedAlike.{bytes-alike}
use Rattle.promises.proofs.UpdatedEntries.{shown-before, shown-after, slot-beside, entry-agrees, own-described}

-- sections in order, of which number j is the first that has the identifier, with that one rewritten
first-rewritten : (z : ℤ) (content : List ℕ) (n j : ℕ) (f g : ℕ → Section) → 1 ≤ j → j ≤ n
    → same_integer (f j).identifier z ≡ true → ((k : ℕ) → 1 ≤ k → k < j → same_integer (f k).identifier z ≡ false)
    → g j ≡ rewritten content (f j) → ((k : ℕ) → 1 ≤ k → k ≤ n → (k ≡ j → ⊥) → g k ≡ f k)
    → in_order g n ≡ first_rewritten z content (in_order f n)
first-rewritten z content zero j f g l h same before this others = absurd (omega arith)
first-rewritten z content (suc n) zero f g l h same before this others = absurd (omega arith)
first-rewritten z content (suc n) (suc zero) f g l h same before this others =
    rw (in_order-first f n, in_order-first g n, same)
    (ap₂ (λ (s : Section) (t : List Section). s ∷ t) this
    (in_order-same (λ k. g (suc k)) (λ k. f (suc k)) n (λ k p q. others (suc k) (omega arith) (omega arith) (λ e. absurd (omega arith)))))
first-rewritten z content (suc n) (suc (suc j)) f g l h same before this others =
    rw (in_order-first f n, in_order-first g n, before 1 (omega arith) (omega arith))
    (ap₂ (λ (s : Section) (t : List Section). s ∷ t) (others 1 (omega arith) (omega arith) (λ e. absurd (omega arith)))
    (first-rewritten z content n (suc j) (λ k. f (suc k)) (λ k. g (suc k)) (omega arith) (omega arith) same
    (λ k p q. before (suc k) (omega arith) (omega arith)) this
    (λ k p q o. others (suc k) (omega arith) (omega arith) (λ e. o (omega arith)))))

module _ (file : List ℕ) (u : Update) (s : Sound file) (a : update_of file u ≡ 0) where
  abbrev d : DescriptorNumbers
  d = numbers_of file

  abbrev addresses : List RecordNumber
  addresses = addresses_of file d.nex

  abbrev after : List ℕ
  after = file_after_update file u

  p : Validates file d addresses
  p = shown-before file u s a

  q : Validates after d addresses
  q = shown-after file u s a

  abbrev told : Describes file after d d addresses addresses u.number
  told = own-described file u s a

  -- the entry of the update, before it
  pub open-before : OpenEntry file d addresses u.number
  open-before = record { shown = p; admitted = file-admitted file s.admitted; opens = entry-given file u a }

  -- and after it
  pub open_after : OpenEntry after d addresses u.number
  open_after = record { shown = q; admitted = rw (update-length file u) (file-admitted file s.admitted); opens = opens-there file after d d addresses addresses u.number told }

  -- it opens as it did, and hands out the index words and the data that it did
  pub hands-own : HandsOut file after u.number
  hands-own =
      let l = number-given file u a in
      let slot = slot-beside file u s a u.number.0 l.0 l.1 in
      let index = ap (bytes_of after) (index-place file after d d addresses addresses u.number told) ∙ index_stays file u a u.number (entry-given file u a) slot in
      let values = ap (bytes_of after) (data-place file after d d addresses addresses u.number told) ∙ data-stays file u a in
      record {
        opened = opens-alike p q told;
        index = bytes-alike file after p q (λ f n l. index_part f n l u.number) index;
        values = bytes-alike file after p q (λ f n l. data_part f n l u.number) values;
      }

  -- ---- its sections

  abbrev start : ℕ
  start = (entry_named file u).start

  abbrev nsec : ℕ
  nsec = (entry_named file u).nsec

  module _ (k : ℕ) (low : 1 ≤ k) (high : k ≤ nsec) where
    abbrev piece : Piece
    piece = section_behind file u (k - 1)

    piece-there : (f : List ℕ) → bytes_of f (piece_from (start_in file u.number) (piece_at file u.number k)) ≡ bytes_of f (piece_from start piece)
    piece-there f = ap₂ (λ (b : ℕ) (x : Piece). bytes_of f (piece_from b x)) (start-shown open-before) (piece-shown open-before k low high)

    -- at place k the identifier is read that was, and the bytes that are there now
    read-after : {bytes : List ℕ} → bytes_of after (piece_from start piece) ≡ bytes → section_read after u.number k ≡ record { identifier = (section_read file u.number k).identifier; bytes = bytes }
    unfolding section_read
    read-after e =
        let there = piece-there after ∙ e in
        rw (start-alike p q told, hands-own.opened) (λ i. record { identifier = (section_read file u.number k).identifier; bytes = there i })

    other-read : (k ≡ suc (count_before file u) → ⊥) → section_read after u.number k ≡ section_read file u.number k
    unfolding section_read
    other-read o = read-after (section-stays file u a (k - 1) (omega arith) (λ e. o (omega arith)) ∙ sym (piece-there file))

    this-read : k ≡ suc (count_before file u) → section_read after u.number k ≡ rewritten u.content (section_read file u.number k)
    unfolding section_read
    this-read e =
        let i : k - 1 ≡ count_before file u = omega arith in
        let there : (f : List ℕ) → bytes_of f (piece_from start piece) ≡ bytes_of f (place_named file u) = λ f. rw (i, place_is file u a) in
        let long = sym (space-length file u) ∙ ap length (sym (piece-there file ∙ there file)) in
        read-after (there after ∙ space-holds file u a ∙ ap (padded u.content) long)

  sections-after : in_order (section_read after u.number) nsec ≡ first_rewritten u.identifier u.content (in_order (section_read file u.number) nsec)
  sections-after =
      let c = count_before file u in
      let one = named file start nsec u.identifier in
      let few = section-given file u a in
      let has : (k : ℕ) → 1 ≤ k → k ≤ nsec → (section_read file u.number k).identifier ≡ identifier_at file start (k - 1) = λ k l h.
      ap (λ (t : Section). t.identifier) (section-shown open-before k l h) in
      let i : suc c - 1 ≡ c = omega arith in
      first-rewritten u.identifier u.content nsec (suc c) (section_read file u.number) (section_read after u.number) (omega arith) (omega arith)
      (same-equal (section_read file u.number (suc c)).identifier u.identifier (has (suc c) (omega arith) (omega arith) ∙ ap (identifier_at file start) i ∙ one.found few))
      (λ k l h. same-other (section_read file u.number k).identifier u.identifier (λ e. one.first (k - 1) (omega arith) (sym (has k l (omega arith)) ∙ e)))
      (this-read (suc c) (omega arith) (omega arith) refl)
      other-read

  -- ---- what is found

  -- the content of the entry of the update
  pub content-after : content_read after u.number ≡ record {
    version = (content_read file u.number).version;
    index = (content_read file u.number).index;
    sections = first_rewritten u.identifier u.content (content_read file u.number).sections;
    values = (content_read file u.number).values;
  }
  unfolding content_read
  content-after =
      let sections : in_order (section_read after u.number) (opened_in after u.number).nsec
      ≡ first_rewritten u.identifier u.content (in_order (section_read file u.number) (opened_in file u.number).nsec) =
      rw (hands-own.opened, open-shown open-before) sections-after in
      λ i. record { version = (open_case (hands-own.opened i).answer).version; index = hands-own.index i; sections = sections i; values = hands-own.values i }

  own-reads : reading_of after u.number ≡ reading_updated u (reading_of file u.number)
  unfolding reading_of
  own-reads = rw (hands-own.opened, open-shown open-before) (ap holds content-after)

  -- a number finds what it found, updated where it is the number of the update
  pub update-reads : (e : ℕ) → 1 ≤ e → e ≤ entries_of file → let r = reading_of file (record { 0 = e }) in
      reading_of after (record { 0 = e }) ≡ cond (eqb u.number.0 e) (reading_updated u r) r
  update-reads e l h =
      let few = rw (numbers-shown file p) at h in
      either (eqb u.number.0 e)
      (λ t. rw (t, ← (eqb-true u.number.0 e t)) own-reads)
      (λ t. rw t (reading-there p q (entry-agrees file u s a e l few t)))
