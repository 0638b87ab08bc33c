-- An accepted update, seen from its file and its entry: the file was admitted and validates as it did, the entry opens as it did, and every piece of it but the section
-- rewritten has its bytes. Assumes nothing.
use Prim.Native.Nat.{ℕ, ◌+◌, ◌*◌, ◌-◌, ◌≤◌, ◌<◌}
use mathlib.Core.Path.{◌≡◌, refl, sym, ap, ◌∙◌}
use mathlib.Core.Logic.{inl, inr, ⊎_swap}
use mathlib.Core.Bool.{true, false}
use mathlib.Core.List.{List}
use native.Mathlib.Omega.{arith}
use borrow.Author.Tests.{eqb-true, eqb-false, ltb-true, ltb-false, lt-ltb, leb-true}
use lib.Dec.{eqb, ltb, leb}
use lib.ListN.{length}
use Rattle.outcome.proofs.Either.{either}
use Rattle.image.specs.Image.{part}
use Rattle.image.proofs.Writes.{Beside, beside-part}
use Rattle.words.proofs.Runs.{run-test}
use Rattle.geometry.specs.declared.units.RecordNumber.{RecordNumber}
use Rattle.geometry.specs.declared.units.EntryNumber.{EntryNumber}
use Rattle.geometry.specs.Units.{offset_of, entry_position_of, entries_before}
use Rattle.layout.specs.FileCode.{byte_order_of}
use Rattle.layout.specs.EntryWords.{descriptor_words}
use Rattle.layout.proofs.FileCodes.{order_alike}
use Rattle.descriptor.specs.declared.numbers.DescriptorNumbers.{DescriptorNumbers}
use Rattle.descriptor.specs.FirstRecord.{numbers_of, addresses_of}
use Rattle.descriptor.specs.Rules.{file_refusal}
use Rattle.descriptor.specs.Answers.{validation_of}
use Rattle.descriptor.specs.Bounds.{Admitted}
use Rattle.descriptor.proofs.Passed.{place-behind}
use Rattle.descriptor.proofs.Answered.{file-admitted, answer-numbers, answer-refused}
use Rattle.pieces.specs.declared.contents.Piece.{Piece}
use Rattle.pieces.specs.EntryDescriptor.{section_of}
use Rattle.pieces.specs.Contents.{apart, data_apart}
use Rattle.pieces.specs.Tables.{section_named}
use Rattle.pieces.proofs.Pieces.{Placed, section-placed, data-placed, apart-run, sections-run}
use Rattle.entry.specs.Entered.{Entered}
use Rattle.entry.specs.Opening.{slot_position_of, place_stored, entry_refusal, entered_at, entered_of, end_of}
use Rattle.entry.proofs.Entering.{Opens, entry-opens, entered-numbers, entered-refusal}
use Rattle.handing.specs.Parts.{words_from, piece_from, index_part, section_part, data_part, part_in, bytes_of}
use Rattle.alike.proofs.FirstAlike.{first_alike}
use Rattle.alike.proofs.Described.{Describes}
use Rattle.alike.proofs.Agreeing.{Agrees}
use Rattle.update.specs.Answers.{Update, place_named, update_of, file_after_update}
use Rattle.updated.proofs.Rewritten.{by-update, place-given, beside-stays, update-length}

-- two pieces of an entry that share no word stand beside each other
apart-beside : (start : ℕ) (p q : Piece) → apart p q ≡ true → 1 ≤ p.address.0 → 1 ≤ q.address.0
    → Beside (entry_position_of start p.address) p.words (entry_position_of start q.address) q.words
unfolding apart
apart-beside start p q t l m =
    let ends = p.address.0 + p.words in
    either (leb ends q.address.0)
    (λ o. inl (omega (arith, leb-true ends q.address.0 o)))
    (λ o. inr (omega (arith, leb-true (q.address.0 + q.words) p.address.0 (rw o at t))))

-- ---- what an update names

module _ (file : List ℕ) (u : Update) where
  abbrev d : DescriptorNumbers
  d = numbers_of file

  abbrev addresses : List RecordNumber
  addresses = addresses_of file d.nex

  abbrev after : List ℕ
  after = file_after_update file u

  -- the entry, as it is stored
  abbrev pub entry_named : Entered
  entry_named = entered_at file d (place_stored file (slot_position_of d addresses u.number))

  abbrev start : ℕ
  start = entry_named.start

  abbrev nsec : ℕ
  nsec = entry_named.nsec

  -- how many sections come before the one that has the identifier
  abbrev pub count_before : ℕ
  count_before = section_named file start u.identifier 0 nsec

  -- the section behind i others
  abbrev pub section_behind : ℕ → Piece
  section_behind i = section_of file start nsec i

  -- where a piece of the entry starts
  abbrev position_in : Piece → ℕ
  position_in p = entry_position_of start p.address

  -- where the section starts
  abbrev pub position_named : ℕ
  position_named = position_in (section_behind count_before)

  -- how many words it has
  abbrev pub words_named : ℕ
  words_named = (section_behind count_before).words

  -- n words from a position on, and the section, share none
  abbrev pub BesideNamed : ℕ → ℕ → Type 0
  BesideNamed at n = Beside at n position_named words_named

  module _ (accepted : update_of file u ≡ 0) where
    -- the file of an accepted update is admitted
    pub file-admits : file_refusal file ≡ 0
    unfolding part_in
    file-admits = either (eqb (file_refusal file) 0) (eqb-true (file_refusal file) 0) (λ q. rw (answer-refused file (file_refusal file) refl q) at (place-given file u accepted))

    part-given : (section_part file d addresses u.number u.identifier).refusal ≡ 0
    unfolding part_in
    part-given = rw (answer-numbers file file-admits) at (place-given file u accepted)

    -- its entry opens
    pub entry-given : entry_refusal file d addresses u.number ≡ 0
    unfolding section_part
    entry-given =
        let x = entered_of file d addresses u.number in
        sym (entered-refusal file d addresses u.number) ∙ either (eqb x.refusal 0) (eqb-true x.refusal 0) (λ q. rw q at part-given)

    entered-is : entered_of file d addresses u.number ≡ entry_named
    entered-is = entered-numbers file d addresses u.number entry-given

    -- a section of it has the identifier
    pub section-given : count_before < nsec
    unfolding section_part
    section-given =
        let given = rw entered-is at part-given in
        either (ltb count_before nsec) (ltb-true count_before nsec) (λ q. let none : ◌≡◌ {A = ℕ} 20 0 = rw q at given in absurd (omega arith))

    -- and its space is that section
    pub place_is : place_named file u ≡ piece_from start (section_behind count_before)
    unfolding part_in section_part
    place_is = rw (answer-numbers file file-admits, entered-is, lt-ltb count_before nsec section-given)

    admits : Admitted (length file) d addresses
    admits = file-admitted file file-admits

    opened : Opens file d u.number entry_named.place
    opened = entry-opens file d addresses u.number admits entry-given

    -- its number is that of an entry
    pub number-given : (1 ≤ u.number.0) × (u.number.0 ≤ entries_before d.xnext)
    number-given = (opened.number-low, opened.number-high)

    placed : (i : ℕ) → i < nsec → Placed nsec entry_named.nword (section_behind i)
    placed i h = section-placed file start nsec entry_named.nword i nsec h opened.sections-within

    -- the section starts behind the descriptor of its entry, and ends within the entry
    pub section-inside : let x = entered_of file d addresses u.number in (x.start + descriptor_words x.nsec ≤ position_named) × (position_named + words_named ≤ end_of x)
    section-inside = let p = placed count_before section-given in rw entered-is (omega (arith, p.first), omega (arith, p.first, p.last))

    first-before : d.reclen ≤ position_named
    first-before =
        let behind = place-behind d.reclen entry_named.place.«record» entry_named.place.word opened.record-low in
        omega (arith, (placed count_before section-given).first)

    -- ---- the words that stay

    -- some of the words beside the section are beside it too
    beside-some : (at n from k : ℕ) → BesideNamed at n → at ≤ from → from + k ≤ at + n → BesideNamed from k
    beside-some at n from k b l h = ⊎_swap (beside-part position_named words_named at n from k (⊎_swap b) l h)

    -- words beside the section stay
    pub words-stay : (at n : ℕ) → BesideNamed at n → part after (offset_of at) (offset_of n) ≡ part file (offset_of at) (offset_of n)
    words-stay at n b = beside-stays file u accepted (offset_of at) (offset_of n) (rw place_is (wide b))
      where
        wide : BesideNamed at n → Beside (4 * at) (4 * n) (4 * position_named) (4 * position_named + 4 * words_named - 4 * position_named)
        wide (inl l) = inl (omega arith)
        wide (inr l) = inr (omega arith)

    part_stays : (at n : ℕ) → BesideNamed at n → bytes_of after (words_from at n) ≡ bytes_of file (words_from at n)
    part_stays at n b = let q : 4 * at + 4 * n - 4 * at ≡ 4 * n = omega arith in rw q (words-stay at n b)

    order-stays : byte_order_of after ≡ byte_order_of file
    order-stays = order_alike after file (words-stay 0 1 (inl (omega (arith, first-before, admits.settled.reclen-low))))

    -- ---- the pieces of the entry

    sections-beside : (i j : ℕ) → i < j → j < nsec → Beside (position_in (section_behind i)) (section_behind i).words (position_in (section_behind j)) (section_behind j).words
    sections-beside i j l h =
        let run = run-test (sections-run file start nsec) j nsec h opened.sections-apart in
        apart-beside start (section_behind i) (section_behind j) (run-test (apart-run file start nsec (section_behind j)) i j l run)
        (omega (arith, (placed i (omega arith)).first)) (omega (arith, (placed j h).first))

    -- every other section has its bytes
    pub section-stays : (i : ℕ) → i < nsec → (i ≡ count_before → ⊥) → let p = piece_from start (section_behind i) in bytes_of after p ≡ bytes_of file p
    section-stays i h o =
        part_stays (position_in (section_behind i)) (section_behind i).words
        (either (ltb i count_before)
        (λ q. sections-beside i count_before (ltb-true i count_before q) section-given)
        (λ q. ⊎_swap (sections-beside count_before i (omega (arith, ltb-false i count_before q)) h)))

    -- and so has the data
    pub data-stays : let p = data_part file d addresses u.number in bytes_of after p ≡ bytes_of file p
    unfolding data_part data_apart part
    data-stays = rw entered-is (either (eqb array.words 0) (λ q. rw q) (λ q. rw q (part_stays (position_in array) array.words (beside q))))
      where
        array : Piece
        array = entry_named.array

        beside : eqb array.words 0 ≡ false → BesideNamed (position_in array) array.words
        beside q =
            let clear = run-test (apart-run file start nsec array) count_before nsec section-given (rw q at opened.data-apart) in
            let within = data-placed nsec entry_named.nword array opened.nword-small (eqb-false array.words 0 q) opened.data-within in
            ⊎_swap (apart-beside start (section_behind count_before) array clear (omega (arith, (placed count_before section-given).first)) (omega (arith, within.first)))

    -- ---- an entry that opens and whose slot stands beside the section

    module _ (e : EntryNumber) (opens : entry_refusal file d addresses e ≡ 0) (slot : BesideNamed (slot_position_of d addresses e) d.lind) where
      abbrev here : Entered
      here = entered_of file d addresses e

      -- its index words have their bytes
      pub index_stays : let p = index_part file d addresses e in bytes_of after p ≡ bytes_of file p
      unfolding index_part
      index_stays =
          let at = slot_position_of d addresses e in
          rw (entered-numbers file d addresses e opens)
          (part_stays (at + 3) (d.lind - 3) (beside-some at d.lind (at + 3) (d.lind - 3) slot (omega arith) (omega (arith, admits.settled.lind-low))))

      -- where its descriptor stands beside the section too, it opens as it did
      pub describes : BesideNamed here.start (descriptor_words here.nsec) → Describes file after d d addresses addresses e
      describes b = record {
        admitted = admits;
        opens = opens;
        order = order-stays;
        reclen = refl;
        lind = refl;
        entries = omega arith;
        free = omega arith;
        slot = refl;
        index = words-stay (slot_position_of d addresses e) d.lind slot;
        same = words-stay here.start (descriptor_words here.nsec) b;
      }

      -- and where all its words do, it is as it was
      pub agrees : BesideNamed here.start here.nword → Agrees file after d d addresses addresses e
      agrees b =
          let fits : descriptor_words here.nsec ≤ here.nword = rw (entered-numbers file d addresses e opens) (entry-opens file d addresses e admits opens).nword-low in
          record {
            described = describes (beside-some here.start here.nword here.start (descriptor_words here.nsec) b (omega arith) (omega arith));
            same = words-stay here.start here.nword b;
          }

    -- so does the entry of the update, where its slot stands beside the section
    pub describes-named : BesideNamed (slot_position_of d addresses u.number) d.lind → Describes file after d d addresses addresses u.number
    describes-named slot = describes u.number entry-given slot (inl section-inside.0)

  -- ---- the file

  -- an update, accepted or refused, leaves the first record
  pub update-first : part after 0 (offset_of d.reclen) ≡ part file 0 (offset_of d.reclen)
  update-first = by-update file u (λ a. words-stay a 0 d.reclen (inl (omega (arith, first-before a)))) (ap (λ (f : List ℕ). part f 0 (offset_of d.reclen)))

  -- so the file validates after it as before it
  pub update-validates : validation_of after ≡ validation_of file
  update-validates =
      by-update file u
      (λ a.
      let lent = (admits a).lent in
      let long = update-length file u in
      first_alike file after (file-admits a) update-first (omega arith) (omega (arith, lent.high)) (rw long lent.whole) ∙ sym (answer-numbers file (file-admits a)))
      (ap validation_of)
