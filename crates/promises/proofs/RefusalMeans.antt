-- What a refusal means: each call answers by the whole table of its tests. So k is given exactly when a test of number k fails
-- and every earlier one passes. The order check is in CheckMeans. Assumes nothing.
use Prim.Native.Nat.{ℕ, ◌+◌}
use mathlib.Core.Path.{◌≡◌, refl, sym, ap, subst, ◌∙◌}
use mathlib.Core.Bool.{Bool, true, false, cond}
use mathlib.Core.Logic.{inl, inr}
use mathlib.Core.List.{List, [], ◌∷◌, ◌++◌}
use native.Mathlib.Omega.{arith}
use borrow.Author.Tests.{eqb-true, eqb-false}
use lib.Dec.{leb, ltb, eqb}
use lib.IntN.{ℤ}
use lib.ListN.{length}
use Rattle.geometry.specs.declared.units.RecordNumber.{RecordNumber}
use Rattle.geometry.specs.declared.units.EntryNumber.{EntryNumber}
use Rattle.geometry.specs.declared.units.ExtensionNumber.{ExtensionNumber}
use Rattle.descriptor.specs.declared.numbers.DescriptorNumbers.{DescriptorNumbers}
use Rattle.descriptor.specs.declared.numbers.Settings.{Settings}
use Rattle.descriptor.specs.declared.validating.Validated.TheVariants.{Numbers}
use Rattle.descriptor.specs.declared.validating.Validation.{Validation}
use Rattle.descriptor.specs.FirstRecord.{numbers_of, addresses_of}
use Rattle.descriptor.specs.Refusal.{Rule, refusal_in, Given, Numbered}
use Rattle.descriptor.specs.Rules.{file_refusal}
use Rattle.descriptor.specs.Answers.{no_validation, validation_of, extension_in, extension_of}
use Rattle.descriptor.proofs.Refusals.{refusal_is, refusal-given, refusal-none, all_hold, refusal-append}
use Rattle.descriptor.proofs.Answered.{answer-numbers, answer-refused}
use Rattle.pieces.specs.Tables.{section_named}
use Rattle.entry.specs.Entered.{Entered}
use Rattle.entry.specs.declared.answers.Opened.{Opened}
use Rattle.entry.specs.Opening.{entry_refusal, entered_of, not_entered}
use Rattle.entry.specs.Answers.{entered_in, opened_as, open_of, open_case}
use Rattle.entry.proofs.Entering.{entered-refusal}
use Rattle.handing.specs.declared.place.PartPlace.{PartPlace}
use Rattle.handing.specs.Parts.{no_part, piece_from, index_part, section_part, data_part, part_in, index_words_of, section_words_of, data_words_of}
use Rattle.writer.specs.declared.answers.Appended.{Appended}
use Rattle.storing.specs.Handed.{Handed}
use Rattle.writer.specs.Rules.{append_rules, append_refusal}
use Rattle.writer.specs.Answers.{accepted_from, refused_from, appended_from, append_in, append_of, file_after}
use Rattle.writer.specs.Creation.{creation_refusal}
use Rattle.batch.specs.declared.answers.Batched.{Batched}
use Rattle.batch.specs.Batch.{Batch, entries_in}
use Rattle.batch.specs.Rules.{batch_rules, batch_refusal}
use Rattle.batch.specs.Answers.{answer_in_turn, batch_of}
use Rattle.update.specs.Rules.{content_rules, content_refusal}
use Rattle.update.specs.Answers.{Update, space_of, update_at, place_named, update_of}
use Rattle.outcome.proofs.Either.{either}
use Rattle.promises.specs.Tables.{extension_rows, entry_rows, section_rows, Exactly, validate_tests, create_tests, extension_tests, open_tests, section_tests, update_tests, append_tests, in_turn_tests, batch_tests}

-- ---- any table

-- the refusal of a table is given exactly
pub exactly : (n : ℕ) (rules : List Rule) → Numbered rules → n ≡ refusal_in rules → Exactly n rules
exactly n rules m e = record {
  given = λ k h q. refusal-given k rules (sym e ∙ q) h;
  is = λ k g. e ∙ refusal_is k rules g;
  none = λ q. all_hold rules m (sym e ∙ q);
  accepted = λ a. e ∙ refusal-none rules a;
}

-- two tables joined have no row numbered 0 where neither has one
pub numbered-joined : (rs ss : List Rule) → Numbered rs → Numbered ss → Numbered (rs ++ ss)
numbered-joined [] ss m n = n
numbered-joined (r ∷ rs) ss m n = (m.0, numbered-joined rs ss m.1 n)

-- a number that is the first table's refusal, else the second's, is that of the two joined
pub joined : (n : ℕ) (rs ss : List Rule) → Numbered rs → (refusal_in rs ≡ 0 → n ≡ refusal_in ss) → (eqb (refusal_in rs) 0 ≡ false → n ≡ refusal_in rs)
    → n ≡ refusal_in (rs ++ ss)
joined n rs ss m f g =
    let both = refusal-append rs ss m in
    let by : (b : Bool) → eqb (refusal_in rs) 0 ≡ b → refusal_in (rs ++ ss) ≡ cond b (refusal_in ss) (refusal_in rs) = λ b q. rw q at both in
    either (eqb (refusal_in rs) 0) (λ q. f (eqb-true (refusal_in rs) 0 q) ∙ sym (by true q)) (λ q. g q ∙ sym (by false q))

-- all the numbers of a table's rows have a property
abbrev pub EachNumber : (ℕ → Type 0) → List Rule → Type 0
EachNumber P [] = Unit
EachNumber P (r ∷ rs) = P r.number × EachNumber P rs

-- so has its refusal, where it is not 0
pub refusal-among : (P : ℕ → Type 0) (rules : List Rule) → EachNumber P rules → (refusal_in rules ≡ 0 → ⊥) → P (refusal_in rules)
refusal-among P [] m f = absurd (f refl)
refusal-among P (r ∷ rs) m f = either r.holds (λ q. rw q (refusal-among P rs m.1 (λ z. f (rw q z)))) (λ q. rw q m.0)

-- and so has a number that a table gives
pub given-among : (P : ℕ → Type 0) (k : ℕ) (rules : List Rule) → EachNumber P rules → Given k rules → P k
given-among P k [] m g = absurd g
given-among P k (r ∷ rs) m (inl g) = subst P g.0 m.0
given-among P k (r ∷ rs) m (inr g) = given-among P k rs m.1 g.1

-- of two tables joined, where it holds of each
pub each-joined : (P : ℕ → Type 0) (rows more : List Rule) → EachNumber P rows → EachNumber P more → EachNumber P (rows ++ more)
each-joined P [] more m n = n
each-joined P (r ∷ rs) more m n = (m.0, each-joined P rs more m.1 n)

-- a number that is given exactly by a table is its refusal
pub exact-number : (n : ℕ) (rules : List Rule) → Numbered rules → Exactly n rules → n ≡ refusal_in rules
exact-number n rules m e =
    let k = refusal_in rules in
    either (eqb k 0)
    (λ q. let z = eqb-true k 0 q in e.accepted (all_hold rules m z) ∙ sym z)
    (λ q. e.is k (refusal-given k rules refl (omega (arith, eqb-false k 0 q))))

-- an answer with the number 0 where n is 0, and with n elsewhere, has the number n
chosen : {A : Type 0} (number : A → ℕ) (n : ℕ) (x y : A) → number x ≡ 0 → number y ≡ n → number (cond (eqb n 0) x y) ≡ n
chosen number n x y f g = either (eqb n 0) (λ q. rw q (f ∙ sym (eqb-true n 0 q))) (λ q. rw q g)

-- where n is the first table's refusal, and x, if n is 0, has the number of the second's, it has that of the two joined
pub chosen-joined : {A : Type 0} (number : A → ℕ) (n : ℕ) (x y : A) (rs ss : List Rule) → Numbered rs → n ≡ refusal_in rs → (n ≡ 0 → number x ≡ refusal_in ss) → number y ≡ n
    → number (cond (eqb n 0) x y) ≡ refusal_in (rs ++ ss)
chosen-joined number n x y rs ss m e f g =
    joined (number (cond (eqb n 0) x y)) rs ss m (λ z. let none : n ≡ 0 = e ∙ z in rw none (f none)) (λ q. rw (ap (λ (k : ℕ). eqb k 0) e ∙ q) (g ∙ e))

-- ---- the calls

-- creation
pub create-means : (bytes : ℕ) (settings : Settings) → Exactly (creation_refusal bytes settings) (create_tests bytes settings)
unfolding creation_refusal
create-means bytes settings = exactly (creation_refusal bytes settings) (create_tests bytes settings) (omega arith) refl

module _ (file : List ℕ) where
  abbrev d : DescriptorNumbers
  d = numbers_of file

  abbrev addresses : List RecordNumber
  addresses = addresses_of file d.nex

  -- every other call goes by the answer of validating: it gives the file's refusal, else that of the rest of its tests
  after-file : (number : Validation → ℕ) (rest : List Rule) → Numbered rest → ((n : ℕ) → number (no_validation n) ≡ n)
      → number (record { refusal = 0; numbers = Numbers d; addresses = addresses }) ≡ refusal_in rest
      → Exactly (number (validation_of file)) (validate_tests file ++ rest)
  unfolding file_refusal
  after-file number rest m refused admitted =
      exactly (number (validation_of file)) (validate_tests file ++ rest) (numbered-joined (validate_tests file) rest (omega arith) m)
      (joined (number (validation_of file)) (validate_tests file) rest (omega arith)
      (λ z. ap number (answer-numbers file z) ∙ admitted)
      (λ q. ap number (answer-refused file (file_refusal file) refl q) ∙ refused (file_refusal file)))

  -- validating
  pub validate-means : Exactly (validation_of file).refusal (validate_tests file)
  validate-means = after-file (λ v. v.refusal) [] tt (λ n. refl) refl

  -- an extension
  pub extension-means : (k : ExtensionNumber) → Exactly (extension_of file k).refusal (extension_tests file k)
  unfolding extension_of extension_in
  extension-means k = after-file (λ v. (extension_in v.numbers v.addresses k).refusal) (extension_rows file k) (omega arith) (λ n. refl) there
    where
      there : (extension_in (Numbers d) addresses k).refusal ≡ refusal_in (extension_rows file k)
      there = either (leb 1 k.0) (λ p. either (leb k.0 d.nex) (λ q. rw (p, q)) (λ q. rw (p, q))) (λ p. rw p)

  -- append
  pub append-means : (h : Handed) → Exactly (append_of file h).refusal (append_tests file h)
  unfolding append_in appended_from append_refusal
  append-means h =
      let n = append_refusal (length file) d h in
      after-file (λ v. (append_in file v.numbers h).refusal) (append_rules (length file) d h) (omega arith) (λ n. refl)
      (chosen (λ (x : Appended). x.refusal) n (accepted_from d) (refused_from n) refl refl)

  -- ---- the calls on an entry

  -- a part that f makes of the file's addresses and numbers
  part-means : (f : List RecordNumber → DescriptorNumbers → PartPlace) (rest : List Rule) → Numbered rest → (f addresses d).refusal ≡ refusal_in rest
      → Exactly (part_in (validation_of file).numbers (f (validation_of file).addresses)).refusal (validate_tests file ++ rest)
  unfolding part_in
  part-means f rest m = after-file (λ v. (part_in v.numbers (f v.addresses)).refusal) rest m (λ n. refl)

  module _ (e : EntryNumber) where
    abbrev entry : Entered
    entry = entered_of file d addresses e

    -- the refusal of entry e is by its rows
    pub entry-number : entry.refusal ≡ refusal_in (entry_rows file e)
    unfolding entry_refusal
    entry-number = entered-refusal file d addresses e

    -- opening
    pub open-means : Exactly (open_case (open_of file e).answer).refusal (open_tests file e)
    unfolding open_of opened_as entered_in
    open-means =
        after-file (λ v. (open_case (opened_as file (entered_in file v.numbers v.addresses e)).answer).refusal) (entry_rows file e) (omega arith)
        (λ n. number (not_entered n)) (number entry ∙ entry-number)
      where
        number : (x : Entered) → (open_case (opened_as file x).answer).refusal ≡ x.refusal
        number x = chosen (λ (o : Opened). (open_case o.answer).refusal) x.refusal _ _ refl refl

    -- index words
    pub index-words-means : Exactly (index_words_of file e).refusal (open_tests file e)
    unfolding index_part
    index-words-means =
        part-means (λ addresses d. index_part file d addresses e) (entry_rows file e) (omega arith)
        (chosen (λ (p : PartPlace). p.refusal) entry.refusal _ (no_part entry.refusal) refl refl ∙ entry-number)

    -- data
    pub data-means : Exactly (data_words_of file e).refusal (open_tests file e)
    unfolding data_part
    data-means =
        part-means (λ addresses d. data_part file d addresses e) (entry_rows file e) (omega arith)
        (chosen (λ (p : PartPlace). p.refusal) entry.refusal _ (no_part entry.refusal) none refl ∙ entry-number)
      where
        none : (cond (eqb entry.array.words 0) (no_part 0) (piece_from entry.start entry.array)).refusal ≡ 0
        none = either (eqb entry.array.words 0) (λ q. rw q) (λ q. rw q)

    -- a section
    pub section-means : (identifier : ℤ) → Exactly (section_words_of file e identifier).refusal (section_tests file e identifier)
    unfolding section_part
    section-means identifier =
        part-means (λ addresses d. section_part file d addresses e identifier) (entry_rows file e ++ section_rows file e identifier) (omega arith)
        (chosen-joined (λ (p : PartPlace). p.refusal) entry.refusal _ (no_part entry.refusal) (entry_rows file e) (section_rows file e identifier) (omega arith) entry-number
        (λ z. either (ltb (section_named file entry.start identifier 0 entry.nsec) entry.nsec) (λ q. rw q) (λ q. rw q))
        refl)

-- ---- updates

-- an update
pub update-means : (file : List ℕ) (u : Update) → Exactly (update_of file u) (update_tests file u)
unfolding update_at content_refusal
update-means file u =
    let p = place_named file u in
    let rows = section_tests file u.number u.identifier in
    let more = content_rules (length u.content) (space_of p) in
    let numbered = numbered-joined (validate_tests file) (entry_rows file u.number ++ section_rows file u.number u.identifier) (omega arith) (omega arith) in
    let e = exact-number p.refusal rows numbered (section-means file u.number u.identifier) in
    exactly (update_of file u) (update_tests file u) (numbered-joined rows more numbered (omega arith))
    (chosen-joined (λ (n : ℕ). n) p.refusal (content_refusal (length u.content) (space_of p)) p.refusal rows more numbered e (λ z. refl) refl)

-- ---- batches

-- tests in turn have no row numbered 0
turns-numbered : (hs : List Handed) (file : List ℕ) → Numbered (in_turn_tests file hs)
turns-numbered [] file = tt
turns-numbered (h ∷ hs) file = numbered-joined (append_tests file h) (in_turn_tests (file_after file h) hs) (omega arith) (turns-numbered hs (file_after file h))

-- an append's refusal is that of its tests
pub append-number : (file : List ℕ) (h : Handed) → (append_of file h).refusal ≡ refusal_in (append_tests file h)
append-number file h = exact-number (append_of file h).refusal (append_tests file h) (omega arith) (append-means file h)

-- appends in turn answer by their tests in turn
turns-number : (hs : List Handed) (n : ℕ) (file : List ℕ) → (answer_in_turn n file hs).refusal ≡ refusal_in (in_turn_tests file hs)
turns-number [] n file = refl
turns-number (h ∷ hs) n file =
    chosen-joined (λ (x : Batched). x.refusal) (append_of file h).refusal _ _ (append_tests file h) (in_turn_tests (file_after file h) hs) (omega arith)
    (append-number file h) (λ z. turns-number hs (n + 1) (file_after file h)) refl

-- they never answer 26, which no row of an append has
turns-no-26 : (hs : List Handed) (n : ℕ) (file : List ℕ) → (answer_in_turn n file hs).refusal ≡ 26 → ⊥
turns-no-26 [] n file = omega arith
turns-no-26 (h ∷ hs) n file =
    let e = append-number file h in
    either (eqb (append_of file h).refusal 0)
    (λ q. rw q (turns-no-26 hs (n + 1) (file_after file h)))
    (λ q. rw (q, e) (refusal-among (λ k. k ≡ 26 → ⊥) (append_tests file h) (omega arith) (λ z. eqb-false (append_of file h).refusal 0 q (e ∙ z))))

module _ (file : List ℕ) (b : Batch) where
  -- a batch
  pub batch-means : Exactly (batch_of file b).refusal (batch_tests file b)
  unfolding batch_of batch_refusal
  batch-means =
      let rest = in_turn_tests file (entries_in b) in
      exactly (batch_of file b).refusal (batch_tests file b) (numbered-joined (batch_rules b) rest (omega arith) (turns-numbered (entries_in b) file))
      (chosen-joined (λ (x : Batched). x.refusal) (batch_refusal b) _ _ (batch_rules b) rest (omega arith) refl (λ z. turns-number (entries_in b) 0 file) refl)

  -- 26 is given exactly when a test of the batch as a whole fails, and then nothing is accepted
  pub batch-26 : ((batch_of file b).refusal ≡ 26 → Given 26 (batch_rules b)) × (Given 26 (batch_rules b) → batch_of file b ≡ record { refusal = 26; accepted = 0 })
  unfolding batch_of batch_refusal
  batch-26 = (
    either (eqb (batch_refusal b) 0)
        (λ q. rw q (λ e. absurd (turns-no-26 (entries_in b) 0 file e)))
        (λ q. rw q (λ e. refusal-given 26 (batch_rules b) e (omega arith))),
    λ g. rw (refusal_is 26 (batch_rules b) g),
  )
