-- A refused call of any kind gives the number and zeros elsewhere, an empty part, and changes no byte; so does a batch where 26 is given. Where one of its appends is
-- refused, those before it are done (Batches). That a refused update changes no byte is `update-kept` of `updated`. Assumes nothing.
-- Only creation, append, a batch of appends and an update change a file; the other calls have it lent for reading.
use Prim.Native.Nat.{ℕ}
use mathlib.Core.Path.{◌≡◌, refl}
use mathlib.Core.Bool.{◌&&◌}
use mathlib.Core.List.{List, []}
use native.Mathlib.Omega.{arith}
use borrow.Author.Tests.{ne_eqb}
use lib.Dec.{leb, ltb, eqb}
use lib.IntN.{ℤ}
use lib.ListN.{length}
use Rattle.image.specs.Image.{part}
use Rattle.geometry.specs.declared.units.RecordNumber.{RecordNumber}
use Rattle.geometry.specs.declared.units.EntryNumber.{EntryNumber}
use Rattle.geometry.specs.declared.units.ExtensionNumber.{ExtensionNumber}
use Rattle.descriptor.specs.declared.numbers.DescriptorNumbers.{DescriptorNumbers}
use Rattle.descriptor.specs.declared.numbers.Settings.{Settings}
use Rattle.descriptor.specs.declared.validating.Validated.{Validated}
use Rattle.descriptor.specs.declared.validating.Validated.TheVariants.{Numbers, Refused}
use Rattle.descriptor.specs.Rules.{file_refusal}
use Rattle.descriptor.specs.Answers.{no_validation, validation_of, no_extension, extension_in, extension_of}
use Rattle.pieces.specs.Tables.{section_named, no_sections}
use Rattle.entry.specs.Entered.{Entered}
use Rattle.entry.specs.declared.answers.Open.TheVariants as answers
use Rattle.entry.specs.Opening.{entered_of}
use Rattle.entry.specs.Answers.{entered_in, opened_as, open_of, open_case}
use Rattle.handing.specs.declared.place.PartPlace.{PartPlace}
use Rattle.handing.specs.Parts.{no_part, bytes_of, index_part, section_part, data_part, part_in, index_words_of, section_words_of, data_words_of}
use Rattle.storing.specs.Handed.{Handed}
use Rattle.writer.specs.Rules.{append_refusal}
use Rattle.writer.specs.Answers.{appended_from, file_from, append_in, file_in, append_of, file_after}
use Rattle.writer.specs.Creation.{creation_refusal, created_file}
use Rattle.batch.specs.Batch.{Batch}
use Rattle.batch.specs.Rules.{batch_rules, batch_refusal}
use Rattle.batch.specs.Answers.{batch_of, file_after_batch}
use Rattle.outcome.proofs.Either.{either}
use Rattle.promises.proofs.RefusalMeans.{refusal-among}

-- ---- validating, and an extension

-- a refused validation: the number, and zeros
pub validate-refused : (file : List ℕ) → ((validation_of file).refusal ≡ 0 → ⊥) → validation_of file ≡ no_validation (validation_of file).refusal
unfolding validation_of
validate-refused file f = either (eqb (file_refusal file) 0) (λ q. absurd (f (rw q))) (λ q. rw q)

-- a refused extension: the number, and zeros
pub extension-refused : (file : List ℕ) (k : ExtensionNumber) → ((extension_of file k).refusal ≡ 0 → ⊥)
    → extension_of file k ≡ no_extension (extension_of file k).refusal
unfolding extension_of extension_in
extension-refused file k = by (validation_of file).numbers
  where
    by : (v : Validated) → ((extension_in v (validation_of file).addresses k).refusal ≡ 0 → ⊥)
        → extension_in v (validation_of file).addresses k ≡ no_extension (extension_in v (validation_of file).addresses k).refusal
    by (Refused n) f = refl
    by (Numbers d) f = either (leb 1 k.0 && leb k.0 d.nex) (λ q. absurd (f (rw q))) (λ q. rw q)

-- ---- opening, and the parts of an entry

-- a refused open: the number, and tables of zeros
pub open-refused : (file : List ℕ) (e : EntryNumber) → ((open_case (open_of file e).answer).refusal ≡ 0 → ⊥)
    → open_of file e ≡ record { answer = answers.Refused (open_case (open_of file e).answer).refusal; sections = no_sections }
unfolding open_of opened_as
open-refused file e f =
    let x = entered_in file (validation_of file).numbers (validation_of file).addresses e in
    either (eqb x.refusal 0) (λ q. absurd (f (rw q))) (λ q. rw q)

-- a part is empty where it is refused
abbrev Empty : PartPlace → Type 0
Empty p = (p.refusal ≡ 0 → ⊥) → p ≡ no_part p.refusal

-- so it is for a part of a file, if it is for that of any numbers
in-file : (v : Validated) (f : DescriptorNumbers → PartPlace) → ((d : DescriptorNumbers) → Empty (f d)) → Empty (part_in v f)
unfolding part_in
in-file (Refused n) f each g = refl
in-file (Numbers d) f each g = each d g

module _ (file : List ℕ) (e : EntryNumber) where
  -- the entry that a part is of
  abbrev entry : DescriptorNumbers → Entered
  entry d = entered_of file d (validation_of file).addresses e

  -- refused index words: the number, and the empty part
  pub index-words-refused : ((index_words_of file e).refusal ≡ 0 → ⊥) → index_words_of file e ≡ no_part (index_words_of file e).refusal
  unfolding index_part
  index-words-refused = in-file (validation_of file).numbers _ (λ d f. either (eqb (entry d).refusal 0) (λ q. absurd (f (rw q))) (λ q. rw q))

  -- a refused section likewise
  pub section-refused : (identifier : ℤ) → ((section_words_of file e identifier).refusal ≡ 0 → ⊥)
      → section_words_of file e identifier ≡ no_part (section_words_of file e identifier).refusal
  unfolding section_part
  section-refused identifier =
      in-file (validation_of file).numbers _
      (λ d f. either (eqb (entry d).refusal 0)
      (λ p. either (ltb (section_named file (entry d).start identifier 0 (entry d).nsec) (entry d).nsec) (λ q. absurd (f (rw (p, q)))) (λ q. rw (p, q)))
      (λ p. rw p))

  -- and refused data
  pub data-refused : ((data_words_of file e).refusal ≡ 0 → ⊥) → data_words_of file e ≡ no_part (data_words_of file e).refusal
  unfolding data_part
  data-refused =
      in-file (validation_of file).numbers _
      (λ d f. either (eqb (entry d).refusal 0) (λ p. absurd (f (either (eqb (entry d).array.words 0) (λ q. rw (p, q)) (λ q. rw (p, q))))) (λ p. rw p))

-- a refused part has no bytes
pub part-empty : (file : List ℕ) (n : ℕ) → bytes_of file (no_part n) ≡ []
unfolding part
part-empty file n = refl

-- ---- creation, append and a batch

-- a refused creation changes no byte
pub create-kept : (file : List ℕ) (settings : Settings) → (creation_refusal (length file) settings ≡ 0 → ⊥) → created_file file settings ≡ file
unfolding created_file
create-kept file settings f = rw (ne_eqb (creation_refusal (length file) settings) 0 f)

module _ (file : List ℕ) (h : Handed) where
  -- an append, by the case of its file's validation
  append-by : (v : Validated) (addresses : List RecordNumber) → ((append_in file v h).refusal ≡ 0 → ⊥)
      → (append_in file v h ≡ record { refusal = (append_in file v h).refusal; number = record { 0 = 0 } })
      × (file_in file v addresses h ≡ file)
  unfolding append_in appended_from file_in file_from
  append-by (Refused n) addresses f = (refl, refl)
  append-by (Numbers d) addresses f = either (eqb (append_refusal (length file) d h) 0) (λ q. absurd (f (rw q))) (λ q. rw q (refl, refl))

  -- a refused append answers the number, and 0 for the new entry's
  pub append-refused : ((append_of file h).refusal ≡ 0 → ⊥) → append_of file h ≡ record { refusal = (append_of file h).refusal; number = record { 0 = 0 } }
  append-refused f = (append-by (validation_of file).numbers (validation_of file).addresses f).0

  -- and changes no byte
  pub append-kept : ((append_of file h).refusal ≡ 0 → ⊥) → file_after file h ≡ file
  append-kept f = (append-by (validation_of file).numbers (validation_of file).addresses f).1

-- the refusal of a batch as a whole is 26
pub whole-26 : (b : Batch) → (batch_refusal b ≡ 0 → ⊥) → batch_refusal b ≡ 26
unfolding batch_refusal
whole-26 b f = refusal-among (λ n. n ≡ 26) (batch_rules b) (omega arith) f

-- a batch that is refused as a whole answers 26, and accepts none
pub batch-refused : (file : List ℕ) (b : Batch) → (batch_refusal b ≡ 0 → ⊥) → batch_of file b ≡ record { refusal = 26; accepted = 0 }
unfolding batch_of
batch-refused file b f = rw (whole-26 b f)

-- and changes no byte
pub batch-kept : (file : List ℕ) (b : Batch) → (batch_refusal b ≡ 0 → ⊥) → file_after_batch file b ≡ file
unfolding file_after_batch
batch-kept file b f = rw (ne_eqb (batch_refusal b) 0 f)
