-- An entry that is refused, as a reader finds it: its open, its parts and its reading give the number. Assumes nothing.
use Prim.Native.Nat.{ℕ, ◌≤◌}
use mathlib.Core.Path.{◌≡◌, refl, ◌∙◌}
use mathlib.Core.Bool.{false}
use mathlib.Core.List.{List}
use borrow.Author.Tests.{leb-true}
use lib.Dec.{leb, eqb}
use lib.IntN.{ℤ}
use Rattle.outcome.proofs.Either.{either}
use Rattle.geometry.specs.declared.units.RecordNumber.{RecordNumber}
use Rattle.geometry.specs.declared.units.EntryNumber.{EntryNumber}
use Rattle.geometry.specs.Units.{entries_before}
use Rattle.descriptor.specs.declared.numbers.DescriptorNumbers.{DescriptorNumbers}
use Rattle.descriptor.specs.Refusal.{refusal_in}
use Rattle.descriptor.specs.Answers.{Validates}
use Rattle.pieces.specs.Tables.{no_sections}
use Rattle.entry.specs.declared.answers.Open.TheVariants as answers
use Rattle.entry.specs.Opening.{number_rules, entered_of, not_entered}
use Rattle.entry.specs.Answers.{opened_as, open_of}
use Rattle.entry.proofs.Entering.{entered-refused, entry-number}
use Rattle.entry.proofs.OpenedEntry.{open-numbers}
use Rattle.handing.specs.Parts.{no_part, index_part, section_part, data_part, part_in, index_words_of, section_words_of, data_words_of}
use Rattle.promises.specs.Contents.{refused, reading_of}

-- entry e of a file that validates with these numbers is refused with n
pub record RefusedEntry (file : List ℕ) (d : DescriptorNumbers) (addresses : List RecordNumber) (e : EntryNumber) (n : ℕ) : Type 0 where
  pub shown : Validates file d addresses
  pub entered : entered_of file d addresses e ≡ not_entered n
  pub some : eqb n 0 ≡ false

-- a number is one of an entry, or every file that validates with these numbers refuses it with 12
pub by-entry {ℓ} : {X : Type ℓ} (d : DescriptorNumbers) (addresses : List RecordNumber) (e : EntryNumber) → (1 ≤ e.0 → e.0 ≤ entries_before d.xnext → X)
    → (((file : List ℕ) → Validates file d addresses → RefusedEntry file d addresses e 12) → X) → X
by-entry d addresses e f g =
    either (leb 1 e.0)
    (λ p. either (leb e.0 (entries_before d.xnext))
    (λ q. f (leb-true 1 e.0 p) (leb-true e.0 (entries_before d.xnext) q))
    (λ q. g (none (rw (p, q)))))
    (λ p. g (none (rw p)))
  where
    none : refusal_in (number_rules d e) ≡ 12 → (file : List ℕ) → Validates file d addresses → RefusedEntry file d addresses e 12
    none r file shown = record { shown = shown; entered = entered-refused file d addresses e 12 (entry-number file d addresses e r) refl; some = refl }

module _ {file : List ℕ} {d : DescriptorNumbers} {addresses : List RecordNumber} {e : EntryNumber} {n : ℕ} (r : RefusedEntry file d addresses e n) where
  -- its open
  pub open_none : open_of file e ≡ record { answer = answers.Refused n; sections = no_sections }
  unfolding opened_as
  open_none = open-numbers file e r.shown ∙ rw (r.entered, r.some)

  -- its index words
  pub index-none : index_words_of file e ≡ no_part n
  unfolding part_in index_part
  index-none = rw (r.shown, r.entered, r.some)

  -- a section of it
  pub section-none : (z : ℤ) → section_words_of file e z ≡ no_part n
  unfolding part_in section_part
  section-none z = rw (r.shown, r.entered, r.some)

  -- its data
  pub data-none : data_words_of file e ≡ no_part n
  unfolding part_in data_part
  data-none = rw (r.shown, r.entered, r.some)

  -- and its reading
  pub reading-none : reading_of file e ≡ refused n
  unfolding reading_of
  reading-none = rw (open_none, r.some)
