-- The call `section` finds, of an entry that opens, the first of its sections that has the identifier, and none where no section has it. Assumes nothing.
use Prim.Native.Nat.{ℕ, zero, suc, ◌+◌, ◌-◌, ◌≤◌}
use mathlib.Core.Path.{◌≡◌, sym, ap, ◌∙◌}
use mathlib.Core.Bool.{cond}
use mathlib.Core.List.{List}
use native.Mathlib.Omega.{arith}
use borrow.Author.Tests.{lt-ltb, le-ltb}
use lib.Dec.{ltb}
use lib.IntN.{ℤ}
use Rattle.geometry.specs.declared.units.RecordNumber.{RecordNumber}
use Rattle.geometry.specs.declared.units.EntryNumber.{EntryNumber}
use Rattle.descriptor.specs.declared.numbers.DescriptorNumbers.{DescriptorNumbers}
use Rattle.pieces.specs.EntryDescriptor.{identifier_at, section_of}
use Rattle.pieces.specs.Tables.{same_integer, section_named}
use Rattle.entry.specs.Entered.{Entered}
use Rattle.entry.proofs.Entering.{entered-numbers}
use Rattle.handing.specs.Parts.{no_part, piece_from, section_part, part_in, section_words_of}
use Rattle.outcome.proofs.Either.{either}
use Rattle.promises.specs.Contents.{in_order, Section, section_read, content_read, Search, found, missing, first_with, section_found}
use Rattle.promises.proofs.Readings.{in_order-first}
use Rattle.promises.proofs.OpenEntries.{section_in, OpenEntry, stored, open-shown, section-shown}

module _ {file : List ℕ} {d : DescriptorNumbers} {addresses : List RecordNumber} {e : EntryNumber} (o : OpenEntry file d addresses e) where
  abbrev here : Entered
  here = stored o

  -- what is found where section j is the first that has the identifier
  abbrev found_at : ℕ → Search
  found_at j = cond (ltb j here.nsec) (found (section_in file here j).bytes) missing

  -- it is the first of the sections from i on, left of them, that has it
  first-from : (z : ℤ) (f : ℕ → Section) (i left : ℕ) → i + left ≡ here.nsec → ((k : ℕ) → 1 ≤ k → k ≤ left → f k ≡ section_in file here (i + (k - 1)))
      → first_with z (in_order f left) ≡ found_at (section_named file here.start z i left)
  unfolding section_named
  first-from z f i zero q e = rw (le-ltb i here.nsec (omega arith))
  first-from z f i (suc left) q e =
      let first : i + (1 - 1) ≡ i = omega arith in
      rw (in_order-first f left, e 1 (omega arith) (omega arith), first)
      (either (same_integer (identifier_at file here.start i) z)
      (λ same. rw (same, lt-ltb i here.nsec (omega arith)))
      (λ other. rw other
      (first-from z (λ k. f (suc k)) (i + 1) left (omega arith)
      (λ k l h. let next : i + (suc k - 1) ≡ i + 1 + (k - 1) = omega arith in e (suc k) (omega arith) (omega arith) ∙ ap (section_in file here) next))))

  -- what the call gives
  part-there : (z : ℤ) → let j = section_named file here.start z 0 here.nsec in
      section_words_of file e z ≡ cond (ltb j here.nsec) (piece_from here.start (section_of file here.start here.nsec j)) (no_part 20)
  unfolding part_in section_part
  part-there z = rw (o.shown, entered-numbers file d addresses e o.opens)

  -- the two agree
  pub section-first : (z : ℤ) → section_found file e z ≡ first_with z (content_read file e).sections
  unfolding content_read
  section-first z =
      let j = section_named file here.start z 0 here.nsec in
      either (ltb j here.nsec)
      (λ q. rw (part-there z, q))
      (λ q. rw (part-there z, q))
      ∙ sym (first-from z (section_read file e) 0 here.nsec (omega arith) (λ k l h. let q : k - 1 ≡ 0 + (k - 1) = omega arith in section-shown o k l h ∙ ap (section_in file here) q))
      ∙ rw (open-shown o)
