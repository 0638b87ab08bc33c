-- What an append to admitted numbers gives and the file after it, by its refusal; and its answer. Assumes nothing.
use Rattle.std.specs.Prelude.{Result, Ok, Err}
use Prim.Native.Nat.{ℕ}
use mathlib.Core.Path.{◌≡◌, refl, ap, ◌∙◌}
use mathlib.Core.List.{List}
use borrow.Author.Tests.{eq-eqb, ne_eqb}
use lib.ListN.{length}
use Rattle.outcome.specs.declared.refusal.Refusal.{Refusal}
use Rattle.outcome.specs.Refusal.{number_of, Gives}
use Rattle.outcome.proofs.Refusals.{number-positive}
use Rattle.geometry.specs.declared.units.EntryNumber.{EntryNumber}
use Rattle.descriptor.specs.declared.numbers.DescriptorNumbers.{DescriptorNumbers}
use Rattle.descriptor.specs.FirstRecord.{addresses_of}
use Rattle.placing.specs.Rules.{placement_refusal}
use Rattle.storing.specs.Handed.{Handed, nword_in}
use Rattle.storing.specs.Writing.{appended}
use Rattle.writer.specs.Rules.{append_refusal}
use Rattle.writer.specs.Answers.{answer_of, appended_from, AppendsFrom}
use Rattle.writer.specs.Answers as answers
use Rattle.writer.proofs.HandedIn.{refusal_of, append-parts}

module _ (file : List ℕ) (d : DescriptorNumbers) (h : Handed) where
  -- refused: the number, and the file as it was
  refused : (r : Refusal) → append_refusal (length file) d h ≡ number_of r → AppendsFrom file d h (Err r) file
  unfolding answers.file_from
  refused r e = (rw e, rw (e, ne_eqb (number_of r) 0 (number-positive r)))

  -- by 21 or 22, for what is handed in
  pub refused-handed : (r : Refusal) → number_of r ≡ refusal_of d h → AppendsFrom file d h (Err r) file
  refused-handed r e = refused r (append-parts d h (length file) ∙ rw (← e, ne_eqb (number_of r) 0 (number-positive r)))

  -- by 23 or 24, for its place
  pub refused-place : (r : Refusal) → refusal_of d h ≡ 0 → number_of r ≡ placement_refusal (length file) d (nword_in h) → AppendsFrom file d h (Err r) file
  refused-place r z e = refused r (append-parts d h (length file) ∙ rw (eq-eqb (refusal_of d h) 0 z, e))

  -- with neither there is no refusal
  pub refused_none : refusal_of d h ≡ 0 → placement_refusal (length file) d (nword_in h) ≡ 0 → append_refusal (length file) d h ≡ 0
  refused_none e f = append-parts d h (length file) ∙ rw (eq-eqb (refusal_of d h) 0 e) f

  -- accepted: the new number, and the file with the entry
  pub accepted-from : append_refusal (length file) d h ≡ 0 → AppendsFrom file d h (Ok d.xnext) (appended file d (addresses_of file d.nex) h)
  unfolding answers.file_from
  accepted-from e = let none = eq-eqb (append_refusal (length file) d h) 0 e in ((e, refl), rw none)

  -- what is given answers as the table has it
  pub given-answer : (outcome : Result EntryNumber Refusal) → Gives (append_refusal (length file) d h) d.xnext outcome → answer_of outcome ≡ appended_from (length file) d h
  unfolding answers.appended_from
  given-answer (Ok x) g = rw (eq-eqb (append_refusal (length file) d h) 0 g.0) (ap (λ (n : EntryNumber). record { refusal = 0; number = n }) g.1)
  given-answer (Err r) g = rw (← g, ne_eqb (number_of r) 0 (number-positive r))
