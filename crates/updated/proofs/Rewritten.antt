-- The bytes that an update leaves: where it is accepted the section's space holds the new content, then zeros, and all other bytes stay; where it is refused all stay.
-- Assumes nothing.
use Prim.Native.Nat.{ℕ, ◌-◌}
use mathlib.Core.Path.{◌≡◌, refl, sym, ap, ◌∙◌}
use mathlib.Core.Logic.{inl, inr}
use mathlib.Core.List.{List}
use native.Mathlib.Omega.{arith}
use native.Mathlib.Decide.{ℕ_discrete}
use borrow.Author.Tests.{eqb-true, eqb-false}
use lib.Dec.{eqb}
use lib.ListN.{length, length-append}
use Rattle.outcome.proofs.Either.{either}
use Rattle.image.specs.Image.{part, splice, zeros}
use Rattle.image.proofs.Splice.{length-splice, length-zeros}
use Rattle.image.proofs.Part.{length_part, part-before, part-behind, part_same}
use Rattle.image.proofs.Writes.{Beside}
use Rattle.handing.specs.declared.place.PartPlace.{PartPlace}
use Rattle.handing.specs.Parts.{bytes_of}
use Rattle.handing.proofs.Handing.{section-words-inside}
use Rattle.update.specs.Answers.{Update, space_of, padded, place_named, update_of, file_after_update}
use Rattle.update.proofs.Contents.{content-fits, place-first, content-next, refused, not-refused}

module _ (file : List ℕ) (u : Update) where
  abbrev place : PartPlace
  place = place_named file u

  abbrev space : ℕ
  space = space_of place

  abbrev new : List ℕ
  new = padded u.content space

  -- a file has as many bytes in the space of a section as the section's length says
  pub space-length : length (bytes_of file place) ≡ space
  space-length = let inside = section-words-inside file u.number u.identifier in length_part file place.start space (omega arith)

  -- a refused update leaves the file
  pub update-kept : (update_of file u ≡ 0 → ⊥) → file_after_update file u ≡ file
  update-kept f = sym (refused place u.content file refl f).1

  -- an update is accepted, or leaves the file
  pub by-update {ℓ} : {X : Type ℓ} → (update_of file u ≡ 0 → X) → (file_after_update file u ≡ file → X) → X
  by-update f g = either (eqb (update_of file u) 0) (λ q. f (eqb-true (update_of file u) 0 q)) (λ q. g (update-kept (eqb-false (update_of file u) 0 q)))

  module _ (accepted : update_of file u ≡ 0) where
    -- the place of an accepted one is not refused
    pub place-given : place.refusal ≡ 0
    place-given = elim (ℕ_discrete place.refusal 0) [ yes z ↦ z | no f ↦ absurd (f (sym (place-first place u.content f) ∙ accepted)) ]

    -- an accepted one is one write over the section's space
    pub one-write : file_after_update file u ≡ splice file place.start new
    one-write = sym (not-refused place u.content file accepted).1

    length-new : length new ≡ space
    length-new =
        let n = length u.content in
        let fits = content-fits n space (sym (content-next place u.content place-given) ∙ accepted) in
        length-append u.content (zeros (space - n)) ∙ omega (arith, length-zeros (space - n), fits.1)

    -- every run of bytes beside the section's space stays
    pub beside-stays : (at n : ℕ) → Beside at n place.start space → part (file_after_update file u) at n ≡ part file at n
    beside-stays at n (inl l) = rw one-write (part-before file at n place.start new l)
    beside-stays at n (inr l) = rw one-write (part-behind file at n place.start new (omega (arith, length-new)))

    -- the space holds the new content, and zeros in the rest
    pub space-holds : bytes_of (file_after_update file u) place ≡ new
    space-holds =
        let inside = section-words-inside file u.number u.identifier in
        rw one-write (part_same file place.start space new (sym length-new) (omega arith))

  -- the file is as long as it was
  pub update-length : length (file_after_update file u) ≡ length file
  update-length = by-update (λ a. ap length (one-write a) ∙ length-splice file place.start new) (ap length)
