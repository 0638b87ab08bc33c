-- What is handed out of an entry in two files that validate with the same numbers: the same where all its words stand alike, and where both refuse it. Assumes nothing.
use Prim.Native.Nat.{ℕ}
use mathlib.Core.Path.{◌≡◌, sym, ◌∙◌}
use mathlib.Core.Bool.{cond}
use mathlib.Core.List.{List}
use lib.Dec.{eqb}
use lib.IntN.{ℤ}
use Rattle.image.specs.Image.{part}
use Rattle.geometry.specs.declared.units.RecordNumber.{RecordNumber}
use Rattle.geometry.specs.declared.units.EntryNumber.{EntryNumber}
use Rattle.descriptor.specs.declared.numbers.DescriptorNumbers.{DescriptorNumbers}
use Rattle.descriptor.specs.Answers.{validation_of, Validates}
use Rattle.handing.specs.declared.place.PartPlace.{PartPlace}
use Rattle.handing.specs.Parts.{index_part, section_part, data_part, part_in, bytes_of}
use Rattle.alike.proofs.Described.{section-place}
use Rattle.alike.proofs.Agreeing.{Agrees, index-there, section-there, data-part-there}
use Rattle.promises.specs.Contents.{found, missing, section_found}
use Rattle.promises.specs.Updates.{HandsOut}
use Rattle.promises.proofs.EntryAlike.{opens-alike}
use Rattle.promises.proofs.RefusedEntries.{RefusedEntry, open_none, index-none, section-none, data-none}

-- a part of a file, as the file's numbers and addresses give it
abbrev part_of : (List ℕ → DescriptorNumbers → List RecordNumber → PartPlace) → List ℕ → PartPlace
part_of part file = part_in (validation_of file).numbers (λ d. part file d (validation_of file).addresses)

-- a part of two such files
module _ (f g : List ℕ) {d : DescriptorNumbers} {addresses : List RecordNumber} (p : Validates f d addresses) (q : Validates g d addresses)
    (part : List ℕ → DescriptorNumbers → List RecordNumber → PartPlace) where
  -- stands where it does in the other if it does so by those numbers
  pub place-alike : part g d addresses ≡ part f d addresses → part_of part g ≡ part_of part f
  unfolding part_in
  place-alike e = rw (q, p) e

  -- and has the bytes that it has in the other if it has them by those numbers
  pub bytes-alike : bytes_of g (part g d addresses) ≡ bytes_of f (part f d addresses) → bytes_of g (part_of part g) ≡ bytes_of f (part_of part f)
  unfolding part_in
  bytes-alike e = rw (q, p) e

-- an entry all of whose words stand alike
module _ {f g : List ℕ} {d : DescriptorNumbers} {addresses : List RecordNumber} {e : EntryNumber} (p : Validates f d addresses) (q : Validates g d addresses)
    (t : Agrees f g d d addresses addresses e) where
  -- opens alike, and hands out the same index words and data
  pub hands-there : HandsOut f g e
  hands-there = record {
    opened = opens-alike p q t.described;
    index = bytes-alike f g p q (λ file n l. index_part file n l e) (index-there f g d d addresses addresses e t);
    values = bytes-alike f g p q (λ file n l. data_part file n l e) (data-part-there f g d d addresses addresses e t);
  }

  -- and the same sections
  pub found-there : (z : ℤ) → section_found g e z ≡ section_found f e z
  found-there z =
      let place = place-alike f g p q (λ file n l. section_part file n l e z) (section-place f g d d addresses addresses e t.described z) in
      let bytes = bytes-alike f g p q (λ file n l. section_part file n l e z) (section-there f g d d addresses addresses e t z) in
      λ i. cond (eqb (place i).refusal 0) (found (bytes i)) missing

-- an entry that both refuse
module _ {f g : List ℕ} {d : DescriptorNumbers} {addresses : List RecordNumber} {e : EntryNumber} {n : ℕ} (r : RefusedEntry f d addresses e n) (s : RefusedEntry g d addresses e n) where
  -- opens alike, and hands out nothing
  pub hands_none : HandsOut f g e
  unfolding part
  hands_none = record {
    opened = open_none s ∙ sym (open_none r);
    index = rw (index-none s, index-none r);
    values = rw (data-none s, data-none r);
  }

  -- no section either
  pub found_none : (z : ℤ) → section_found g e z ≡ section_found f e z
  found_none z = rw (section-none s z, section-none r z, s.some)
