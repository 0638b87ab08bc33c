-- An append to a file that validates, accepted: what was written, and that validating it gives the numbers and addresses after it. Assumes nothing.
use Prim.Native.Nat.{ℕ}
use mathlib.Core.Path.{◌≡◌, refl, sym, ap, ◌∙◌}
use mathlib.Core.List.{List}
use native.Mathlib.Omega.{arith}
use borrow.Author.Tests.{eq-eqb}
use lib.ListN.{length}
use Rattle.geometry.specs.declared.units.RecordNumber.{RecordNumber}
use Rattle.descriptor.specs.declared.numbers.DescriptorNumbers.{DescriptorNumbers}
use Rattle.descriptor.specs.declared.validating.Validation.{Validation}
use Rattle.descriptor.specs.FirstRecord.{numbers_of, addresses_of}
use Rattle.descriptor.specs.Rules.{file_refusal}
use Rattle.descriptor.specs.Answers.{validation_of, Validates}
use Rattle.descriptor.specs.Bounds.{Admitted}
use Rattle.descriptor.proofs.Answered.{file-order, file-passed, file-admitted, answer-numbers, told}
use Rattle.storing.specs.Handed.{Handed}
use Rattle.placing.specs.Placing.{numbers_after}
use Rattle.writer.specs.Rules.{append_refusal}
use Rattle.writer.specs.Answers.{file_from, file_in, file_after}
use Rattle.storing.specs.Bounds.{Accepted}
use Rattle.writer.proofs.HandedIn.{accepted}
use Rattle.descriptor.proofs.Admitting.{Apt, apt, validated}
use Rattle.written.proofs.AppendLeaves.{new, then, areas_then, left}
use Rattle.written.proofs.FirstRecordAfter.{numbers-read, addresses-read, clear_kept}

-- what such a file shows: it is admitted, and these are its own
pub record Shown (file : List ℕ) (d : DescriptorNumbers) (addresses : List RecordNumber) : Type 0 where
  pub admitted : file_refusal file ≡ 0
  pub numbers : numbers_of file ≡ d
  pub table : addresses_of file (numbers_of file).nex ≡ addresses
  pub bounds : Admitted (length file) d addresses

-- and that it does
pub shows : (file : List ℕ) (d : DescriptorNumbers) (addresses : List RecordNumber) → Validates file d addresses → Shown file d addresses
shows file d addresses v =
    let t = told file (validation_of file) d refl (ap (λ (x : Validation). x.numbers) v) in
    let same = ap (λ (x : Validation). x.addresses) v in
    record { admitted = t.refusal; numbers = sym t.numbers; table = sym t.addresses ∙ same; bounds = rw same at t.admitted.admitted }

-- an append to the numbers of a file that is not refused
module _ (file : List ℕ) (z : file_refusal file ≡ 0) {h : Handed} (x : Accepted (length file) (numbers_of file) (addresses_of file (numbers_of file).nex) h) where
  -- rules 2 and 5 to 7 hold of it still
  apt-after : Apt (then file x)
  unfolding numbers_after
  apt-after = let t = apt (length file) (numbers_of file) (file-passed file z).settings in record { order = t.order; kind = t.kind; vind = t.vind; flags = t.flags }

  -- validating the file after it gives the numbers and addresses after it
  pub validated-after : Validates (new file x) (then file x) (areas_then file x)
  validated-after =
      let p = file-passed file z in
      let l = left file x in
      validated (new file x) (then file x) (areas_then file x) (numbers-read file x (file-order file) refl) (addresses-read file x (file-order file) refl)
      (omega (arith, p.long))
      apt-after
      (rw l.size l.admitted)
      (clear_kept file x p.clear)

-- an append to a file that is not refused either
module _ (file : List ℕ) (h : Handed) (z : file_refusal file ≡ 0) (a : append_refusal (length file) (numbers_of file) h ≡ 0) where
  -- is accepted
  pub admits : Accepted (length file) (numbers_of file) (addresses_of file (numbers_of file).nex) h
  admits = accepted (numbers_of file) h (length file) (addresses_of file (numbers_of file).nex) (file-admitted file z) a

  -- and all that it writes is written
  pub file-written : file_after file h ≡ new file admits
  unfolding file_in file_from
  file-written = rw (answer-numbers file z, eq-eqb (append_refusal (length file) (numbers_of file) h) 0 a)

  -- so the file is admitted again, with the numbers and addresses after it
  pub append-shows : Shown (file_after file h) (then file admits) (areas_then file admits)
  append-shows = rw file-written (shows (new file admits) (then file admits) (areas_then file admits) (validated-after file z admits))
