-- Laws of the parts of an entry that are handed out: what an open entry shows of them, that each lies within the file, and what it is by the validation's case.
-- Assumes nothing.
use Prim.Native.Nat.{ℕ, ◌+◌, ◌-◌, ◌%◌, ◌^◌, ◌≤◌}
use mathlib.Core.Path.{◌≡◌, refl, ◌∙◌}
use mathlib.Core.Bool.{Bool, true, false, cond}
use mathlib.Core.List.{List}
use native.Mathlib.Omega.{arith}
use borrow.Author.Tests.{eqb-true, eqb-false, ltb-true}
use lib.Dec.{eqb, ltb}
use lib.IntN.{ℤ}
use lib.ListN.{length, take, drop}
use denote.Ref.{Bor}
use Rattle.image.specs.Image.{part}
use Rattle.geometry.specs.declared.units.RecordNumber.{RecordNumber}
use Rattle.geometry.specs.declared.units.EntryNumber.{EntryNumber}
use Rattle.descriptor.specs.declared.numbers.DescriptorNumbers.{DescriptorNumbers}
use Rattle.descriptor.specs.declared.validating.Validated.{Validated}
use Rattle.descriptor.specs.declared.validating.Validated.TheVariants.{Numbers, Refused}
use Rattle.descriptor.specs.Refusal.{refusal_in}
use Rattle.descriptor.specs.FirstRecord.{addresses_of}
use Rattle.descriptor.specs.Bounds.{Admitted, AdmittedIn}
use Rattle.descriptor.specs.Answers.{validation_of, no_validation, Validates}
use Rattle.descriptor.proofs.Answered.{told}
use Rattle.pieces.specs.EntryDescriptor.{section_of}
use Rattle.pieces.specs.Tables.{section_named}
use Rattle.pieces.proofs.Pieces.{described-in, section-placed, data-placed}
use Rattle.entry.specs.Entered.{Entered}
use Rattle.entry.specs.Opening.{number_rules, entered_of}
use Rattle.entry.proofs.Entering.{slot_lent, entry-number, entered-refused}
use Rattle.entry.proofs.OpenedEntry.{Known, known}
use Rattle.handing.specs.declared.place.PartPlace.{PartPlace}
use Rattle.handing.specs.Bounds.{Readable}
use Rattle.handing.specs.Parts.{no_part, piece_from, index_part, section_in, section_part, data_part, part_in, PartBy, index_words_of, section_words_of, data_words_of, IsPart}

-- a part lies within so many bytes, and is whole words, no more than a file has
pub record Inside (bytes : ℕ) (p : PartPlace) : Type 0 where
  pub ordered : p.start ≤ p.end
  pub ends : p.end ≤ bytes
  pub whole : (p.end - p.start) % 4 ≡ 0
  pub small : p.end ≤ 2 ^ 30

-- what holds of a part that a test chooses
chosen : (P : PartPlace → Type 0) (b : Bool) (p q : PartPlace) → (b ≡ true → P p) → (b ≡ false → P q) → P (cond b p q)
chosen P true p q f g = f refl
chosen P false p q f g = g refl

-- the tables of what was entered may be read
pub readable : (file : List ℕ) (d : DescriptorNumbers) (addresses : List RecordNumber) (e : EntryNumber) (x : Entered) → AdmittedIn file d addresses → x ≡ entered_of file d addresses e
    → Readable d.order file x
readable file d addresses e x a q =
    let k = known file d addresses e x a.admitted q in
    record { described = λ z. described-in a.order (k z).described; small = λ z. (k z).nword-small; ends = λ z. (k z).ends; within = λ z. (k z).sections-within }

-- a section of what was entered is that of the entry by its number
pub section-by : (file : List ℕ) (d : DescriptorNumbers) (addresses : List RecordNumber) (e : EntryNumber) (identifier : ℤ) {x : Entered} {p : PartPlace}
    → x ≡ entered_of file d addresses e → p ≡ section_in file x identifier → p ≡ section_part file d addresses e identifier
unfolding section_part
section-by file d addresses e identifier q h = rw q at h

-- a part of an entry of admitted numbers lies within the file, refused or not
entered : (file : List ℕ) (d : DescriptorNumbers) (addresses : List RecordNumber) (e : EntryNumber) (p : PartPlace) → Admitted (length file) d addresses
    → let x = entered_of file d addresses e in (Known file d e x → Inside (length file) p) → Inside (length file) (cond (eqb x.refusal 0) p (no_part x.refusal))
entered file d addresses e p a f =
    let x = entered_of file d addresses e in
    chosen (Inside (length file)) (eqb x.refusal 0) p (no_part x.refusal) (λ q. f (known file d addresses e x a refl (eqb-true x.refusal 0 q))) (λ q. omega arith)

-- what holds of each part of admitted numbers, and of an empty one, holds of a part of a file, whatever its validation says
whole : (file : List ℕ) (f : List RecordNumber → DescriptorNumbers → PartPlace) (P : PartPlace → Type 0) → ((n : ℕ) → P (no_part n))
    → ((addresses : List RecordNumber) (d : DescriptorNumbers) → Admitted (length file) d addresses → P (f addresses d))
    → P (part_in (validation_of file).numbers (f (validation_of file).addresses))
unfolding part_in
whole file f P none some = by (validation_of file).numbers refl
  where
    by : (case : Validated) → (validation_of file).numbers ≡ case → P (part_in case (f (validation_of file).addresses))
    by (Numbers d) q = some (validation_of file).addresses d (told file (validation_of file) d refl q).admitted.admitted
    by (Refused n) q = none n

-- a part that is found by a file's numbers is the file's, where whatever is found by them is made of them and of the file's addresses
pub part_by : (file : List ℕ) (f : List RecordNumber → DescriptorNumbers → PartPlace) (Finds : DescriptorNumbers → Bor (List ℕ) → PartPlace → Type 0) {p : PartPlace}
    → PartBy Finds (validation_of file).numbers p → ((d : DescriptorNumbers) (totals : Bor (List ℕ)) → Finds d totals p → p ≡ f (addresses_of file d.nex) d)
    → p ≡ part_in (validation_of file).numbers (f (validation_of file).addresses)
unfolding part_in
part_by file f Finds {p} found made = by (validation_of file).numbers refl found
  where
    by : (case : Validated) → (validation_of file).numbers ≡ case → PartBy Finds case p → p ≡ part_in case (f (validation_of file).addresses)
    by (Refused n) q found = found
    by (Numbers d) q found =
        let t = told file (validation_of file) d refl q in
        made d found.0 found.1 ∙ rw (t.addresses, t.numbers)

-- which part it is, by the validation
module _ (file : List ℕ) where
  -- a part of a file that is refused is refused with it
  pub whole-refused : (f : DescriptorNumbers → PartPlace) {n : ℕ} {p : PartPlace} → validation_of file ≡ no_validation n → p ≡ no_part n → p ≡ part_in (validation_of file).numbers f
  unfolding part_in
  whole-refused f q h = h ∙ rw q

  -- and else it is made of the file's numbers and addresses
  pub whole_numbers : (f : List RecordNumber → DescriptorNumbers → PartPlace) {d : DescriptorNumbers} {addresses : List RecordNumber} {p : PartPlace}
      → Validates file d addresses → p ≡ f addresses d → p ≡ part_in (validation_of file).numbers (f (validation_of file).addresses)
  unfolding part_in
  whole_numbers f q h = h ∙ rw q

-- a number that no entry has gives no index words
pub index_number : (file : List ℕ) (d : DescriptorNumbers) (addresses : List RecordNumber) (e : EntryNumber)
    → refusal_in (number_rules d e) ≡ 12 → index_part file d addresses e ≡ no_part 12
unfolding index_part
index_number file d addresses e h = rw (entered-refused file d addresses e 12 (entry-number file d addresses e h) refl)

-- the three parts of a file
module _ (file : List ℕ) (e : EntryNumber) where
  -- the index words lie within the file
  pub index-words-inside : Inside (length file) (index_words_of file e)
  unfolding index_part
  index-words-inside =
      whole file (λ addresses d. index_part file d addresses e) (Inside (length file)) (λ n. omega arith)
      (λ addresses d a. entered file d addresses e _ a (λ k. omega (arith, slot_lent (length file) d addresses a e k.number-low k.number-high, a.settled.lind-low, a.lent.high)))

  -- so does a section
  pub section-words-inside : (identifier : ℤ) → Inside (length file) (section_words_of file e identifier)
  unfolding section_part
  section-words-inside identifier =
      whole file (λ addresses d. section_part file d addresses e identifier) (Inside (length file)) (λ n. omega arith)
      (λ addresses d a.
      let x = entered_of file d addresses e in
      let i = section_named file x.start identifier 0 x.nsec in
      entered file d addresses e _ a (λ k. chosen (Inside (length file)) (ltb i x.nsec) (piece_from x.start (section_of file x.start x.nsec i)) (no_part 20)
      (λ q. let h = section-placed file x.start x.nsec x.nword i x.nsec (ltb-true i x.nsec q) k.sections-within in omega (arith, a.lent.high)) (λ q. omega arith)))

  -- and the data
  pub data-words-inside : Inside (length file) (data_words_of file e)
  unfolding data_part
  data-words-inside =
      whole file (λ addresses d. data_part file d addresses e) (Inside (length file)) (λ n. omega arith)
      (λ addresses d a.
      let x = entered_of file d addresses e in
      entered file d addresses e _ a (λ k. chosen (Inside (length file)) (eqb x.array.words 0) (no_part 0) (piece_from x.start x.array) (λ q. omega arith)
      (λ q. let h = data-placed x.nsec x.nword x.array k.nword-small (eqb-false x.array.words 0 q) k.data-within in omega (arith, a.lent.high))))

-- what was handed out is the part that a place names
pub handed : {file r : Bor (List ℕ)} {p q : PartPlace} → q ≡ p → r.now ≡ take (q.end - q.start) (drop q.start file.now) → r.ref_ptr ≡ (file.ref_ptr.0, q.start + file.ref_ptr.1)
    → IsPart file p r
unfolding part
handed {file} {r} {p} {q} e bytes pointer =
    let given : IsPart file q r = record { bytes = bytes; pointer = pointer } in
    rw e at given
