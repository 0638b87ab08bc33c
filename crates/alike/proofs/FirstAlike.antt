-- Two files with the same first record, of which the second is as long or longer, validate alike. Assumes nothing.
use Prim.Native.Nat.{ℕ, ◌+◌, ◌*◌, ◌-◌, ◌%◌, ◌^◌, ◌≤◌, ◌<◌}
use mathlib.Core.Path.{◌≡◌, ap, ◌∙◌}
use mathlib.Core.Bool.{true}
use mathlib.Core.List.{List}
use native.Mathlib.Omega.{arith}
use borrow.Author.Tests.{ltb-true}
use lib.Dec.{ltb}
use lib.ListN.{length}
use Rattle.image.specs.Image.{part, all_zero}
use Rattle.words.specs.Word.{integer4, integer8}
use Rattle.words.proofs.Access.{bits-alike}
use Rattle.words.proofs.Table.{places_same}
use Rattle.geometry.specs.declared.units.RecordNumber.{RecordNumber}
use Rattle.geometry.specs.declared.units.WordNumber.{WordNumber}
use Rattle.descriptor.specs.declared.numbers.DescriptorNumbers.{DescriptorNumbers}
use Rattle.descriptor.specs.declared.validating.Validated.TheVariants.{Numbers}
use Rattle.geometry.specs.Units.{offset_of, first_record_offset_of}
use Rattle.layout.specs.FirstRecordWords.{aex_word, after_aex}
use Rattle.layout.specs.FileCode.{byte_order_of}
use Rattle.layout.proofs.FileCodes.{order_alike}
use Rattle.descriptor.specs.FirstRecord.{field, field4, field8, numbers_of, aex_at, addresses_of}
use Rattle.descriptor.specs.Rules.{no_leftovers, file_refusal}
use Rattle.descriptor.specs.Answers.{validation_of}
use Rattle.descriptor.specs.Bounds.{Admitted}
use Rattle.descriptor.proofs.Answered.{file-passed, file-admitted}
use Rattle.descriptor.proofs.Admitting.{apt, validated}
use Rattle.alike.proofs.EntryFields.{bytes_same}

module _ (f g : List ℕ) (z : file_refusal f ≡ 0) (first : part g 0 (4 * (numbers_of f).reclen) ≡ part f 0 (4 * (numbers_of f).reclen)) where
  abbrev d : DescriptorNumbers
  d = numbers_of f

  admits : Admitted (length f) d (addresses_of f d.nex)
  admits = file-admitted f z

  bytes-alike : (at n : ℕ) → at + n ≤ 4 * d.reclen → part g at n ≡ part f at n
  bytes-alike at n h = bytes_same g f 0 d.reclen first at n (omega arith) (omega arith)

  order : byte_order_of g ≡ byte_order_of f
  order = order_alike g f (bytes-alike 0 4 (omega (arith, admits.settled.reclen-low)))

  -- a field in the first 16 words, and one within the record
  field4-alike : (w : WordNumber) → ltb (w.0 - 1) 16 ≡ true → field4 g w ≡ field4 f w
  unfolding field
  field4-alike w h = bits-alike integer4 g f (4 * (w.0 - 1)) (4 * (w.0 - 1)) order (bytes-alike (4 * (w.0 - 1)) 4 (omega (arith, ltb-true, admits.settled.reclen-low)))

  field8-alike : (w : WordNumber) → w.0 - 1 + 1 < d.reclen → field8 g w ≡ field8 f w
  unfolding field
  field8-alike w h = bits-alike integer8 g f (4 * (w.0 - 1)) (4 * (w.0 - 1)) order (bytes-alike (4 * (w.0 - 1)) 8 (omega arith))

  head8-alike : (w : WordNumber) → ltb (w.0 - 1) 15 ≡ true → field8 g w ≡ field8 f w
  head8-alike w h = field8-alike w (omega (arith, ltb-true, admits.settled.reclen-low))

  -- the second file has the numbers of the first, whatever its length
  pub numbers-alike : numbers_of g ≡ d
  unfolding numbers_of
  numbers-alike = simp (order, field4-alike, head8-alike)

  addresses-alike : addresses_of g d.nex ≡ addresses_of f d.nex
  unfolding addresses_of
  addresses-alike =
      places_same 16 d.nex (aex_at g) (aex_at f) (record { 0 = 0 })
      (λ i h. ap {B = RecordNumber} (λ (n : ℕ). record { 0 = n }) (field8-alike (aex_word i) (omega (arith, admits.settled.nex-room))))

  clear-alike : no_leftovers g d ≡ true
  unfolding no_leftovers
  clear-alike =
      let start = first_record_offset_of (after_aex d.nex) in
      let rest = offset_of d.reclen - start in
      ap all_zero (bytes-alike start rest (omega (arith, admits.settled.nex-room))) ∙ (file-passed f z).clear

  -- the second file is admitted, with the numbers and addresses of the first
  pub first_alike : length f ≤ length g → length g ≤ 2 ^ 30 → length g % (4 * d.reclen) ≡ 0
      → validation_of g ≡ record { refusal = 0; numbers = Numbers d; addresses = addresses_of f d.nex }
  first_alike long high whole =
      let p = file-passed f z in
      validated g d (addresses_of f d.nex) numbers-alike addresses-alike (omega (arith, p.long))
      (apt (length f) d p.settings)
      (record {
        settled = admits.settled;
        lent = record { high = high; whole = whole; first = omega (arith, admits.lent.first) };
        counted = admits.counted;
        fit = admits.fit;
        free = admits.free;
        room = omega (arith, admits.room);
        started = admits.started;
        ended = admits.ended;
        table = admits.table;
      })
      clear-alike
