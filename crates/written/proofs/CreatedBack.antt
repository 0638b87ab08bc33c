-- Validating a file that `create` made gives the numbers of a new file, and no addresses. Assumes nothing.
use Prim.Native.Nat.{ℕ, ◌+◌, ◌*◌, ◌-◌, ◌^◌, ◌≤◌, ◌<◌}
use mathlib.Core.Path.{◌≡◌, refl, sym, ap, ap₂, ◌∙◌, subst}
use mathlib.Core.Bool.{true}
use mathlib.Core.List.{List, ◌++◌}
use native.Mathlib.Omega.{arith}
use borrow.Author.Tests.{leb-true, le-leb}
use lib.ListN.{length, replicate}
use mir.Syntax.{Width, w32, w64}
use mir.Val.{bits, bytes}
use Rattle.image.specs.Image.{part, zeros, all_zero}
use Rattle.image.specs.Writes.{Write, put, writes, Follows}
use Rattle.image.proofs.Splice.{length-zeros}
use Rattle.image.proofs.Zeros.{zeros-zero}
use Rattle.image.proofs.Writes.{length-writes, writes-append, BehindOf, follow-read}
use Rattle.words.specs.Word.{numeral, bits_at}
use Rattle.words.proofs.Number.{length-numeral}
use Rattle.words.proofs.Access.{bits-follow}
use Rattle.geometry.specs.declared.units.RecordNumber.{RecordNumber}
use Rattle.geometry.specs.Units.{position_of, first_record_offset_of}
use Rattle.descriptor.specs.declared.numbers.Settings.{Settings}
use Rattle.descriptor.specs.declared.numbers.DescriptorNumbers.{DescriptorNumbers}
use Rattle.layout.specs.FirstRecordWords.{reclen_word, kind_word, vind_word, lind_word, flags_word, xnext_word, nextrec_word, nextword_word, lex1_word, nex_word, gex_word, after_aex}
use Rattle.layout.specs.FileCode.{file_code, order_said, file_code_of, byte_order_of}
use Rattle.layout.proofs.FileCodes.{length-code, order-coded}
use Rattle.descriptor.specs.FirstRecord.{field, field4, field8, numbers_of, created_of, addresses_of, free_of}
use Rattle.descriptor.specs.Areas.{area_after, areas_start, areas_end}
use Rattle.descriptor.specs.Rules.{setting_rules, setting_refusal, creation_rules, entries_fit, no_leftovers}
use Rattle.descriptor.specs.Bounds.{Narrow, Admitted}
use Rattle.descriptor.proofs.Refusals.{refusal-none, all_hold}
use Rattle.descriptor.proofs.Passed.{settled, lent, setting-passed}
use Rattle.fields.specs.FieldWrites.{setting_writes, count_writes, growth_writes, first_written}
use Rattle.writer.specs.Creation.{creation_refusal, created_file}
use Rattle.writer.proofs.Created.{created-fits}
use Rattle.descriptor.proofs.Admitting.{apt, order-known, validated}
use Rattle.descriptor.specs.Answers.{Validates}

-- the addresses of a new file: none
abbrev pub no_addresses : List RecordNumber
no_addresses = replicate 16 (record { 0 = 0 })

-- ---- the rules hold of the numbers of a new file

module _ (bytes : ℕ) (s : Settings) (e : creation_refusal bytes s ≡ 0) where
  abbrev d : DescriptorNumbers
  d = created_of s

  -- an accepted creation passed rules 1 to 8
  passed : (64 ≤ bytes) × (setting_refusal bytes d ≡ 0)
  unfolding creation_refusal setting_refusal
  passed =
      let rows = all_hold (creation_rules bytes d) (omega arith) e in
      (leb-true 64 bytes rows.0, refusal-none (setting_rules bytes d) rows.1)

  -- rules 9 to 11: no entries in no extensions
  pub created-admitted : Admitted bytes d no_addresses
  unfolding created_of entries_fit areas_start area_after areas_end position_of
  created-admitted =
      let t = settled bytes d passed.1 in
      let l = lent bytes d (setting-passed bytes d passed.1).0 passed.0 in
      record {
        settled = t;
        lent = l;
        counted = omega arith;
        fit = refl;
        free = record { record-low = omega arith; record-high = omega arith; word_low = omega arith; word-high = omega (arith, t.reclen-low) };
        room = omega (arith, l.first);
        started = refl;
        ended = le-leb (free_of d) (free_of d) (omega arith);
        table = refl;
      }

-- ---- the writes of the first record

-- all of them, in the order of the words
abbrev pub first_writes : DescriptorNumbers → List Write
first_writes d = setting_writes d ++ (count_writes d ++ growth_writes d)

-- they follow one another from the file's start
pub first-follows : (d : DescriptorNumbers) → Follows 0 (first_writes d)
first-follows d = simp (length-numeral, length-code) (omega arith)

module _ (file : List ℕ) (d : DescriptorNumbers) where
  -- made in three parts, or in one
  pub first_one : first_written file d ≡ writes file (first_writes d)
  unfolding first_written
  first_one =
      sym (writes-append file (setting_writes d) (count_writes d ++ growth_writes d)
      ∙ writes-append (writes file (setting_writes d)) (count_writes d) (growth_writes d))

  length-first : length (first_written file d) ≡ length file
  length-first = ap length first_one ∙ length-writes file (first_writes d)

  module _ (long : 64 ≤ length file) where
    -- the code
    code-first : file_code_of (first_written file d) ≡ file_code d.order
    unfolding file_code_of
    code-first =
        let four = length-code d.order in
        ap (λ (f : List ℕ). part f 0 4) first_one
        ∙ subst (λ (n : ℕ). part (writes file (first_writes d)) 0 n ≡ file_code d.order) four
        (follow-read file 0 (first_writes d) (first-follows d) 0 0 (file_code d.order) refl (omega (arith, four)))

    -- it says the order of the numbers
    order-first : d.order.0 ≤ 1 → byte_order_of (first_written file d) ≡ d.order
    order-first h = ap order_said code-first ∙ order-coded d.order h

    -- a field of one word or two
    field-first : (w : Width) (k at u : ℕ) → BehindOf k (put at (numeral d.order (bytes w) u)) (first_writes d) → u < 2 ^ bits w → at + bytes w ≤ 64
        → bits_at d.order w (first_written file d) at ≡ u
    field-first w k at u e f l =
        ap (λ (g : List ℕ). bits_at d.order w g at) first_one ∙ bits-follow d.order w file 0 (first_writes d) (first-follows d) k at u e f (omega arith)

    -- all of them
    numbers-first : d.order.0 ≤ 1 → Narrow d → d.xnext.0 < 2 ^ 64 → d.nextrec.0 < 2 ^ 64 → numbers_of (first_written file d) ≡ d
    unfolding numbers_of field
    numbers-first o t x r =
        rw (
          order-first o,
          field-first w32 1 (first_record_offset_of reclen_word) d.reclen refl t.reclen (omega arith),
          field-first w32 2 (first_record_offset_of kind_word) d.kind refl t.kind (omega arith),
          field-first w32 3 (first_record_offset_of vind_word) d.vind refl t.vind (omega arith),
          field-first w32 4 (first_record_offset_of lind_word) d.lind refl t.lind (omega arith),
          field-first w32 5 (first_record_offset_of flags_word) d.flags refl t.flags (omega arith),
          field-first w64 6 (first_record_offset_of xnext_word) d.xnext.0 refl x (omega arith),
          field-first w64 7 (first_record_offset_of nextrec_word) d.nextrec.0 refl r (omega arith),
          field-first w32 8 (first_record_offset_of nextword_word) d.nextword.0 refl t.nextword (omega arith),
          field-first w32 9 (first_record_offset_of lex1_word) d.lex1 refl t.lex1 (omega arith),
          field-first w32 10 (first_record_offset_of nex_word) d.nex refl t.nex (omega arith),
          field-first w32 11 (first_record_offset_of gex_word) d.gex refl t.gex (omega arith),
        )

  -- behind the growth it is zero
  clear_first : d.nex ≡ 0 → 16 ≤ d.reclen → 4 * d.reclen ≤ length file → no_leftovers (first_written file d) d ≡ true
  unfolding no_leftovers
  clear_first none low long =
      let rest = 4 * (d.reclen - 14) in
      let at : first_record_offset_of (after_aex d.nex) ≡ 56 = omega (arith, none) in
      let size : 4 * d.reclen - first_record_offset_of (after_aex d.nex) ≡ length (zeros rest) = omega (arith, at, length-zeros rest) in
      let zero = follow-read file 0 (first_writes d) (first-follows d) 12 56 (zeros rest) refl (omega (arith, length-zeros rest)) in
      ap₂ (λ (a n : ℕ). all_zero (part (first_written file d) a n)) at size
      ∙ ap (λ (f : List ℕ). all_zero (part f 56 (length (zeros rest)))) first_one
      ∙ ap all_zero zero
      ∙ zeros-zero rest

-- ---- validating a file that was created

module _ (file : List ℕ) (s : Settings) (e : creation_refusal (length file) s ≡ 0) where
  -- the first record was written, and its fields are the numbers
  pub created-written : created_file file s ≡ first_written file (created_of s)
  unfolding created_file
  created-written = rw e

  -- the file is as long as before
  pub length-created : length (created_file file s) ≡ length file
  length-created = ap length created-written ∙ length-first file (created_of s)

  -- it is admitted, with the numbers of a new file and no addresses
  pub created-validated : Validates (created_file file s) (created_of s) no_addresses
  unfolding created_of addresses_of
  created-validated =
      let same = length-first file (created_of s) in
      let p = passed (length file) s e in
      rw created-written
      (validated (first_written file (created_of s)) (created_of s) no_addresses (numbers-first file (created_of s) p.0 (order-known (created_of s) (apt (length file) (created_of s) p.1)) (created-fits (length file) s e).0 (omega arith) (omega arith)) refl
      (omega (arith, same, p.0))
      (apt (length file) (created_of s) p.1)
      (rw same (created-admitted (length file) s e))
      (clear_first file (created_of s) refl (omega (arith, (created-admitted (length file) s e).settled.reclen-low)) (omega (arith, (created-admitted (length file) s e).lent.first))))
