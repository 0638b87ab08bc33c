-- An accepted creation, byte by byte: behind the fields, words 1 to 14, the first record becomes zero, and every later byte stays. A refused creation changes no
-- byte: `create-kept` of RefusedAnswers. Assumes nothing.
use Prim.Native.Nat.{ℕ, ◌+◌, ◌*◌, ◌-◌, ◌≤◌}
use mathlib.Core.Path.{◌≡◌, refl, sym, ap, ◌∙◌}
use mathlib.Core.Bool.{true, false}
use mathlib.Core.List.{List}
use native.Mathlib.Omega.{arith}
use lib.ListN.{length, length-append}
use Rattle.image.specs.Image.{part, zeros}
use Rattle.image.specs.Writes.{writes}
use Rattle.image.proofs.Part.{part-part}
use Rattle.image.proofs.Splice.{length-zeros}
use Rattle.image.proofs.Writes.{length-writes, follow-read, stretch-keep}
use Rattle.words.proofs.Number.{length-numeral}
use Rattle.layout.proofs.FileCodes.{length-code}
use Rattle.descriptor.specs.declared.numbers.Settings.{Settings}
use Rattle.descriptor.specs.declared.numbers.DescriptorNumbers.{DescriptorNumbers}
use Rattle.descriptor.specs.FirstRecord.{created_of}
use Rattle.writer.specs.Creation.{creation_refusal, created_file}
use Rattle.writer.proofs.Created.{created-fits}
use Rattle.written.proofs.CreatedBack.{first_writes, first-follows, first_one, created-written}
use Rattle.promises.specs.Bytes.{byte_at, in_fields, Says, first_of, AsClassed, create_classes}
use Rattle.promises.proofs.Bytes.{covered, uncovered, beside-both, byte-same, byte-zero, pass, by_tests}

module _ (file : List ℕ) (d : DescriptorNumbers) (low : 14 ≤ d.reclen) (room : 4 * d.reclen ≤ length file) (i : ℕ) where
  abbrev rest : ℕ
  rest = d.reclen - 14

  abbrev new : List ℕ
  new = writes file (first_writes d)

  -- a byte behind the fields and in the first record
  zero-there : in_fields 15 rest i ≡ true → byte_at new i ≡ 0
  zero-there here =
      let c = covered 56 rest i here in
      let m = length-zeros (4 * rest) in
      let read = follow-read file 0 (first_writes d) (first-follows d) 12 56 (zeros (4 * rest)) refl (omega arith) in
      byte-same new (zeros (4 * rest)) i (i - 56)
      (sym (part-part new 56 (length (zeros (4 * rest))) (i - 56) 1 i (omega arith) (omega arith)) ∙ ap (λ (l : List ℕ). part l (i - 56) 1) read)
      ∙ byte-zero (4 * rest) (i - 56) (omega arith)

  -- a byte behind the first record
  same-there : in_fields 1 14 i ≡ false → in_fields 15 rest i ≡ false → byte_at new i ≡ byte_at file i
  same-there fields behind =
      byte-same new file i i
      (stretch-keep i 1 file 0 (56 + 4 * rest) (first_writes d) (first-follows d, simp (length-append, length-numeral, length-code, length-zeros) (omega arith))
      (beside-both i 0 56 56 (4 * rest) (56 + 4 * rest) refl refl (uncovered 0 14 i fields) (uncovered 56 rest i behind)))

  created-byte : Says (first_of (create_classes d.reclen i)) (byte_at file i) (byte_at new i)
  created-byte =
      by_tests (λ c. Says c (byte_at file i) (byte_at new i)) (create_classes d.reclen i) (pass λ fields. (zero-there, λ behind. same-there fields behind))

-- of every creation that is accepted, and every offset
pub create-bytes : (file : List ℕ) (s : Settings) → creation_refusal (length file) s ≡ 0 → AsClassed (create_classes (created_of s).reclen) file (created_file file s)
create-bytes file s e =
    let d = created_of s in
    let fits = created-fits (length file) s e in
    let made = created-written file s e ∙ first_one file d in
    rw made (record { size = length-writes file (first_writes d); each = created-byte file d (omega (arith, fits.1)) fits.3 })
