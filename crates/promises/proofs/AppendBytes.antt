-- An accepted append, byte by byte: the words skipped and the new area become zero, and all other bytes stay but those of the fields, the slot and the entry. This
-- holds of every offset, behind the entry and past the file's end too. A refused append changes no byte: `append-kept` of RefusedAnswers. Assumes nothing.
use Prim.Native.Nat.{ℕ, ◌+◌, ◌*◌, ◌-◌}
use mathlib.Core.Path.{◌≡◌, refl, ◌∙◌}
use mathlib.Core.Bool.{true, false, ◌&&◌}
use mathlib.Core.List.{List}
use native.Mathlib.Omega.{arith}
use lib.ListN.{length}
use Rattle.image.specs.Image.{zeros}
use Rattle.image.proofs.Writes.{Beside, beside-part}
use Rattle.geometry.specs.declared.units.RecordNumber.{RecordNumber}
use Rattle.geometry.specs.Units.{first_record_offset_of}
use Rattle.descriptor.specs.declared.numbers.DescriptorNumbers.{DescriptorNumbers}
use Rattle.descriptor.specs.FirstRecord.{numbers_of, addresses_of, free_of}
use Rattle.descriptor.specs.Rules.{file_refusal}
use Rattle.storing.specs.Handed.{Handed, nword_in}
use Rattle.placing.specs.Placing.{full, entry_start}
use Rattle.writer.specs.Rules.{append_refusal}
use Rattle.writer.specs.Answers.{file_after}
use Rattle.storing.specs.Bounds.{Accepted}
use Rattle.outcome.proofs.Either.{either}
use Rattle.placing.proofs.Places.{start-free}
use Rattle.written.proofs.Frame.{area-zero, frame}
use Rattle.written.proofs.AppendLeaves.{new, slot, left}
use Rattle.written.proofs.ReadBack.{admits, file-written}
use Rattle.promises.specs.Bytes.{byte_at, in_fields, in_words, Says, first_of, AsClassed, append_classes}
use Rattle.promises.proofs.Bytes.{covered, uncovered, beside-both, byte-same, byte-zero, pass, by_tests}

module _ (file : List ℕ) {d : DescriptorNumbers} {addresses : List RecordNumber} {h : Handed} (x : Accepted (length file) d addresses h) (i : ℕ) where
  abbrev skipped : ℕ
  skipped = entry_start d - free_of d

  -- a byte of the words skipped or of the new area, outside the slot
  zero-there : in_words (slot file x) d.lind i ≡ false → in_words (free_of d) skipped i ≡ true → byte_at (new file x) i ≡ 0
  zero-there beside here =
      let c = covered (4 * free_of d) skipped i here in
      either (full d)
      (λ q.
      byte-same (new file x) (zeros (4 * skipped)) i (i - 4 * free_of d) (area-zero file x i 1 q c.0 (omega arith) (uncovered (4 * slot file x) d.lind i beside))
      ∙ byte-zero (4 * skipped) (i - 4 * free_of d) (omega arith))
      (λ q. absurd (omega (arith, start-free d q)))

  -- a byte of none of what is written
  same-there : in_fields 7 2 i ≡ false → in_fields 9 2 i ≡ false → in_fields 11 1 i ≡ false
      → (full d && in_fields 13 1 i) ≡ false → (full d && in_fields (15 + 2 * d.nex) 2 i) ≡ false → in_words (slot file x) d.lind i ≡ false
      → in_words (free_of d) skipped i ≡ false → in_words (entry_start d) (nword_in h) i ≡ false → byte_at (new file x) i ≡ byte_at file i
  same-there xnext nextrec nextword nex address beside before behind =
      let l = left file x in
      let counts = beside-both i 24 16 40 4 20 refl refl (beside-both i 24 8 32 8 16 refl refl (uncovered 24 2 i xnext) (uncovered 32 2 i nextrec)) (uncovered 40 1 i nextword) in
      let end =
      beside-both i (4 * free_of d) (4 * skipped) (4 * entry_start d) (4 * nword_in h) (4 * (entry_start d + nword_in h - free_of d)) (omega arith) (omega arith)
      (uncovered (4 * free_of d) skipped i before) (uncovered (4 * entry_start d) (nword_in h) i behind) in
      byte-same (new file x) file i i (frame file x i 1 end counts extended (uncovered (4 * slot file x) d.lind i beside))
    where
      extended : full d ≡ true → Beside i 1 48 4 × Beside i 1 (56 + 8 * d.nex) 8
      extended q =
          let w = first_record_offset_of (record { 0 = 15 + 2 * d.nex }) in
          (uncovered 48 1 i (rw q at nex), beside-part i 1 w 8 (56 + 8 * d.nex) 8 (uncovered w 2 i (rw q at address)) (omega arith) (omega arith))

  appended-byte : Says (first_of (append_classes d addresses h i)) (byte_at file i) (byte_at (new file x) i)
  appended-byte =
      by_tests (λ c. Says c (byte_at file i) (byte_at (new file x) i)) (append_classes d addresses h i)
      (pass λ xnext. pass λ nextrec. pass λ nextword. pass λ nex. pass λ address. pass λ beside.
      (zero-there beside, λ before. pass λ behind. same-there xnext nextrec nextword nex address beside before behind))

-- of every admitted file, every append that is accepted, and every offset
pub append-bytes : (file : List ℕ) (h : Handed) → file_refusal file ≡ 0 → append_refusal (length file) (numbers_of file) h ≡ 0
    → AsClassed (append_classes (numbers_of file) (addresses_of file (numbers_of file).nex) h) file (file_after file h)
append-bytes file h z a =
    let x = admits file h z a in
    rw (file-written file h z a) (record { size = (left file x).size; each = appended-byte file x })
