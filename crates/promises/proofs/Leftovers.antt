-- Leftovers in the first record (Q-7 of 02): rule 29 says that every word after the addresses in use is zero; so it is in every file that is
-- admitted, in one that was created, and after an accepted append. Assumes nothing.
use Prim.Native.Nat.{ℕ, zero, suc, ◌+◌, ◌*◌, ◌-◌, ◌≤◌, ◌<◌}
use mathlib.Core.Path.{◌≡◌, refl, sym, ap, ap₂, subst, ◌∙◌}
use mathlib.Core.Bool.{true, ◌&&◌}
use mathlib.Core.List.{List, []}
use native.Mathlib.Omega.{arith}
use borrow.Author.Tests.{eqb-true, eq-eqb}
use lib.Dec.{eqb}
use lib.ListN.{length}
use mir.Syntax.{w32}
use Rattle.image.specs.Image.{part, all_zero}
use Rattle.image.proofs.Part.{part-add}
use Rattle.image.proofs.Zeros.{zero-append, zero-within}
use Rattle.words.proofs.Access.{bits-zero}
use Rattle.geometry.specs.Units.{offset_of, first_record_offset_of}
use Rattle.layout.specs.FirstRecordWords.{after_aex}
use Rattle.layout.specs.FileCode.{byte_order_of}
use Rattle.descriptor.specs.declared.numbers.Settings.{Settings}
use Rattle.descriptor.specs.declared.numbers.DescriptorNumbers.{DescriptorNumbers}
use Rattle.descriptor.specs.FirstRecord.{field, field4, numbers_of}
use Rattle.descriptor.specs.Rules.{no_leftovers, file_refusal}
use Rattle.descriptor.proofs.Answered.{file-passed, file-admitted}
use Rattle.storing.specs.Handed.{Handed}
use Rattle.writer.specs.Answers.{append_of, file_after}
use Rattle.writer.specs.Creation.{creation_refusal, created_file}
use Rattle.written.proofs.ReadBack.{append-shows}
use Rattle.promises.specs.Calls.{Call, AllFit, run}
use Rattle.promises.specs.Demand.{Start}
use Rattle.promises.specs.Leftovers.{RestZero}
use Rattle.promises.proofs.AppendNumbers.{accepted-file, answer-there}
use Rattle.promises.proofs.CreatedSound.{created-sound}
use Rattle.promises.proofs.OrderPassed.{check-passed}
use Rattle.promises.proofs.Demand3.{demand-3}

-- bytes are all zero where each word of four of them is
of_words : (file : List ℕ) (at n : ℕ) → ((i : ℕ) → i < n → all_zero (part file (at + 4 * i) 4) ≡ true) → all_zero (part file at (4 * n)) ≡ true
unfolding part all_zero
of_words file at zero f = refl
of_words file at (suc n) f =
    let four : 4 * suc n ≡ 4 * n + 4 = omega arith in
    rw four
    (ap all_zero (part-add file at (4 * n) 4)
    ∙ zero-append (part file at (4 * n)) (part file (at + 4 * n) 4)
    ∙ ap₂ ◌&&◌ (of_words file at n (λ i l. f i (omega arith))) (f n (omega arith)))

-- ---- rule 29, word by word

module _ (file : List ℕ) (d : DescriptorNumbers) (room : 14 + 2 * d.nex ≤ d.reclen) where
  abbrev start : ℕ
  start = first_record_offset_of (after_aex d.nex)

  word-zero : (w : ℕ) → eqb (field4 file (record { 0 = w })) 0 ≡ all_zero (part file (4 * (w - 1)) 4)
  unfolding field
  word-zero w = bits-zero (byte_order_of file) w32 file (4 * (w - 1))

  -- where the rule holds, every word after the addresses in use is zero
  pub rest-zero : no_leftovers file d ≡ true → RestZero file d
  unfolding no_leftovers
  rest-zero e w low high =
      eqb-true (field4 file (record { 0 = w })) 0
      (word-zero w ∙ zero-within file start (offset_of d.reclen - start) (4 * (w - 1)) 4 (omega arith) (omega (arith, room)) e)

  -- and where every such word is zero, the rule holds
  pub zero_rest : RestZero file d → no_leftovers file d ≡ true
  unfolding no_leftovers
  zero_rest f =
      let count = d.reclen - (14 + 2 * d.nex) in
      let size : 4 * count ≡ offset_of d.reclen - start = omega (arith, room) in
      subst (λ (n : ℕ). all_zero (part file start n) ≡ true) size (of_words file start count zero-at)
    where
      zero-at : (i : ℕ) → i < d.reclen - (14 + 2 * d.nex) → all_zero (part file (start + 4 * i) 4) ≡ true
      zero-at i l =
          let w = 15 + 2 * d.nex + i in
          let at : 4 * (w - 1) ≡ start + 4 * i = omega arith in
          subst (λ (k : ℕ). all_zero (part file k 4) ≡ true) at (sym (word-zero w) ∙ eq-eqb (field4 file (record { 0 = w })) 0 (f w (omega arith) (omega (arith, room))))

-- ---- where there are none

-- a file that is admitted has no leftovers
pub admitted-rest : (file : List ℕ) → file_refusal file ≡ 0 → RestZero file (numbers_of file)
admitted-rest file z = rest-zero file (numbers_of file) (file-admitted file z).settled.nex-room (file-passed file z).clear

-- nor has one that was created, whatever stood there
pub created-rest : (file : List ℕ) (s : Settings) → creation_refusal (length file) s ≡ 0 → RestZero (created_file file s) (numbers_of (created_file file s))
created-rest file s e = admitted-rest (created_file file s) (created-sound file s e).admitted

-- nor has a file after an accepted append: the words behind its addresses stay zero, with a new address among these or without
pub append-rest : (file : List ℕ) (h : Handed) → (append_of file h).refusal ≡ 0 → RestZero (file_after file h) (numbers_of (file_after file h))
append-rest file h r =
    let z = accepted-file file h r in
    admitted-rest (file_after file h) (append-shows file h z (sym (answer-there file h z) ∙ r)).admitted

-- nor has one from which demand 3 starts, after any series of calls
pub run-rest : (calls : List Call) → AllFit calls → (file : List ℕ) → Start file → RestZero (run calls file) (numbers_of (run calls file))
run-rest calls g file start = admitted-rest (run calls file) (check-passed (run calls file) (demand-3 calls g file start).ordered).0

-- or after none
pub start-rest : (file : List ℕ) → Start file → RestZero file (numbers_of file)
start-rest file start = run-rest [] tt file start
