-- An accepted append to a sound file leaves it sound, keeps what every number up to n finds, and adds what was handed in under number n + 1. Assumes nothing.
use Prim.Native.Nat.{ℕ, suc, ◌≤◌}
use mathlib.Core.Path.{◌≡◌}
use mathlib.Core.List.{List, [], ◌∷◌, ◌++◌}
use native.Mathlib.Omega.{arith}
use lib.ListN.{length}
use Rattle.geometry.specs.Units.{entries_before}
use Rattle.descriptor.specs.FirstRecord.{numbers_of, addresses_of}
use Rattle.layout.specs.FileCode.{byte_order_of}
use Rattle.descriptor.proofs.Answered.{answer-numbers, file-order}
use Rattle.storing.specs.Handed.{Handed, Integers}
use Rattle.writer.specs.Rules.{append_refusal}
use Rattle.writer.specs.Answers.{file_after}
use Rattle.storing.specs.Bounds.{Accepted}
use Rattle.written.proofs.AppendLeaves.{new, then, left}
use Rattle.written.proofs.ReadBack.{admits, file-written, validated-after}
use Rattle.promises.specs.Contents.{Reading, holds, reading_of, contents, Unchanged}
use Rattle.promises.specs.Calls.{handed_content}
use Rattle.promises.specs.Regions.{Sound}
use Rattle.promises.proofs.Readings.{numbers-shown, in_order-same}
use Rattle.promises.proofs.EntryAlike.{reading-there, unchanged-there}
use Rattle.promises.proofs.Spread.{sound-shown}
use Rattle.promises.proofs.SoundAfter.{entry-agrees, opens-then, spread-then}
use Rattle.promises.proofs.NewEntry.{reading-new}

-- what number k finds
abbrev found : List ℕ → ℕ → Reading
found file k = reading_of file (record { 0 = k })

module _ (file : List ℕ) (h : Handed) (g : Integers h) (s : Sound file) (a : append_refusal (length file) (numbers_of file) h ≡ 0) where
  abbrev n : ℕ
  n = entries_before (numbers_of file).xnext

  abbrev x : Accepted (length file) (numbers_of file) (addresses_of file (numbers_of file).nex) h
  x = admits file h s.admitted a

  abbrev order : (numbers_of file).order ≡ byte_order_of file
  order = file-order file

  after-file : file_after file h ≡ new file x
  after-file = file-written file h s.admitted a

  -- the file is sound again
  pub append-sound : Sound (file_after file h)
  append-sound = rw after-file (sound-shown (validated-after file s.admitted x) (opens-then file x order s.inside) (spread-then file x order s.inside g.version))

  -- an entry that was there is unchanged
  pub append-stays : (k : ℕ) → 1 ≤ k → k ≤ n → Unchanged file (file_after file h) (record { 0 = k })
  append-stays k l m = rw after-file (unchanged-there (answer-numbers file s.admitted) (validated-after file s.admitted x) (entry-agrees file x order s.inside k l m))

  -- a number up to n finds what it found
  reading-old : (k : ℕ) → 1 ≤ k → k ≤ n → found (new file x) k ≡ found file k
  reading-old k l m = reading-there (answer-numbers file s.admitted) (validated-after file s.admitted x) (entry-agrees file x order s.inside k l m)

  -- so the contents are those before, and then what was handed in
  pub append-contents : contents (file_after file h) ≡ contents file ++ (holds (handed_content h) ∷ [])
  unfolding contents
  append-contents =
      let count : entries_before (then file x).xnext ≡ suc n = omega (arith, left file x) in
      let last : suc n ≡ (numbers_of file).xnext.0 = omega (arith, left file x) in
      let newest : found (new file x) (suc n) ≡ holds (handed_content h) = rw (last, ← after-file) (reading-new file h g s.admitted a) in
      rw (after-file, numbers-shown (new file x) (validated-after file s.admitted x), numbers-shown file (answer-numbers file s.admitted), count, in_order-same (found (new file x)) (found file) n reading-old, newest)
