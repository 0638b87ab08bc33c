-- What a call through a record comes to: nothing where 26 or 27 is given, else what the call does without it, with the record of the file that it leaves. Assumes nothing.
use Prim.Native.Nat.{ℕ}
use mathlib.Core.Path.{◌≡◌, sym, ap}
use mathlib.Core.List.{List}
use borrow.Author.Tests.{ne_eqb}
use Rattle.geometry.specs.declared.units.RecordNumber.{RecordNumber}
use Rattle.descriptor.specs.declared.numbers.DescriptorNumbers.{DescriptorNumbers}
use Rattle.descriptor.specs.Answers.{Validates}
use Rattle.held.specs.declared.answers.OpenFile.{OpenFile}
use Rattle.held.specs.declared.answers.OpenFileAnswer.{OpenFileAnswer}
use Rattle.held.specs.Record.{open_file_with, open_file_of}
use Rattle.held.specs.Rules.{held_refusal}
use Rattle.held.proofs.Held.{validated-record}
use Rattle.storing.specs.Handed.{Handed}
use Rattle.writer.specs.Answers.{append_of, file_after}
use Rattle.batch.specs.Batch.{Batch}
use Rattle.batch.specs.Rules.{batch_refusal}
use Rattle.batch.specs.Answers.{batch_of, file_after_batch}
use Rattle.update.specs.Answers.{Update, update_of, file_after_update}
use Rattle.through.specs.Answers.{stays, leaving, no_append, no_batch, append_through, batch_through, update_through}

-- the record of a file that validates with these numbers and addresses
pub record-then : (file : List ℕ) (d : DescriptorNumbers) (addresses : List RecordNumber) → Validates file d addresses → open_file_with d addresses ≡ (open_file_of file).file
record-then file d addresses v = sym (ap (λ (x : OpenFileAnswer). x.file) (validated-record file d addresses v))

module _ (file : List ℕ) (held : OpenFile) where
  -- refused by 27
  module _ {n : ℕ} (e : n ≡ held_refusal file held) (some : n ≡ 0 → ⊥) where
    -- an append changes nothing
    pub append-refused : (h : Handed) → append_through file held h ≡ stays file held (no_append n)
    unfolding append_through
    append-refused h = rw (← e, ne_eqb n 0 some)

    -- nor does a batch that passes 26
    pub batch-refused : (b : Batch) → batch_refusal b ≡ 0 → batch_through file held b ≡ stays file held (no_batch n)
    unfolding batch_through
    batch-refused b z = rw (z, ← e, ne_eqb n 0 some)

    -- nor does an update
    pub update-refused : (u : Update) → update_through file held u ≡ stays file held n
    unfolding update_through
    update-refused u = rw (← e, ne_eqb n 0 some)

  -- refused by 26
  pub batch-counted : {m : ℕ} (b : Batch) → m ≡ batch_refusal b → (m ≡ 0 → ⊥) → batch_through file held b ≡ stays file held (no_batch m)
  unfolding batch_through
  batch-counted {m} b e some = rw (← e, ne_eqb m 0 some)

  -- refused by neither
  module _ (z : held_refusal file held ≡ 0) where
    -- an append does what it does without the record
    pub append-done : (h : Handed) → append_through file held h ≡ leaving (append_of file h) (file_after file h)
    unfolding append_through
    append-done h = rw z

    -- so does a batch
    pub batch-done : (b : Batch) → batch_refusal b ≡ 0 → batch_through file held b ≡ leaving (batch_of file b) (file_after_batch file b)
    unfolding batch_through
    batch-done b q = rw (q, z)

    -- and an update
    pub update-done : (u : Update) → update_through file held u ≡ leaving (update_of file u) (file_after_update file u)
    unfolding update_through
    update-done u = rw z
