-- What becomes of the words of each entry of a sound file by an accepted update: those of another entry stay, and of its own the section is rewritten where it stands.
-- Assumes nothing.
use Prim.Native.Nat.{ℕ, ◌*◌, ◌≤◌}
use mathlib.Core.Path.{◌≡◌}
use mathlib.Core.Bool.{cond}
use mathlib.Core.List.{List}
use native.Mathlib.Omega.{arith}
use borrow.Author.Tests.{eqb-true}
use lib.Dec.{eqb}
use Rattle.outcome.proofs.Either.{either}
use Rattle.image.proofs.Part.{part-splice}
use Rattle.update.specs.Answers.{Update, space_of, padded, place_named, update_of, file_after_update}
use Rattle.updated.proofs.Rewritten.{one-write}
use Rattle.updated.proofs.EntryAfter.{place_is, section-inside}
use Rattle.promises.specs.Contents.{entries_of, opened_in, start_in, entry_bytes}
use Rattle.promises.specs.Calls.{update, words_by}
use Rattle.promises.specs.Regions.{Sound}
use Rattle.promises.proofs.OpenEntries.{start-shown}
use Rattle.promises.proofs.UpdatedEntries.{update-number, update-stands, update-stays}
use Rattle.promises.proofs.UpdatedReadings.{open-before}

module _ (file : List ℕ) (u : Update) (s : Sound file) (a : update_of file u ≡ 0) where
  abbrev after : List ℕ
  after = file_after_update file u

  -- of the entry of the update the section is rewritten
  own-words : entry_bytes after u.number ≡ words_by file (update u) (entry_bytes file u.number)
  unfolding entry_bytes
  own-words =
      let n = update-number file u a in
      let t = update-stands file u s a u.number.0 n.0 n.1 in
      let p = place_named file u in
      let start = start_in file u.number in
      let before : 4 * start ≤ p.start = rw (start-shown (open-before file u s a), place_is file u a) (omega (arith, (section-inside file u a).0)) in
      rw (t.started, t.opened, one-write file u a)
      (part-splice file (4 * start) (4 * (opened_in file u.number).nword) p.start (padded u.content (space_of p)) before)

  -- and the words of every other stay
  pub update-words : (e : ℕ) → 1 ≤ e → e ≤ entries_of file → let words = entry_bytes file (record { 0 = e }) in
      entry_bytes after (record { 0 = e }) ≡ cond (eqb u.number.0 e) (words_by file (update u) words) words
  update-words e l h =
      either (eqb u.number.0 e)
      (λ q. rw (q, ← (eqb-true u.number.0 e q)) own-words)
      (λ q. rw q (update-stays file u s a e l h q).words)
