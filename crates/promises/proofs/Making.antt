-- What a call, accepted or refused, makes of a sound file: it is sound again, its contents are those before, each updated or not, and then what the call adds, and its
-- entries stand where they stood, all but an updated one unchanged. So does one call after another, and so do an append and an update. Assumes nothing.
use Prim.Native.Nat.{ℕ, zero, suc, ◌+◌, ◌≤◌, ◌<◌}
use mathlib.Core.Path.{◌≡◌, refl, sym, ap, ◌∙◌}
use mathlib.Core.Bool.{cond}
use mathlib.Core.List.{List, [], ◌∷◌, ◌++◌, append_assoc, append-nil}
use native.Mathlib.Omega.{arith}
use borrow.Author.Tests.{eqb-true, eqb-false, ne_eqb}
use lib.Dec.{eqb}
use lib.ListN.{length, get_or, length-append, get_or-append}
use lib.Seq.{get_or-append-add, ext_get_or}
use Rattle.outcome.proofs.Either.{either}
use Rattle.geometry.specs.declared.units.EntryNumber.{EntryNumber}
use Rattle.geometry.specs.Units.{entries_before}
use Rattle.descriptor.specs.FirstRecord.{numbers_of, addresses_of}
use Rattle.descriptor.proofs.Answered.{file-admitted, answer-numbers}
use Rattle.storing.specs.Handed.{Handed, Integers}
use Rattle.writer.specs.Answers.{append_of, file_after}
use Rattle.update.specs.Answers.{Update, update_of, file_after_update}
use Rattle.updated.proofs.Rewritten.{update-kept}
use Rattle.promises.specs.Contents.{entries_of, Reading, holds, refused, reading_of, contents, entry_bytes, InPlace, Unchanged}
use Rattle.promises.specs.Calls.{update, updated, handed_content, reading_after, words_after, each_from}
use Rattle.promises.specs.Regions.{Sound}
use Rattle.promises.proofs.Readings.{numbers-shown, length-contents, contents-at}
use Rattle.promises.proofs.OpenEntries.{OpenEntry}
use Rattle.promises.proofs.Each.{each-length, each_at, each_twice, each-kept, each-behind}
use Rattle.promises.proofs.AppendNumbers.{by_answer}
use Rattle.promises.proofs.AppendAdds.{append-sound, append-stays, append-contents}
use Rattle.promises.proofs.UpdatedEntries.{update-number, update-entries, update-sound, update-stands}
use Rattle.promises.proofs.UpdatedReadings.{update-reads}
use Rattle.promises.proofs.UpdatedWords.{update-words}

-- the entries of an admitted file
pub entries-shown : (file : List ℕ) → Sound file → entries_of file ≡ entries_before (numbers_of file).xnext
entries-shown file s = rw (numbers-shown file (answer-numbers file s.admitted))

-- every entry of a sound file opens
pub sound-open : (file : List ℕ) → Sound file → (e : ℕ) → 1 ≤ e → e ≤ entries_of file → OpenEntry file (numbers_of file) (addresses_of file (numbers_of file).nex) (record { 0 = e })
sound-open file s e l h =
    let z = s.admitted in
    record { shown = answer-numbers file z; admitted = file-admitted file z; opens = s.inside.opens e l (omega (arith, entries-shown file s)) }

-- ---- from file to file

-- an entry that stands where it stood
stands_on : {f g h : List ℕ} {e : EntryNumber} → InPlace f g e → InPlace g h e → InPlace f h e
stands_on p q = record {
  opened = q.opened ∙ p.opened;
  started = q.started ∙ p.started;
  placed = λ z. q.placed z ∙ p.placed z;
  slotted = q.slotted ∙ p.slotted;
  slot = q.slot ∙ p.slot;
}

-- ---- what is made of a file

-- one file is sound, has what f makes of another's contents with more behind them, and has each of its entries where it stood, with what w makes of its words
pub record Makes (before after : List ℕ) (f : ℕ → Reading → Reading) (w : ℕ → List ℕ → List ℕ) (more : List Reading) : Type 0 where
  pub sound : Sound after
  pub kept : contents after ≡ each_from 1 f (contents before ++ more)
  -- f leaves every number that is not there yet
  pub behind : (k : ℕ) → entries_of after < k → (r : Reading) → f k r ≡ r
  pub stands : (e : ℕ) → 1 ≤ e → e ≤ entries_of before → InPlace before after (record { 0 = e })
  pub stays : (e : ℕ) → 1 ≤ e → e ≤ entries_of before → entry_bytes after (record { 0 = e }) ≡ w e (entry_bytes before (record { 0 = e }))

-- so has one to which more is added, with every entry as it was
makes-more : {before after : List ℕ} {more : List Reading} → Sound after → contents after ≡ contents before ++ more
    → ((e : ℕ) → 1 ≤ e → e ≤ entries_of before → Unchanged before after (record { 0 = e })) → Makes before after (λ k r. r) (λ e words. words) more
makes-more {before} {more} sound kept stays = record {
  sound = sound;
  kept = kept ∙ sym (each-kept (λ k r. r) 1 (contents before ++ more) (λ i l r. refl));
  behind = λ k l r. refl;
  stands = λ e l m. (stays e l m).place;
  stays = λ e l m. (stays e l m).words;
}

-- and a sound file itself, with nothing more
pub makes_none : (file : List ℕ) → Sound file → Makes file file (λ k r. r) (λ e words. words) []
makes_none file s =
    makes-more s (sym (append-nil (contents file)))
    (λ e l m. record { place = record { opened = refl; started = refl; placed = λ z. refl; slotted = refl; slot = refl }; words = refl })

module _ {before after : List ℕ} {f : ℕ → Reading → Reading} {w : ℕ → List ℕ → List ℕ} {more : List Reading} (made : Makes before after f w more) where
  -- it has as many entries more
  pub makes-count : entries_of after ≡ entries_of before + length more
  makes-count =
      omega (arith, length-contents before, length-contents after, ap length made.kept ∙ each-length f 1 (contents before ++ more) ∙ length-append (contents before) more)

  -- each of its entries reads as f makes it
  makes-at : (k : ℕ) → k < entries_of after → reading_of after (record { 0 = suc k }) ≡ f (suc k) (get_or (contents before ++ more) k (refused 0))
  makes-at k l =
      sym (contents-at after k (refused 0) l)
      ∙ ap (λ (readings : List Reading). get_or readings k (refused 0)) made.kept
      ∙ each_at f 1 (contents before ++ more) k (suc k) (refused 0) (omega arith)
      (omega (arith, makes-count, length-contents before, length-append (contents before) more))

  -- an entry that was there reads as f makes it
  pub makes-reads : (e : ℕ) → 1 ≤ e → e ≤ entries_of before → reading_of after (record { 0 = e }) ≡ f e (reading_of before (record { 0 = e }))
  makes-reads zero l m = absurd (omega arith)
  makes-reads (suc k) l m =
      makes-at k (omega (arith, makes-count))
      ∙ ap (f (suc k)) (get_or-append (contents before) more (refused 0) k (omega (arith, length-contents before)) ∙ contents-at before k (refused 0) (omega arith))

  -- and so does one that is added, behind those
  pub makes-found : (k : ℕ) → k < length more → let e = entries_of before + k + 1 in reading_of after (record { 0 = e }) ≡ f e (get_or more k (refused 0))
  makes-found k l =
      let there = length (contents before) + k in
      let at : entries_of before + k + 1 ≡ suc there = omega (arith, length-contents before) in
      rw at (makes-at there (omega (arith, makes-count, length-contents before)) ∙ ap (f (suc there)) (get_or-append-add (contents before) more k (refused 0)))

-- what is made of what was made: f and then g of each, v and then w of its words, and what is added stands behind what was
pub makes-on : {one two three : List ℕ} {f g : ℕ → Reading → Reading} {v w : ℕ → List ℕ → List ℕ} {first others : List Reading}
    → Makes one two f v first → Makes two three g w others → Makes one three (λ k r. g k (f k r)) (λ e words. w e (v e words)) (first ++ others)
makes-on {one} {f} {g} {w} {first} {others} p q =
    let there = contents one ++ first in
    record {
      sound = q.sound;
      kept =
          q.kept
          ∙ ap (λ (readings : List Reading). each_from 1 g (readings ++ others)) p.kept
          ∙ ap (each_from 1 g) (each-behind f 1 there others (λ i l. p.behind i (omega (arith, makes-count p, length-contents one, length-append (contents one) first))))
          ∙ each_twice f g 1 (there ++ others)
          ∙ ap (each_from 1 (λ k r. g k (f k r))) (append_assoc (contents one) first others);
      behind = λ k l r. ap (g k) (p.behind k (omega (arith, makes-count q)) r) ∙ q.behind k l r;
      stands = λ e l m. stands_on (p.stands e l m) (q.stands e l (omega (arith, makes-count p)));
      stays = λ e l m. q.stays e l (omega (arith, makes-count p)) ∙ ap (w e) (p.stays e l m);
    }

-- ---- an append

-- it adds what was handed in where it is accepted, and nothing where it is refused
pub append-makes : (file : List ℕ) → Sound file → (h : Handed) → Integers h
    → Makes file (file_after file h) (λ k r. r) (λ e words. words) (cond (eqb (append_of file h).refusal 0) (holds (handed_content h) ∷ []) [])
append-makes file s h g =
    by_answer file h s.admitted
    (λ a q. rw q (makes-more (append-sound file h g s a) (append-contents file h g s a) (λ e l m. append-stays file h g s a e l (omega (arith, entries-shown file s)))))
    (λ same q. rw (same, q) (makes_none file s))

-- ---- an update

-- what an accepted one makes of each entry
abbrev remade : Update → ℕ → Reading → Reading
remade u k r = reading_after (update u) (updated 0) k r

-- the contents after it
updated-contents : (file : List ℕ) → Sound file → (u : Update) → update_of file u ≡ 0 → contents (file_after_update file u) ≡ each_from 1 (remade u) (contents file ++ [])
updated-contents file s u z =
    let after = file_after_update file u in
    let count = update-entries file u in
    rw append-nil
    (ext_get_or (refused 0) (contents after) (each_from 1 (remade u) (contents file))
    (length-contents after ∙ count ∙ sym (length-contents file) ∙ sym (each-length (remade u) 1 (contents file)))
    (λ i l.
    let there : i < entries_of file = omega (arith, length-contents after) in
    contents-at after i (refused 0) (omega arith)
    ∙ update-reads file u s z (suc i) (omega arith) (omega arith)
    ∙ ap (remade u (suc i)) (sym (contents-at file i (refused 0) there))
    ∙ sym (each_at (remade u) 1 (contents file) i (suc i) (refused 0) (omega arith) (omega (arith, length-contents file)))))

-- it updates the entry that it names where it is accepted, and nothing where it is refused
pub update-makes : (file : List ℕ) → Sound file → (u : Update) → let a = updated (update_of file u) in
    Makes file (file_after_update file u) (λ k r. reading_after (update u) a k r) (λ e words. words_after file (update u) a e words) []
update-makes file s u =
    either (eqb (update_of file u) 0)
    (λ q.
    let z = eqb-true (update_of file u) 0 q in
    rw q (record {
      sound = update-sound file u s z;
      kept = updated-contents file s u z;
      behind = λ k l r. rw (ne_eqb u.number.0 k (omega (arith, update-number file u z, update-entries file u)));
      stands = update-stands file u s z;
      stays = update-words file u s z;
    }))
    (λ q. rw (update-kept file u (eqb-false (update_of file u) 0 q), q) (makes_none file s))
