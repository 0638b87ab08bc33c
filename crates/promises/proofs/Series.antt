-- Demand 3. From a sound file, after any series of calls, accepted or refused: going through the numbers gives the starting entries and then every accepted one,
-- once, in order, each section as last updated; every starting entry stands where it stood, and its words stay but for its updates; the k-th accepted entry
-- has number n + k, which is what its append answers; and the file is sound again. Assumes nothing.
use Prim.Native.Nat.{ℕ, ◌+◌, ◌≤◌, ◌<◌}
use mathlib.Core.Path.{◌≡◌, refl, sym, ap, ◌∙◌}
use mathlib.Core.List.{List, [], ◌∷◌}
use native.Mathlib.Omega.{arith}
use borrow.Author.Tests.{eqb-true}
use lib.Dec.{eqb}
use lib.ListN.{length, get_or}
use Rattle.outcome.proofs.Either.{either}
use Rattle.geometry.specs.declared.units.EntryNumber.{EntryNumber}
use Rattle.descriptor.proofs.Answered.{file-admitted}
use Rattle.promises.specs.Contents.{entries_of, Reading, refused, reading_of, contents, entry_bytes, InPlace}
use Rattle.promises.specs.Calls.{Call, append, batch, update, Fits, AllFit, Answer, refusal_of, answer_of, after_call, run, answers, added, accepted, reading_after, reading_after_all, words_after, words_after_all, contents_after, contents_after_all, NumberedNext, AllNumbered}
use Rattle.promises.specs.Regions.{Sound}
use Rattle.promises.proofs.Readings.{length-contents}
use Rattle.promises.proofs.Each.{each-behind}
use Rattle.promises.proofs.AppendNumbers.{answer-there, number-there}
use Rattle.promises.proofs.Making.{entries-shown, Makes, makes_none, makes-count, makes-reads, makes-found, makes-on, append-makes, update-makes}
use Rattle.promises.proofs.InTurn.{batch-makes}

-- ---- one call

-- it makes of a sound file what its answer says
pub call-makes : (file : List ℕ) → Sound file → (c : Call) → Fits c
    → Makes file (after_call file c) (reading_after c (answer_of file c)) (words_after file c (answer_of file c)) (added c (answer_of file c))
call-makes file s (append h) g = append-makes file s h g
call-makes file s (batch b) g = batch-makes file s b g
call-makes file s (update u) g = update-makes file s u

-- it updates no entry that was not there before it
call-within : (file : List ℕ) → Sound file → (c : Call) (k : ℕ) → entries_of file < k → (r : Reading) → reading_after c (answer_of file c) k r ≡ r
call-within file s (append h) k l r = refl
call-within file s (batch b) k l r = refl
call-within file s (update u) k l r = let made = update-makes file s u in made.behind k (omega (arith, makes-count made)) r

-- so it leaves the contents before it, each updated or not, and then what it adds
pub call-contents : (file : List ℕ) → Sound file → (c : Call) → Fits c → contents (after_call file c) ≡ contents_after c (answer_of file c) (contents file)
call-contents file s c g =
    let a = answer_of file c in
    (call-makes file s c g).kept ∙ sym (each-behind (reading_after c a) 1 (contents file) (added c a) (λ i l. call-within file s c i (omega (arith, length-contents file))))

-- an accepted append answers n + 1
call-numbered : (file : List ℕ) → Sound file → (c : Call) → NumberedNext (entries_of file) (answer_of file c)
call-numbered file s (append h) =
    let z = s.admitted in
    λ r. omega (arith, entries-shown file s, ap (λ (n : EntryNumber). n.0) (number-there file h z (sym (answer-there file h z) ∙ r)), (file-admitted file z).counted)
call-numbered file s (batch b) = tt
call-numbered file s (update u) = tt

-- ---- a series

-- what a call makes of the words of an entry is the same for two files in which it stands alike
words-alike : {f g : List ℕ} {e : ℕ} → InPlace f g (record { 0 = e }) → (c : Call) (a : Answer) (words : List ℕ) → words_after g c a e words ≡ words_after f c a e words
words-alike t (append h) a words = refl
words-alike t (batch b) a words = refl
words-alike {f} {g} {e} t (update u) a words =
    either (eqb (refusal_of a) 0)
    (λ p. either (eqb u.number.0 e)
    (λ q. rw (p, q, eqb-true u.number.0 e q, t.placed u.identifier, t.started))
    (λ q. rw (p, q)))
    (λ p. rw p)

-- so it is for a series
all_alike : {f g : List ℕ} {e : ℕ} → InPlace f g (record { 0 = e }) → (calls : List Call) (given : List Answer) (words : List ℕ)
    → words_after_all g calls given e words ≡ words_after_all f calls given e words
all_alike t [] given words = refl
all_alike t (c ∷ cs) [] words = refl
all_alike {f} {g} {e} t (c ∷ cs) (a ∷ given) words = ap (words_after_all g cs given e) (words-alike t c a words) ∙ all_alike t cs given (words_after f c a e words)

-- a series makes of a sound file what its answers say, call by call
run-makes : (calls : List Call) → AllFit calls → (file : List ℕ) → Sound file → let given = answers calls file in
    Makes file (run calls file) (reading_after_all calls given) (words_after_all file calls given) (accepted calls given)
run-makes [] g file s = makes_none file s
run-makes (c ∷ cs) g file s =
    let next = after_call file c in
    let first = call-makes file s c g.0 in
    let made = makes-on first (run-makes cs g.1 next first.sound) in
    record {
      sound = made.sound;
      kept = made.kept;
      behind = made.behind;
      stands = made.stands;
      stays = λ e l m. made.stays e l m ∙ all_alike (first.stands e l m) cs (answers cs next) (words_after file c (answer_of file c) e (entry_bytes file (record { 0 = e })));
    }

-- the contents are what the calls leave, one after the other
pub run-contents : (calls : List Call) → AllFit calls → (file : List ℕ) → Sound file → contents (run calls file) ≡ contents_after_all calls (answers calls file) (contents file)
run-contents [] g file s = refl
run-contents (c ∷ cs) g file s =
    let next = after_call file c in
    run-contents cs g.1 next (call-makes file s c g.0).sound ∙ ap (contents_after_all cs (answers cs next)) (call-contents file s c g.0)

-- each accepted append answers its number, after the entries that the calls before it added
pub run-numbered : (calls : List Call) → AllFit calls → (file : List ℕ) → Sound file → AllNumbered (entries_of file) calls (answers calls file)
run-numbered [] g file s = tt
run-numbered (c ∷ cs) g file s =
    let first = call-makes file s c g.0 in
    (call-numbered file s c, rw (makes-count first) at (run-numbered cs g.1 (after_call file c) first.sound))

module _ (calls : List Call) (g : AllFit calls) (file : List ℕ) (s : Sound file) where
  -- the file is sound again: it is admitted, all its entries open, and no two of its regions share a word
  pub run_sound : Sound (run calls file)
  run_sound = (run-makes calls g file s).sound

  -- it has an entry more for each accepted one
  pub run-count : entries_of (run calls file) ≡ entries_of file + length (accepted calls (answers calls file))
  run-count = makes-count (run-makes calls g file s)

  -- every entry that was there reads as before, with the accepted updates of it
  pub run-reads : (e : ℕ) → 1 ≤ e → e ≤ entries_of file
      → reading_of (run calls file) (record { 0 = e }) ≡ reading_after_all calls (answers calls file) e (reading_of file (record { 0 = e }))
  run-reads = makes-reads (run-makes calls g file s)

  -- it stands where it stood
  pub run-stands : (e : ℕ) → 1 ≤ e → e ≤ entries_of file → InPlace file (run calls file) (record { 0 = e })
  run-stands = (run-makes calls g file s).stands

  -- and all its words are as they were, but for the sections that accepted updates of it rewrote
  pub run-stays : (e : ℕ) → 1 ≤ e → e ≤ entries_of file → entry_bytes (run calls file) (record { 0 = e }) ≡ words_after_all file calls (answers calls file) e (entry_bytes file (record { 0 = e }))
  run-stays = (run-makes calls g file s).stays

  -- the k-th accepted entry has number n + k, and reads as handed in, with the accepted updates of it
  pub run-found : (k : ℕ) → k < length (accepted calls (answers calls file)) → let e = entries_of file + k + 1 in
      reading_of (run calls file) (record { 0 = e }) ≡ reading_after_all calls (answers calls file) e (get_or (accepted calls (answers calls file)) k (refused 0))
  run-found = makes-found (run-makes calls g file s)
