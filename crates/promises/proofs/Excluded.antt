-- What the contracts exclude. Each theorem takes any outcome of a call, for every input, that meets the call's contract. So it is ruled out that a reader or a writer
-- refuses everything, that an open gives one fixed entry, that an append answers a number and writes nothing or stores only the first entry, that a batch stores
-- other entries than its own, that an update refuses content that fits exactly, leaves old bytes in the space or changes a byte outside it, and that a listing has a
-- made-up number of entries. Assumes nothing.
use Prim.Native.Nat.{ℕ, ◌+◌, ◌%◌, ◌≤◌, ◌<◌}
use mathlib.Core.Path.{◌≡◌, refl, sym, ap, ap₂, ◌∙◌}
use mathlib.Core.List.{List, [], ◌∷◌, ◌++◌, map, append-nil}
use native.Mathlib.Omega.{arith}
use borrow.Author.Tests.{le-leb, eq-eqb}
use lib.ListN.{length, take}
use Rattle.outcome.specs.Outcome.{Answers}
use Rattle.image.specs.Image.{part}
use Rattle.image.proofs.Writes.{Beside}
use Rattle.geometry.specs.declared.units.EntryNumber.{EntryNumber}
use Rattle.geometry.specs.Units.{entries_before}
use Rattle.descriptor.specs.declared.numbers.Settings.{Settings}
use Rattle.descriptor.specs.declared.validating.Validation.{Validation}
use Rattle.descriptor.specs.Refusal.{AllHold}
use Rattle.descriptor.specs.FirstRecord.{numbers_of, addresses_of}
use Rattle.descriptor.specs.Rules.{file_refusal}
use Rattle.descriptor.specs.Answers.{validation_of}
use Rattle.descriptor.proofs.Refusals.{refusal-none, hold-split}
use Rattle.entry.specs.declared.answers.Opened.{Opened}
use Rattle.entry.specs.Answers.{open_of, open_case}
use Rattle.writer.specs.declared.answers.Appended.{Appended}
use Rattle.writer.specs.Creation.{Creates}
use Rattle.storing.specs.Handed.{Handed, Integers}
use Rattle.writer.specs.Answers.{Appends}
use Rattle.batch.specs.declared.answers.Batched.{Batched}
use Rattle.batch.specs.Batch.{Batch, IntegersIn, entries_in}
use Rattle.batch.specs.Rules.{batch_rules, batch_refusal}
use Rattle.batch.specs.Answers.{AppendsBatch}
use Rattle.handing.specs.Parts.{bytes_of}
use Rattle.update.specs.Rules.{content_refusal}
use Rattle.update.specs.Answers.{Update, space_of, padded, update_at, place_named, Updates}
use Rattle.listing.specs.Text.{joined}
use Rattle.listing.specs.Listing.{listing_of, over_limit, output_of, Lists, Prints}
use Rattle.listing.specs.Lines.{lines_in, AllLines, listing_lines, LeavesLines}
use Rattle.listing.proofs.Lines.{rows-count}
use Rattle.listing.proofs.Listings.{fit_count, fit-filled, output-within, output-over}
use Rattle.listing.proofs.Room.{room}
use Rattle.promises.specs.Contents.{entries_of, Reading, holds, reading_of, contents}
use Rattle.promises.specs.Calls.{Call, batch, AllFit, batched, run, answers, handed_content, added, accepted}
use Rattle.promises.specs.Tables.{validate_tests, create_tests, open_tests, update_tests, append_tests, in_turn_tests, batch_tests}
use Rattle.promises.specs.Demand.{Start}
use Rattle.promises.specs.Regions.{Sound}
use Rattle.promises.specs.FileA.{A}
use Rattle.promises.specs.Examples.{entry, with_section, without_section, Differ}
use Rattle.promises.proofs.Each.{each-kept}
use Rattle.updated.proofs.Rewritten.{by-update, beside-stays, space-holds}
use Rattle.promises.proofs.Making.{entries-shown}
use Rattle.promises.proofs.Series.{run_sound, run-count}
use Rattle.promises.proofs.AppendNumbers.{accepted-file, answer-there, number-there}
use Rattle.promises.proofs.NewEntry.{reading-new}
use Rattle.promises.proofs.OrderSound.{order-sound}
use Rattle.promises.proofs.Demand3.{start-ordered, demand-3}
use Rattle.promises.proofs.Batches.{batch-all}
use Rattle.promises.proofs.RefusalMeans.{validate-means, create-means, open-means, update-means, append-means, batch-means}
use Rattle.promises.proofs.WorkedExamples.{first-entries, entries-differ}
use Rattle.promises.proofs.ListedLines.{over-line, listing-each, listing-joined, leaves_lines}

-- ---- a reader that refuses everything

module _ (read : List ℕ → Validation) (meets : (file : List ℕ) → Answers (validation_of file) (read file)) where
  -- every file whose tests all hold is accepted
  pub accepts-good-files : (file : List ℕ) → AllHold (validate_tests file) → (read file).refusal ≡ 0
  accepts-good-files file all = ap (λ (v : Validation). v.refusal) (meets file) ∙ (validate-means file).accepted all

-- ---- an open that refuses everything, or gives one fixed entry

module _ (enter : List ℕ → EntryNumber → Opened) (meets : (file : List ℕ) (e : EntryNumber) → Answers (open_of file e) (enter file e)) where
  -- every entry whose tests all hold opens
  pub opens-good-entries : (file : List ℕ) (e : EntryNumber) → AllHold (open_tests file e) → (open_case (enter file e).answer).refusal ≡ 0
  opens-good-entries file e all = ap (λ (o : Opened). (open_case o.answer).refusal) (meets file e) ∙ (open-means file e).accepted all

  -- two entries that open, of which one has a section and the other has none, are not one and the same
  told-apart : (file other : List ℕ) (e f : EntryNumber) → Differ (open_of file e).answer (open_of other f).answer → enter file e ≡ enter other f → ⊥
  told-apart file other e f differ same =
      let equal = ap (λ (o : Opened). (open_case o.answer).nsec) (sym (meets file e) ∙ same ∙ meets other f) in
      omega (arith, differ.0, differ.1, equal)

  -- such are the first entries of two files
  pub opens-differ : enter with_section (entry 1) ≡ enter without_section (entry 1) → ⊥
  opens-differ = told-apart with_section without_section (entry 1) (entry 1) first-entries

  -- and entries 1 and 2 of one file, file A
  pub opens-of-one-file-differ : enter A (entry 1) ≡ enter A (entry 2) → ⊥
  opens-of-one-file-differ = told-apart A A (entry 1) (entry 2) entries-differ

-- ---- a writer that refuses everything

module _ (answer : List ℕ → Settings → ℕ) (after : List ℕ → Settings → List ℕ) (meets : (file : List ℕ) (s : Settings) → Creates file s (answer file s) (after file s)) where
  -- every creation whose tests all hold is accepted
  pub creates-good-files : (file : List ℕ) (s : Settings) → AllHold (create_tests (length file) s) → answer file s ≡ 0
  creates-good-files file s all = (meets file s).0 ∙ (create-means (length file) s).accepted all

module _ (answer : List ℕ → Handed → Appended) (after : List ℕ → Handed → List ℕ) (meets : (file : List ℕ) (h : Handed) → Appends file h (answer file h) (after file h)) where
  -- every append whose tests all hold is accepted
  pub appends-good-entries : (file : List ℕ) (h : Handed) → AllHold (append_tests file h) → (answer file h).refusal ≡ 0
  appends-good-entries file h all = ap (λ (x : Appended). x.refusal) (meets file h).0 ∙ (append-means file h).accepted all

  -- ---- an append that answers a number and writes nothing, or that stores only the first entry and afterwards only raises xnext

  -- after every accepted append, to whatever file, its number finds what was handed in
  pub append-stores : (file : List ℕ) (h : Handed) → Integers h → (answer file h).refusal ≡ 0 → reading_of (after file h) (answer file h).number ≡ holds (handed_content h)
  append-stores file h g r =
      let given = (meets file h).0 in
      let q = sym (ap (λ (x : Appended). x.refusal) given) ∙ r in
      let z = accepted-file file h q in
      let a = sym (answer-there file h z) ∙ q in
      let number = ap (λ (x : Appended). x.number) given ∙ number-there file h z a in
      (λ i. reading_of ((meets file h).1 i) (number i)) ∙ reading-new file h g z a

  -- so also after a second append, and on
  pub second-stored : (file : List ℕ) (h k : Handed) → Integers k → (answer (after file h) k).refusal ≡ 0
      → reading_of (after (after file h) k) (answer (after file h) k).number ≡ holds (handed_content k)
  second-stored file h k g r = append-stores (after file h) k g r

-- ---- a batch that refuses everything, or stores other entries than its own

module _ (answer : List ℕ → Batch → Batched) (after : List ℕ → Batch → List ℕ) (meets : (file : List ℕ) (b : Batch) → AppendsBatch file b (answer file b) (after file b)) where
  -- every batch whose tests all hold is accepted whole
  pub batches-good-entries : (file : List ℕ) (b : Batch) → AllHold (batch_tests file b) → answer file b ≡ record { refusal = 0; accepted = length (entries_in b) }
  unfolding batch_refusal
  batches-good-entries file b all =
      let given = refusal-none (batch_rules b) (hold-split (batch_rules b) (in_turn_tests file (entries_in b)) all).0 in
      let z = (batch-means file b).accepted all in
      (meets file b).0 ∙ (λ i. record { refusal = z i; accepted = batch-all file b given z i })

  -- after a batch, also one that is refused, the file has its contents and then those of the batch's first entries, as many as the answer says
  pub batch-stores : (file : List ℕ) (b : Batch) → IntegersIn b → Start file
      → contents (after file b) ≡ contents file ++ map (λ h. holds (handed_content h)) (take (answer file b).accepted (entries_in b))
  batch-stores file b g start =
      ap contents (meets file b).1
      ∙ (demand-3 (batch b ∷ []) (g, tt) file start).kept
      ∙ ap₂ (λ (readings : List Reading) (a : Batched). readings ++ added (batch b) (batched a)) (each-kept (λ k r. r) 1 (contents file) (λ i l r. refl)) (sym (meets file b).0)

-- ---- an update that refuses everything, or an exact fit, that leaves old bytes in the space, or that changes a byte outside it

module _ (answer : List ℕ → Update → ℕ) (after : List ℕ → Update → List ℕ) (meets : (file : List ℕ) (u : Update) → Updates file u (answer file u) (after file u)) where
  -- every update whose tests all hold is accepted
  pub updates-good-content : (file : List ℕ) (u : Update) → AllHold (update_tests file u) → answer file u ≡ 0
  updates-good-content file u all = (meets file u).0 ∙ (update-means file u).accepted all

  -- so is content of whole words, not empty and no larger than the space of the section: also an exact fit
  pub updates-what-fits : (file : List ℕ) (u : Update) → let n = length u.content in
      (place_named file u).refusal ≡ 0 → 1 ≤ n → n % 4 ≡ 0 → n ≤ space_of (place_named file u) → answer file u ≡ 0
  unfolding update_at content_refusal
  updates-what-fits file u z some whole fits =
      let n = length u.content in
      (meets file u).0 ∙ rw (z, le-leb 1 n some, eq-eqb (n % 4) 0 whole, le-leb n (space_of (place_named file u)) fits)

  -- after an accepted update the whole space holds the content, and zeros in the rest
  pub update-fills : (file : List ℕ) (u : Update) → answer file u ≡ 0 → let p = place_named file u in bytes_of (after file u) p ≡ padded u.content (space_of p)
  update-fills file u r = rw (meets file u).1 (space-holds file u (sym (meets file u).0 ∙ r))

  -- after any update, accepted or refused, every run of bytes beside the space is as it was
  pub update-spares : (file : List ℕ) (u : Update) (at n : ℕ) → let p = place_named file u in Beside at n p.start (space_of p) → part (after file u) at n ≡ part file at n
  update-spares file u at n beside = rw (meets file u).1 (by-update file u (λ z. beside-stays file u z at n beside) (λ same. rw same))

-- ---- a listing with a made-up number of entries

-- an admitted file's listing has a line for the header, and one for each of its xnext - 1 entries
lines-there : (file : List ℕ) → length (listing_lines file) ≡ 1 + entries_before (numbers_of file).xnext
lines-there file = omega (arith, rows-count file (numbers_of file) (addresses_of file (numbers_of file).nex))

-- after a series of calls the file is admitted, and its listing has the starting lines and one for each accepted entry
module _ (calls : List Call) (g : AllFit calls) (file : List ℕ) (start : Start file) where
  abbrev new : List ℕ
  new = run calls file

  abbrev sound : Sound file
  sound = order-sound file (start-ordered file start)

  admitted-then : file_refusal new ≡ 0
  admitted-then = (run_sound calls g file sound).admitted

  lines_then : 1 + entries_before (numbers_of new).xnext ≡ 1 + entries_of file + length (accepted calls (answers calls file))
  lines_then = omega (arith, run-count calls g file sound, entries-shown new (run_sound calls g file sound))

module _ (answer : List ℕ → List ℕ → ℕ) (after : List ℕ → List ℕ → List ℕ) (meets : (file out : List ℕ) → Lists file out (answer file out) (after file out)) where
  -- a buffer that is long enough starts with the lines of the listing, as many bytes as the answer says; the bytes behind stay
  pub lists-lines : (file out : List ℕ) → file_refusal file ≡ 0 → length (listing_of file) ≤ length out → LeavesLines (listing_lines file) out (answer file out) (after file out)
  lists-lines file out z l =
      leaves_lines (listing_lines file) (listing-each file) (listing_of file) out (answer file out) (after file out) (listing-joined file z) l
      ((meets file out).0 ∙ fit_count (listing_of file) out l) ((meets file out).1 ∙ fit-filled (listing_of file) out l)

  -- so it has 1 + (xnext - 1) lines
  pub lists-all-entries : (file out : List ℕ) → file_refusal file ≡ 0 → length (listing_of file) ≤ length out
      → lines_in (take (answer file out) (after file out)) ≡ 1 + entries_before (numbers_of file).xnext
  lists-all-entries file out z l = (lists-lines file out z l).count ∙ lines-there file

  -- and after a series of calls the starting lines and one for each accepted entry
  pub lists-accepted-entries : (calls : List Call) → AllFit calls → (file : List ℕ) → Start file → (out : List ℕ) → length (listing_of (run calls file)) ≤ length out
      → lines_in (take (answer (run calls file) out) (after (run calls file) out)) ≡ 1 + entries_of file + length (accepted calls (answers calls file))
  lists-accepted-entries calls g file start out l = lists-all-entries (run calls file) out (admitted-then calls g file start) l ∙ lines_then calls g file start

-- the same of what the program prints, in a buffer that holds what is printed of any input
module _ (answer : List ℕ → List ℕ → ℕ) (after : List ℕ → List ℕ → List ℕ) (meets : (input out : List ℕ) → Prints input out (answer input out) (after input out))
    (out : List ℕ) (room-there : 196608 ≤ length out) where
  prints : (input : List ℕ) (lines : List (List ℕ)) → AllLines lines → output_of input ≡ joined lines → LeavesLines lines out (answer input out) (after input out)
  prints input lines all e =
      leaves_lines lines all (output_of input) out (answer input out) (after input out) e (omega (arith, room input)) (meets input out).0 (meets input out).1

  -- an input over the limit has one line
  pub prints-over : (input : List ℕ) → 65536 < length input → LeavesLines (over_limit ∷ []) out (answer input out) (after input out)
  prints-over input l = prints input (over_limit ∷ []) (over-line, tt) (output-over input l ∙ sym (append-nil over_limit))

  -- an admitted file has the lines of its listing
  pub prints-lines : (input : List ℕ) → length input ≤ 65536 → file_refusal input ≡ 0 → LeavesLines (listing_lines input) out (answer input out) (after input out)
  prints-lines input l z = prints input (listing_lines input) (listing-each input) (output-within input l ∙ listing-joined input z)

  -- so it has 1 + (xnext - 1) lines
  pub prints-all-entries : (input : List ℕ) → length input ≤ 65536 → file_refusal input ≡ 0
      → lines_in (take (answer input out) (after input out)) ≡ 1 + entries_before (numbers_of input).xnext
  prints-all-entries input l z = (prints-lines input l z).count ∙ lines-there input

  -- and after a series of calls the starting lines and one for each accepted entry
  pub prints-accepted-entries : (calls : List Call) → AllFit calls → (file : List ℕ) → Start file → length (run calls file) ≤ 65536
      → lines_in (take (answer (run calls file) out) (after (run calls file) out)) ≡ 1 + entries_of file + length (accepted calls (answers calls file))
  prints-accepted-entries calls g file start l = prints-all-entries (run calls file) l (admitted-then calls g file start) ∙ lines_then calls g file start
