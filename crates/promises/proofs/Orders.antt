-- The order shows in a file's bytes alone: two creations with the same settings but for the order, and the same calls on each, answer the same and
-- leave the same contents. Assumes nothing.
use Prim.Native.Nat.{ℕ, ◌+◌}
use mathlib.Core.Path.{◌≡◌, refl, sym, ap, ap₂, ◌∙◌}
use mathlib.Core.Bool.{cond}
use mathlib.Core.List.{List, [], ◌∷◌}
use borrow.Author.Tests.{eqb-true, eqb-false}
use lib.Dec.{eqb}
use lib.IntN.{ℤ}
use lib.ListN.{length}
use Rattle.outcome.proofs.Either.{either}
use Rattle.words.specs.declared.byte_order.ByteOrder.{ByteOrder}
use Rattle.words.specs.Word.{integer4, bits_of}
use Rattle.geometry.specs.declared.units.RecordNumber.{RecordNumber}
use Rattle.geometry.specs.declared.units.EntryNumber.{EntryNumber}
use Rattle.descriptor.specs.declared.numbers.Settings.{Settings}
use Rattle.descriptor.specs.declared.numbers.DescriptorNumbers.{DescriptorNumbers}
use Rattle.descriptor.specs.FirstRecord.{numbers_of, created_of, addresses_of}
use Rattle.descriptor.specs.Rules.{file_refusal}
use Rattle.descriptor.proofs.Answered.{answer-numbers}
use Rattle.placing.specs.Placing.{full, new_area, after_new_area, entry_start, nex_after, numbers_after, addresses_after}
use Rattle.storing.specs.Handed.{Handed, nword_in}
use Rattle.writer.specs.declared.answers.Appended.{Appended}
use Rattle.writer.specs.Rules.{append_refusal}
use Rattle.writer.specs.Answers.{appended_from, append_in, append_of, file_after}
use Rattle.writer.specs.Creation.{creation_refusal, created_file}
use Rattle.batch.specs.Batch.{Batch, entries_in}
use Rattle.batch.specs.Rules.{batch_refusal}
use Rattle.batch.specs.Answers.{answer_in_turn, file_in_turn, batch_of, file_after_batch}
use Rattle.update.specs.Answers.{Update, file_after_update}
use Rattle.written.proofs.ReadBack.{Shown, shows, admits, file-written, append-shows}
use Rattle.written.proofs.AppendLeaves.{left}
use Rattle.written.proofs.CreatedBack.{no_addresses, length-created, created-validated}
use Rattle.promises.specs.Contents.{Reading, contents}
use Rattle.promises.specs.Calls.{Call, append, batch, update, AllFit, appended, batched, updated, answer_of, after_call, run, answers, contents_after}
use Rattle.promises.specs.Orders.{settings_with, numbers_with}
use Rattle.promises.specs.Regions.{Sound}
use Rattle.promises.proofs.AppendNumbers.{by_answer}
use Rattle.promises.proofs.RefusedAnswers.{append-kept}
use Rattle.promises.proofs.CreatedSound.{created-sound, created-empty}
use Rattle.updated.proofs.Rewritten.{update-length}
use Rattle.updated.proofs.EntryAfter.{update-validates}
use Rattle.promises.specs.UpdateAnswers.{answer_from}
use Rattle.promises.proofs.UpdatesAnswered.{update-answered}
use Rattle.promises.proofs.Series.{call-makes, call-contents}

-- ---- what an append makes of numbers with another order

module _ (o : ByteOrder) (d : DescriptorNumbers) where
  -- its refusal is the same
  refusal-same : (bytes : ℕ) (h : Handed) → append_refusal bytes (numbers_with o d) h ≡ append_refusal bytes d h
  unfolding append_refusal full entry_start after_new_area new_area
  refusal-same bytes h = refl

  -- so are the numbers after it, but for the order
  numbers-same : (h : Handed) → numbers_after (numbers_with o d) (entry_start (numbers_with o d) + nword_in h) ≡ numbers_with o (numbers_after d (entry_start d + nword_in h))
  unfolding numbers_after nex_after full entry_start after_new_area new_area
  numbers-same h = refl

  -- and the addresses
  addresses-same : (addresses : List RecordNumber) → addresses_after (numbers_with o d) addresses ≡ addresses_after d addresses
  unfolding addresses_after full new_area
  addresses-same addresses = refl

-- ---- two files that differ in their order alone, as validating sees them

-- both are admitted, and the second has the numbers and addresses of the first, but for the order o
record Twins (o : ByteOrder) (f g : List ℕ) : Type 0 where
  size : length g ≡ length f
  first : file_refusal f ≡ 0
  second : file_refusal g ≡ 0
  numbers : numbers_of g ≡ numbers_with o (numbers_of f)
  addresses : addresses_of g (numbers_of g).nex ≡ addresses_of f (numbers_of f).nex

-- so it is with two files that show such numbers
twins-shown : {o : ByteOrder} {f g : List ℕ} {d d' : DescriptorNumbers} {areas areas' : List RecordNumber} → length g ≡ length f → Shown f d areas → Shown g d' areas'
    → d' ≡ numbers_with o d → areas' ≡ areas → Twins o f g
twins-shown {o} size p q numbers addresses = record {
  size = size;
  first = p.admitted;
  second = q.admitted;
  numbers = q.numbers ∙ numbers ∙ ap (numbers_with o) (sym p.numbers);
  addresses = q.table ∙ addresses ∙ sym p.table;
}

-- the answer of an append, by its refusal and the number of the next entry
abbrev answered : ℕ → EntryNumber → Appended
answered n e = record { refusal = n; number = cond (eqb n 0) e (record { 0 = 0 }) }

answer-by : (file : List ℕ) (h : Handed) → file_refusal file ≡ 0 → append_of file h ≡ answered (append_refusal (length file) (numbers_of file) h) (numbers_of file).xnext
unfolding append_in appended_from
answer-by file h z =
    let n = append_refusal (length file) (numbers_of file) h in
    rw (answer-numbers file z) (either (eqb n 0) (λ q. rw (q, eqb-true n 0 q)) (λ q. rw q))

-- an accepted append leaves the length
append-size : (file : List ℕ) (h : Handed) (z : file_refusal file ≡ 0) → append_refusal (length file) (numbers_of file) h ≡ 0 → length (file_after file h) ≡ length file
append-size file h z a = ap length (file-written file h z a) ∙ (left file (admits file h z a)).size

-- ---- one append to each

module _ {o : ByteOrder} {f g : List ℕ} (t : Twins o f g) (h : Handed) where
  -- its refusal is the same
  refusals-same : append_refusal (length g) (numbers_of g) h ≡ append_refusal (length f) (numbers_of f) h
  refusals-same = rw (t.size, t.numbers) (refusal-same o (numbers_of f) (length f) h)

  -- so is its answer
  answers-same : append_of g h ≡ append_of f h
  answers-same =
      answer-by g h t.second
      ∙ ap₂ answered refusals-same (ap (λ (d : DescriptorNumbers). d.xnext) t.numbers)
      ∙ sym (answer-by f h t.first)

  -- and the files after it differ in their order alone
  twins-after : Twins o (file_after f h) (file_after g h)
  twins-after =
      by_answer f h t.first
      (λ a q.
      let b = refusals-same ∙ a in
      twins-shown (append-size g h t.second b ∙ t.size ∙ sym (append-size f h t.first a)) (append-shows f h t.first a) (append-shows g h t.second b)
      (rw t.numbers (numbers-same o (numbers_of f) h))
      (rw (t.addresses, t.numbers) (addresses-same o (numbers_of f) (addresses_of f (numbers_of f).nex))))
      (λ same q.
      let other = append-kept g h (λ e. eqb-false (append_of f h).refusal 0 q (ap (λ (x : Appended). x.refusal) (sym answers-same) ∙ e)) in
      rw (same, other) t)

-- ---- a batch to each

-- appends in turn answer the same, and leave such files again
turns_same : (hs : List Handed) (n : ℕ) {o : ByteOrder} {f g : List ℕ} → Twins o f g → (answer_in_turn n g hs ≡ answer_in_turn n f hs) × Twins o (file_in_turn f hs) (file_in_turn g hs)
turns_same [] n t = (refl, t)
turns_same (h ∷ hs) n {f} t =
    either (eqb (append_of f h).refusal 0) (λ q. rw (answers-same t h, q) (turns_same hs (n + 1) (twins-after t h))) (λ q. rw (answers-same t h, q) (refl, t))

-- so does a batch
batch-same : (b : Batch) {o : ByteOrder} {f g : List ℕ} → Twins o f g → (batch_of g b ≡ batch_of f b) × Twins o (file_after_batch f b) (file_after_batch g b)
unfolding batch_of file_after_batch
batch-same b t = either (eqb (batch_refusal b) 0) (λ q. rw q (turns_same (entries_in b) 0 t)) (λ q. rw q (refl, t))

-- ---- an update to each

-- it leaves what validating shows
update-shows : (file : List ℕ) (u : Update) → file_refusal file ≡ 0 → Shown (file_after_update file u) (numbers_of file) (addresses_of file (numbers_of file).nex)
update-shows file u z = shows (file_after_update file u) (numbers_of file) (addresses_of file (numbers_of file).nex) (update-validates file u ∙ answer-numbers file z)

-- so the files after it differ in their order alone
update-twins : (u : Update) {o : ByteOrder} {f g : List ℕ} → Twins o f g → Twins o (file_after_update f u) (file_after_update g u)
update-twins u {f} {g} t =
    twins-shown (update-length g u ∙ t.size ∙ sym (update-length f u)) (update-shows f u t.first) (update-shows g u t.second) t.numbers t.addresses

-- ---- a series of calls

-- two such files, both sound, with the same contents
record Alike (o : ByteOrder) (f g : List ℕ) : Type 0 where
  twins : Twins o f g
  first : Sound f
  second : Sound g
  same : contents g ≡ contents f

-- a call answers the same, and leaves such files again; what an update answers is fixed by the contents
call_same : (c : Call) {o : ByteOrder} {f g : List ℕ} → Alike o f g → (answer_of g c ≡ answer_of f c) × Twins o (after_call f c) (after_call g c)
call_same (append h) a = (ap appended (answers-same a.twins h), twins-after a.twins h)
call_same (batch b) a = let s = batch-same b a.twins in (ap batched s.0, s.1)
call_same (update u) {f} {g} a =
    let answer = update-answered g a.twins.second u ∙ ap (λ (readings : List Reading). answer_from readings u) a.same ∙ sym (update-answered f a.twins.first u) in
    (ap updated answer, update-twins u a.twins)

-- so does a series
series-same : (calls : List Call) → AllFit calls → {o : ByteOrder} {f g : List ℕ} → Alike o f g → (answers calls g ≡ answers calls f) × (contents (run calls g) ≡ contents (run calls f))
series-same [] fits a = (refl, a.same)
series-same (c ∷ cs) fits {o} {f} {g} a =
    let s = call_same c a in
    let next : Alike o (after_call f c) (after_call g c) = record {
      twins = s.1;
      first = (call-makes f a.first c fits.0).sound;
      second = (call-makes g a.second c fits.0).sound;
      same = call-contents g a.second c fits.0 ∙ ap₂ (contents_after c) s.0 a.same ∙ sym (call-contents f a.first c fits.0);
    } in
    let others = series-same cs fits.1 next in
    (λ i. s.0 i ∷ others.0 i, others.1)

-- two creations with the same settings, each in its own order and in a buffer of its own, and the same calls on each: the answers and the contents are the same
module _ (s : Settings) (o p : ℤ) (f g : List ℕ) (size : length g ≡ length f)
    (made : creation_refusal (length f) (settings_with o s) ≡ 0) (other : creation_refusal (length g) (settings_with p s) ≡ 0) where
  abbrev one : List ℕ
  one = created_file f (settings_with o s)

  abbrev two : List ℕ
  two = created_file g (settings_with p s)

  created-twins : Twins (record { 0 = bits_of integer4 p }) one two
  unfolding created_of
  created-twins =
      twins-shown (length-created g (settings_with p s) other ∙ size ∙ sym (length-created f (settings_with o s) made))
      (shows one (created_of (settings_with o s)) no_addresses (created-validated f (settings_with o s) made))
      (shows two (created_of (settings_with p s)) no_addresses (created-validated g (settings_with p s) other)) refl refl

  created-alike : Alike (record { 0 = bits_of integer4 p }) one two
  created-alike = record {
    twins = created-twins;
    first = created-sound f (settings_with o s) made;
    second = created-sound g (settings_with p s) other;
    same = created-empty g (settings_with p s) other ∙ sym (created-empty f (settings_with o s) made);
  }

  -- the answers
  pub order-answers : (calls : List Call) → AllFit calls → answers calls two ≡ answers calls one
  order-answers calls fits = (series-same calls fits created-alike).0

  -- the contents
  pub order-contents : (calls : List Call) → AllFit calls → contents (run calls two) ≡ contents (run calls one)
  order-contents calls fits = (series-same calls fits created-alike).1
