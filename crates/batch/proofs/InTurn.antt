-- Appends in turn, from numbers at hand: what stands before each of them, and what each does. Assumes nothing.
use Rattle.std.specs.Prelude.{Ok, Err}
use Prim.Native.Nat.{ℕ, ◌+◌, ◌≤◌, ◌<◌}
use mathlib.Core.Path.{◌≡◌, refl, sym, ap, ◌∙◌}
use mathlib.Core.List.{List, [], ◌∷◌}
use native.Mathlib.Omega.{arith}
use borrow.Author.Tests.{eqb-true, eq-eqb, ne_eqb}
use lib.Dec.{eqb}
use lib.IntN.{ℤ, pos}
use lib.ListN.{length, get_or, drop, length-drop}
use Rattle.outcome.specs.declared.refusal.Refusal.{Refusal}
use Rattle.outcome.specs.Refusal.{number_of}
use Rattle.outcome.proofs.Refusals.{number-positive}
use Rattle.outcome.proofs.Either.{either}
use Rattle.descriptor.specs.declared.numbers.DescriptorNumbers.{DescriptorNumbers}
use Rattle.descriptor.specs.FirstRecord.{numbers_of, addresses_of}
use Rattle.descriptor.specs.Rules.{file_refusal}
use Rattle.descriptor.proofs.Refusals.{all_hold}
use Rattle.storing.specs.Handed.{Handed}
use Rattle.writer.specs.declared.answers.Appended.{Appended}
use Rattle.writer.specs.Rules.{append_refusal}
use Rattle.writer.specs.Answers.{appended_from, file_from, append_of, file_after}
use Rattle.batch.specs.declared.counts.Counts.{Counts}
use Rattle.batch.specs.Batch.{Laid, Batch, count_in, index_bytes, id_count, length_count, section_bytes, data_bytes, together, entries_in}
use Rattle.batch.specs.Rules.{batch_rules, batch_refusal}
use Rattle.batch.specs.Taking.{counts_of, counts_laid, Within, entry_taken, left_behind, AppendsNext}
use Rattle.batch.specs.Answers.{answer_in_turn, file_in_turn, AppendsInTurn}
use Rattle.batch.proofs.Together.{together-next}
use Rattle.batch.proofs.Entries.{entries_from, entries_next, entries-done}
use Rattle.batch.proofs.Appending.{answer-from, file-from, kept_from, validates-from}

-- rows use up what is laid
pub record UsesUp (rows : List (List ℕ)) (x : Laid) : Type 0 where
  pub index : together index_bytes rows ≡ length x.index
  pub ids : together id_count rows ≡ length x.ids
  pub lengths : together length_count rows ≡ length x.lengths
  pub sections : together section_bytes rows ≡ length x.sections
  pub values : together data_bytes rows ≡ length x.values

-- the refusal of an append is that of its answer
answer-refusal : (bytes : ℕ) (d : DescriptorNumbers) (h : Handed) → (appended_from bytes d h).refusal ≡ append_refusal bytes d h
unfolding appended_from
answer-refusal bytes d h =
    either (eqb (append_refusal bytes d h) 0) (λ q. rw q (sym (eqb-true (append_refusal bytes d h) 0 q))) (λ q. rw q)

module _ (first : List ℕ) (b : Batch) where
  -- before entry k, counted from 0: the entries before it were accepted, and what the batch does is what those from here on do to the file as it is
  pub record Before (file : List ℕ) (d : DescriptorNumbers) (x : Laid) (k : ℕ) : Type 0 where
    pub within : k ≤ length b.versions
    pub rows : length b.counts ≡ length b.versions
    pub shown : file_refusal file ≡ 0
    pub numbers : d ≡ numbers_of file
    pub left : UsesUp (drop k b.counts) x
    pub answer : answer_in_turn 0 first (entries_in b) ≡ answer_in_turn k file (entries_from b k x)
    pub leaves : file_in_turn first (entries_in b) ≡ file_in_turn file (entries_from b k x)

  -- so it is before the first, where the batch passed its rules
  pub before-first : (d : DescriptorNumbers) → file_refusal first ≡ 0 → d ≡ numbers_of first → batch_refusal b ≡ 0 → Before first d b.laid 0
  unfolding batch_refusal
  before-first d z own e =
      let a = all_hold (batch_rules b) (omega arith) e in
      let x = b.laid in
      record {
        within = omega arith;
        rows = eqb-true (length b.counts) (length b.versions) a.1.0;
        shown = z;
        numbers = own;
        left = record {
          index = eqb-true (together index_bytes b.counts) (length x.index) a.1.1.0;
          ids = eqb-true (together id_count b.counts) (length x.ids) a.1.1.1.0;
          lengths = eqb-true (together length_count b.counts) (length x.lengths) a.1.1.1.1.0;
          sections = eqb-true (together section_bytes b.counts) (length x.sections) a.1.1.1.1.1.0;
          values = eqb-true (together data_bytes b.counts) (length x.values) a.1.1.1.1.1.1.0;
        };
        answer = refl;
        leaves = refl;
      }

  module _ {file : List ℕ} {d : DescriptorNumbers} {x : Laid} {k : ℕ} (p : Before file d x k) where
    -- past the last: all were accepted
    pub all-accepted : length b.versions ≤ k → AppendsInTurn first (entries_in b) (record { refusal = 0; accepted = length b.versions }) file
    all-accepted h =
        let last : k ≡ length b.versions = omega (arith, p.within) in
        let done = entries-done b k x h in
        (sym (p.answer ∙ ap (answer_in_turn k file) done ∙ rw last), sym (p.leaves ∙ ap (file_in_turn file) done))

    module _ (h : k < length b.versions) where
      -- how much entry k takes
      abbrev pub counts : Counts
      counts = counts_of (get_or b.counts k [])

      -- and its version
      abbrev pub version : ℤ
      version = get_or b.versions k (pos 0)

      abbrev entry : Handed
      entry = entry_taken version counts x

      used : (column : ℕ) → together column (drop k b.counts) ≡ count_in (get_or b.counts k []) column + together column (drop (k + 1) b.counts)
      used column = together-next column b.counts k (omega (arith, h, p.rows))

      -- there is as much
      pub entry-within : Within counts (counts_laid x)
      entry-within =
          let l = p.left in
          record {
            index = omega (arith, l.index, used index_bytes);
            ids = omega (arith, l.ids, used id_count);
            lengths = omega (arith, l.lengths, used length_count);
            sections = omega (arith, l.sections, used section_bytes);
            values = omega (arith, l.values, used data_bytes);
          }

      rest : entries_from b k x ≡ entry ∷ entries_from b (k + 1) (left_behind counts x)
      rest = entries_next b k x h p.rows

      -- the refusal of its append is that by the numbers at hand
      by-numbers : (append_of file entry).refusal ≡ append_refusal (length file) d entry
      by-numbers =
          ap (λ (q : Appended). q.refusal) (answer-from file entry p.shown ∙ ap (λ (n : DescriptorNumbers). appended_from (length file) n entry) (sym p.numbers))
          ∙ answer-refusal (length file) d entry

      -- and it leaves the same file
      left-file : (after : List ℕ) → after ≡ file_from file d (addresses_of file d.nex) entry → file_after file entry ≡ after
      left-file after m =
          file-from file entry p.shown ∙ ap (λ (n : DescriptorNumbers). file_from file n (addresses_of file n.nex) entry) (sym p.numbers) ∙ sym m

      -- refused, it ends the batch
      pub ended : (r : Refusal) (after : List ℕ) → AppendsNext file d entry (Err r) after → AppendsInTurn first (entries_in b) (record { refusal = number_of r; accepted = k }) after
      ended r after m =
          let answered = by-numbers ∙ sym m.0 in
          let stop = ap (λ (n : ℕ). eqb n 0) answered ∙ ne_eqb (number_of r) 0 (number-positive r) in
          let same = sym (left-file after m.1) ∙ kept_from file entry p.shown (λ q. number-positive r (sym answered ∙ q)) in
          (sym (p.answer ∙ ap (answer_in_turn k file) rest ∙ rw (stop, answered)), same ∙ sym (p.leaves ∙ ap (file_in_turn file) rest ∙ rw stop))

      -- accepted, it leaves what stands before the next
      pub before-next : (n : DescriptorNumbers) (after : List ℕ) → AppendsNext file d entry (Ok n) after → Before after n (left_behind counts x) (k + 1)
      before-next n after m =
          let go = ap (λ (i : ℕ). eqb i 0) by-numbers ∙ eq-eqb (append_refusal (length file) d entry) 0 m.0.0 in
          let there = left-file after m.1 in
          let l = p.left in
          record {
            within = omega (arith, h);
            rows = p.rows;
            shown = rw there at (validates-from file entry p.shown);
            numbers = m.0.1;
            left = record {
              index = rw length-drop (omega (arith, l.index, used index_bytes));
              ids = rw length-drop (omega (arith, l.ids, used id_count));
              lengths = rw length-drop (omega (arith, l.lengths, used length_count));
              sections = rw length-drop (omega (arith, l.sections, used section_bytes));
              values = rw length-drop (omega (arith, l.values, used data_bytes));
            };
            answer = p.answer ∙ ap (answer_in_turn k file) rest ∙ rw (go, there);
            leaves = p.leaves ∙ ap (file_in_turn file) rest ∙ rw (go, there);
          }
