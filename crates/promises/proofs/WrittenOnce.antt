-- The writes of an append (Q-6 of 02): the file after an accepted one is the file after its writes, in their order, and no word of the file is written twice. Assumes nothing.
use Prim.Native.Nat.{ℕ, ◌+◌, ◌*◌, ◌%◌, ◌≤◌}
use mathlib.Core.Path.{◌≡◌, sym, ◌∙◌}
use mathlib.Core.Logic.{inl, inr}
use mathlib.Core.Bool.{false, and-eq-true_iff, and-false}
use mathlib.Core.List.{List, [], ◌∷◌, ◌++◌}
use native.Mathlib.Omega.{arith}
use borrow.Author.Tests.{ltb-true, le-ltb}
use lib.Dec.{ltb}
use lib.ListN.{length}
use Rattle.outcome.proofs.Either.{either}
use Rattle.image.specs.Writes.{Write, put, writes, Apart, PairwiseApart}
use Rattle.image.proofs.Splice.{length-zeros}
use Rattle.image.proofs.Writes.{Beside}
use Rattle.words.proofs.Number.{length-numeral}
use Rattle.geometry.specs.Units.{place_of}
use Rattle.descriptor.specs.FirstRecord.{numbers_of, addresses_of}
use Rattle.descriptor.specs.Rules.{file_refusal}
use Rattle.layout.specs.EntryWords.{first_content}
use Rattle.placing.specs.Placing.{full, entry_start}
use Rattle.fields.specs.FieldWrites.{count_writes}
use Rattle.storing.specs.Handed.{Handed}
use Rattle.storing.specs.Writing.{head_from, head_of, head_writes, table_writes}
use Rattle.storing.specs.AsMade.{pieces_writes, index_writes, rest_writes}
use Rattle.storing.specs.Bounds.{Accepted}
use Rattle.storing.proofs.TableBytes.{length-identifier_bytes, length-length_bytes, length-address_bytes}
use Rattle.storing.proofs.Accepting.{after, addresses_then}
use Rattle.storing.proofs.Made.{made-apart, made-appended}
use Rattle.writer.specs.Rules.{append_refusal}
use Rattle.writer.specs.Answers.{append_of, file_after}
use Rattle.written.proofs.ReadBack.{admits, file-written}
use Rattle.promises.specs.WrittenOnce.{writes_of, reaches, times_written}
use Rattle.promises.proofs.AppendNumbers.{accepted-file, answer-there}

-- ---- writes of whole words that are pairwise apart

-- each write starts at a word and writes whole words
abbrev Whole : List Write → Type 0
Whole [] = Unit
Whole (put at ys ∷ ws) = (at % 4 ≡ 0) × (length ys % 4 ≡ 0) × Whole ws

whole_append : (us vs : List Write) → Whole us → Whole vs → Whole (us ++ vs)
whole_append [] vs p q = q
whole_append (put at ys ∷ us) vs p q = (p.0, p.1, whole_append us vs p.2 q)

module _ (word : ℕ) where
  -- writes apart from bytes that the word is among do not reach it
  never : (a n : ℕ) (ws : List Write) → a ≤ 4 * word → 4 * (word + 1) ≤ a + n → Apart a n ws → times_written word ws ≡ 0
  never a n [] low high p = omega arith
  never a n (put at ys ∷ ws) low high p = rw (one p.0) (omega (arith, never a n ws low high p.1))
    where
      one : Beside a n at (length ys) → reaches word at (length ys) ≡ false
      one (inl k) = rw (le-ltb at (4 * (word + 1)) (omega arith))
      one (inr k) = rw (le-ltb (4 * word) (at + length ys) (omega arith)) (and-false (ltb at (4 * (word + 1))))

  -- of writes of whole words that are pairwise apart one at most does
  once : (ws : List Write) → Whole ws → PairwiseApart ws → times_written word ws ≤ 1
  once [] w p = omega arith
  once (put at ys ∷ ws) w p =
      either (reaches word at (length ys))
      (λ q.
      let r = (and-eq-true_iff (ltb at (4 * (word + 1))) (ltb (4 * word) (at + length ys))).0 q in
      let low = ltb-true at (4 * (word + 1)) r.0 in
      let high = ltb-true (4 * word) (at + length ys) r.1 in
      rw q (omega (arith, never at (length ys) ws (omega (arith, low, w.0)) (omega (arith, high, w.0, w.1)) p.0)))
      (λ q. rw q (omega (arith, once ws w.2 p.1)))

-- ---- those of an append

module _ (file : List ℕ) (h : Handed) (r : (append_of file h).refusal ≡ 0) where
  admitted : file_refusal file ≡ 0
  admitted = accepted-file file h r

  passed : append_refusal (length file) (numbers_of file) h ≡ 0
  passed = sym (answer-there file h admitted) ∙ r

  accepts : Accepted (length file) (numbers_of file) (addresses_of file (numbers_of file).nex) h
  accepts = admits file h admitted passed

  -- an accepted append leaves the file after its writes
  pub append-writes : file_after file h ≡ writes file (writes_of file h)
  append-writes = file-written file h admitted passed ∙ sym (made-appended _ _ _ h accepts file)

  -- no two of them share a byte
  pub append-apart : PairwiseApart (writes_of file h)
  append-apart = made-apart _ _ _ h accepts

  -- each is of whole words
  whole : Whole (writes_of file h)
  unfolding head_from
  whole =
      let d = numbers_of file in
      let f = accepts.fitting in
      let start = entry_start d in
      let then = after _ _ _ h accepts in
      let head = head_writes d.order start (head_of h d.xnext) in
      let tables = table_writes d.order start h.ids h.lengths in
      let pieces = pieces_writes start (first_content (head_of h d.xnext).nsec) h.sections h.values in
      let index = index_writes then (addresses_then _ _ _ h accepts) d.xnext (place_of d.reclen start) h.index in
      let rest = rest_writes d ++ count_writes then in
      whole_append head (tables ++ (pieces ++ (index ++ rest))) (simp length-numeral (omega arith))
      (whole_append tables (pieces ++ (index ++ rest)) (simp (length-identifier_bytes, length-length_bytes, length-address_bytes) (omega arith))
      (whole_append pieces (index ++ rest) (omega (arith, f.sections, f.whole))
      (whole_append index rest (simp length-numeral (omega (arith, f.index)))
      (whole_append (rest_writes d) (count_writes then) (either (full d) (λ q. rw q (simp (length-zeros, length-numeral) (omega arith))) (λ q. rw q tt)) (simp length-numeral (omega arith))))))

  -- so no word of the file is written twice
  pub append-once : (word : ℕ) → times_written word (writes_of file h) ≤ 1
  append-once word = once word (writes_of file h) whole append-apart
