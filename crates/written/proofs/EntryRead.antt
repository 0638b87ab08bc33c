-- The words of the new entry, read back from the file that an accepted append leaves: each is as it was handed in. Assumes nothing.
use Prim.Native.Nat.{ℕ, ◌+◌, ◌*◌, ◌-◌, ◌^◌, ◌≤◌, ◌<◌}
use mathlib.Core.Path.{◌≡◌, refl, sym, ap, ◌∙◌}
use mathlib.Core.Logic.{inr}
use mathlib.Core.Bool.{Bool, true, false, cond}
use mathlib.Core.List.{List}
use native.Mathlib.Omega.{arith}
use borrow.Author.Tests.{ne_eqb}
use lib.Dec.{eqb}
use lib.IntN.{ℤ, pos}
use lib.ListN.{length, get_or, take}
use mir.Syntax.{Width}
use mir.Val.{bits, bytes, SFits}
use mir.Facts.{Fits-of_z}
use Rattle.image.specs.Image.{part}
use Rattle.image.specs.Writes.{Write, put, writes}
use Rattle.image.proofs.Part.{part-part}
use Rattle.image.proofs.Writes.{BehindOf, follow-read}
use Rattle.words.specs.declared.byte_order.ByteOrder.{ByteOrder}
use Rattle.words.specs.Word.{numeral, integer4, integer8, bits_at, signed_at, bits_of, signed_numeral}
use Rattle.words.specs.Range.{at_least}
use Rattle.words.proofs.Number.{length-numeral}
use Rattle.words.proofs.Access.{bits-of, value_of}
use Rattle.words.proofs.Signed.{signed-bits}
use Rattle.words.proofs.Runs.{run-test}
use Rattle.geometry.specs.declared.units.RecordNumber.{RecordNumber}
use Rattle.geometry.specs.declared.units.EntryAddress.{EntryAddress}
use Rattle.descriptor.specs.declared.numbers.DescriptorNumbers.{DescriptorNumbers}
use Rattle.descriptor.proofs.Admitting.{xnext-small}
use Rattle.layout.specs.FileCode.{byte_order_of}
use Rattle.layout.specs.EntryWords.{entry_code, entry_code_word, version_word, nsec_word, nword_word, adata_word, ldata_word, xnum_word, identifier_word, length_word, address_word, first_content}
use Rattle.pieces.specs.EntryDescriptor.{word_of, word_offset, word4, word8, entry_code_of, version_of, nsec_of, nword_of, adata_of, ldata_of, xnum_of, identifier_at, length_at, address_at}
use Rattle.storing.specs.Handed.{Handed, words_of, sum_of, nsec_in, ldata_in, nword_in}
use Rattle.placing.specs.Placing.{entry_start}
use Rattle.storing.specs.Writing.{behind, head_from, head_of, area_written, entry_written}
use Rattle.storing.specs.Bounds.{Accepted}
use Rattle.storing.proofs.Lengths.{positive-run}
use Rattle.storing.proofs.TableBytes.{Table, table-length, table-item, integer-table, address-table}
use Rattle.storing.proofs.Lengths.{sum-next, sum-fewer, counted}
use Rattle.storing.proofs.Accepting.{value-bytes}
use Rattle.storing.proofs.Stretches.{entry_writes, entry-stretch}
use Rattle.written.proofs.AppendLeaves.{new, end, left, length-area}
use Rattle.written.proofs.Frame.{entry-left}
use Rattle.written.proofs.FirstRecordAfter.{order-new}

module _ (file : List ℕ) {d : DescriptorNumbers} {addresses : List RecordNumber} {h : Handed} (x : Accepted (length file) d addresses h) (o : d.order ≡ byte_order_of file) where
  abbrev start : ℕ
  start = entry_start d

  abbrev ws : List Write
  ws = entry_writes d.order start h d.xnext

  -- ---- what was written is read

  -- from its start on the file is as the entry's writes left it
  same : (a n : ℕ) → 4 * start ≤ a → part (new file x) a n ≡ part (writes (area_written file d) ws) a n
  unfolding entry_written
  same a n l =
      entry-left file x a n (inr (omega (arith, left file x, x.admitted.settled.reclen-low))) (inr (omega (arith, left file x)))

  -- what the write behind k others wrote
  read : (k : ℕ) (a : EntryAddress) (ys : List ℕ) → BehindOf k (put (word_offset start a) ys) ws → word_offset start a + length ys ≤ 4 * end file x
      → part (new file x) (word_offset start a) (length ys) ≡ ys
  read k a ys e l =
      same (word_offset start a) (length ys) (omega arith)
      ∙ follow-read (area_written file d) (4 * start) ws (entry-stretch d.order start h d.xnext d x.fitting).0 k (word_offset start a) ys e
      (omega (arith, left file x, length-area file d))

  -- a part of it
  inside : (k : ℕ) (a : EntryAddress) (ys : List ℕ) → BehindOf k (put (word_offset start a) ys) ws → word_offset start a + length ys ≤ 4 * end file x
      → (b m c : ℕ) → b + m ≤ length ys → c ≡ word_offset start a + b → part (new file x) c m ≡ part ys b m
  inside k a ys e l b m c g q =
      sym (part-part (new file x) (word_offset start a) (length ys) b m c g q) ∙ ap (λ (xs : List ℕ). part xs b m) (read k a ys e l)

  -- a number
  word_read : (w : Width) (k : ℕ) (a : EntryAddress) (u : ℕ) → BehindOf k (put (word_offset start a) (numeral d.order (bytes w) u)) ws → u < 2 ^ bits w → word_offset start a + bytes w ≤ 4 * end file x
      → bits_at (byte_order_of (new file x)) w (new file x) (word_offset start a) ≡ u
  word_read w k a u e f l =
      ap (λ (p : ByteOrder). bits_at p w (new file x) (word_offset start a)) (order-new file x o)
      ∙ bits-of d.order w (new file x) (word_offset start a) u f (read k a (numeral d.order (bytes w) u) e (omega (arith, length-numeral d.order (bytes w) u)))

  -- number i of a table
  item-read : (w : Width) (u : ℕ → ℤ → ℕ) {table : ℕ → List ℤ → List ℕ} → Table (bytes w) (λ a z. numeral d.order (bytes w) (u a z)) table
      → (k : ℕ) (first : EntryAddress) (a : ℕ) (zs : List ℤ) (i : ℕ) (at : EntryAddress) → let v = u (a + sum_of (take i zs)) (get_or zs i (pos 0)) in
      BehindOf k (put (word_offset start first) (table a zs)) ws → i < length zs → word_offset start first + bytes w * length zs ≤ 4 * end file x
      → bytes w * i + bytes w ≤ bytes w * length zs → word_offset start at ≡ word_offset start first + bytes w * i → v < 2 ^ bits w → bits_at (byte_order_of (new file x)) w (new file x) (word_offset start at) ≡ v
  item-read w u {table} t k first a zs i at e few room one place f =
      let v = u (a + sum_of (take i zs)) (get_or zs i (pos 0)) in
      let n = table-length t a zs in
      ap (λ (p : ByteOrder). bits_at p w (new file x) (word_offset start at)) (order-new file x o)
      ∙ bits-of d.order w (new file x) (word_offset start at) v f
      (rw (length-numeral d.order (bytes w) v) (inside k first (table a zs) e (omega (arith, n)) (bytes w * i) (bytes w) (word_offset start at) (omega (arith, n)) place ∙ table-item t a zs i few))

  -- ---- words 1 to 11

  -- the code
  pub code-new : entry_code_of (new file x) start ≡ entry_code
  unfolding entry_code_of
  code-new = read 0 entry_code_word entry_code refl (omega arith)

  -- the version
  pub version-new : SFits integer4 h.version → version_of (new file x) start ≡ h.version
  unfolding word_of head_from
  version-new f =
      ap (λ (p : ByteOrder). signed_at p integer4 (new file x) (word_offset start version_word)) (order-new file x o)
      ∙ value_of d.order integer4 (new file x) (word_offset start version_word) h.version f
      (read 1 version_word (signed_numeral d.order integer4 h.version) refl (omega (arith, length-numeral d.order 4 (bits_of integer4 h.version))))

  -- nsec
  pub nsec-new : nsec_of (new file x) start ≡ nsec_in h
  unfolding word_of head_from
  nsec-new = word_read integer4 2 nsec_word (nsec_in h) refl (omega (arith, x.fitting.few)) (omega arith)

  -- nword
  pub nword-new : nword_of (new file x) start ≡ nword_in h
  unfolding word_of head_from
  nword-new = word_read integer8 3 nword_word (nword_in h) refl (omega (arith, (left file x).small)) (omega arith)

  -- adata where there is data: behind the sections
  pub adata-some : (ldata_in h ≡ 0 → ⊥) → (head_of h d.xnext).adata.0 ≡ (first_content (nsec_in h)).0 + sum_of h.lengths
  unfolding head_from
  adata-some e = rw (ne_eqb (ldata_in h) 0 e)

  adata-small : (head_of h d.xnext).adata.0 < 2 ^ 64
  unfolding head_from
  adata-small = by (eqb (ldata_in h) 0)
    where
      by : (b : Bool) → cond b 0 ((first_content (nsec_in h)).0 + sum_of h.lengths) < 2 ^ 64
      by true = omega arith
      by false = omega (arith, (left file x).small)

  -- adata
  pub adata-new : (adata_of (new file x) start).0 ≡ (head_of h d.xnext).adata.0
  unfolding word_of
  adata-new = word_read integer8 4 adata_word (head_of h d.xnext).adata.0 refl adata-small (omega arith)

  -- ldata
  pub ldata-new : ldata_of (new file x) start ≡ ldata_in h
  unfolding word_of head_from
  ldata-new = word_read integer8 5 ldata_word (ldata_in h) refl (omega (arith, (left file x).small)) (omega arith)

  -- xnum
  pub xnum-new : xnum_of (new file x) start ≡ d.xnext.0
  unfolding word_of head_from
  xnum-new = word_read integer8 6 xnum_word d.xnext.0 refl (omega (arith, xnext-small (length file) d addresses x.admitted)) (omega arith)

  -- ---- the tables

  module _ (i : ℕ) (l : i < nsec_in h) where
    -- the words of section i, counted from 0
    abbrev pub words : ℕ
    words = words_of (get_or h.lengths i (pos 0))

    -- and those of the sections before it
    abbrev pub before : ℕ
    before = sum_of (take i h.lengths)

    -- it has some
    pub long : at_least 1 (get_or h.lengths i (pos 0)) ≡ true
    long = run-test (positive-run h.lengths) i (length h.lengths) (omega (arith, x.fitting.pairs)) x.fitting.counted

    -- and ends before all of them do
    pub words-few : before + words ≤ sum_of h.lengths
    words-few = omega (arith, sum-next h.lengths i (omega (arith, x.fitting.pairs)), sum-fewer h.lengths (i + 1))

    -- its identifier
    pub identifier-new : SFits integer4 (get_or h.ids i (pos 0)) → identifier_at (new file x) start i ≡ get_or h.ids i (pos 0)
    unfolding word_of
    identifier-new f =
        rw (item-read integer4 (λ a z. bits_of integer4 z) (integer-table d.order integer4) 7 (identifier_word 0) 0 h.ids i (identifier_word i) refl l (omega arith) (omega arith) (omega arith) (Fits-of_z f).fits)
        (signed-bits integer4 (get_or h.ids i (pos 0)) f)

    -- its length
    pub length-new : length_at (new file x) start (nsec_in h) i ≡ words
    unfolding word_of
    length-new =
        let pairs = x.fitting.pairs in
        let is = counted (get_or h.lengths i (pos 0)) long in
        item-read integer8 (λ a z. bits_of integer8 z) (integer-table d.order integer8) 8 (length_word (nsec_in h) 0) 0 h.lengths i (length_word (nsec_in h) i) refl (omega arith) (omega arith) (omega arith) (omega arith)
        (omega (arith, words-few, (left file x).small))
        ∙ is

    -- its address
    pub address-new : (address_at (new file x) start (nsec_in h) i).0 ≡ (first_content (nsec_in h)).0 + before
    unfolding word_of
    address-new =
        let pairs = x.fitting.pairs in
        item-read integer8 (λ a z. a) (address-table d.order) 9 (address_word (nsec_in h) 0) (first_content (nsec_in h)).0 h.lengths i (address_word (nsec_in h) i) refl (omega arith) (omega arith) (omega arith) (omega arith)
        (omega (arith, words-few, (left file x).small))

    -- its bytes
    pub section-read : part (new file x) (4 * (start + ((first_content (nsec_in h)).0 + before - 1))) (4 * words) ≡ part h.sections (4 * before) (4 * words)
    section-read =
        let sections = x.fitting.sections in
        inside 10 (first_content (nsec_in h)) h.sections refl (omega arith) (4 * before) (4 * words) (4 * (start + ((first_content (nsec_in h)).0 + before - 1))) (omega (arith, words-few)) (omega arith)

  -- the bytes of the data
  pub data-read : part (new file x) (4 * (start + ((first_content (nsec_in h)).0 + sum_of h.lengths - 1))) (length h.values) ≡ h.values
  data-read = read 11 (behind (first_content (nsec_in h)) (sum_of h.lengths)) h.values refl (omega (arith, value-bytes d h x.fitting))
