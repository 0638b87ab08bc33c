-- What an accepted append leaves of the first record, field by field: the numbers and addresses after it. Assumes nothing.
use Prim.Native.Nat.{ℕ, ◌+◌, ◌*◌, ◌-◌, ◌^◌, ◌≤◌, ◌<◌}
use mathlib.Core.Path.{◌≡◌, refl, sym, ap, ap₂, ◌∙◌}
use mathlib.Core.Logic.{inl, inr}
use mathlib.Core.Bool.{true, false≢true}
use mathlib.Core.List.{List, ◌∷◌, ◌++◌}
use native.Mathlib.Omega.{arith}
use lib.ListN.{length, set, take, drop}
use mir.Syntax.{Width, w32, w64}
use mir.Val.{bits, bytes}
use Rattle.image.specs.Image.{part, all_zero}
use Rattle.image.specs.Writes.{Write, put, writes, Apart}
use Rattle.image.proofs.Writes.{Beside, writes-read, BehindOf}
use Rattle.image.proofs.Zeros.{zero-within}
use Rattle.words.specs.declared.byte_order.ByteOrder.{ByteOrder}
use Rattle.words.specs.Word.{numeral, bits_at}
use Rattle.words.proofs.Table.{places_same, places-next}
use Rattle.words.proofs.Number.{length-numeral}
use Rattle.words.proofs.Access.{bits-of, bits-follow, bits-alike}
use Rattle.geometry.specs.declared.units.RecordNumber.{RecordNumber}
use Rattle.geometry.specs.Units.{offset_of, first_record_offset_of}
use Rattle.layout.specs.FirstRecordWords.{reclen_word, kind_word, vind_word, lind_word, flags_word, xnext_word, nextrec_word, nextword_word, lex1_word, nex_word, gex_word, aex_word, after_aex}
use Rattle.geometry.specs.declared.units.WordNumber.{WordNumber}
use Rattle.descriptor.specs.declared.numbers.DescriptorNumbers.{DescriptorNumbers}
use Rattle.layout.specs.FileCode.{order_said, file_code_of, byte_order_of}
use Rattle.descriptor.specs.FirstRecord.{field, field4, field8, numbers_of, aex_at, addresses_of}
use Rattle.descriptor.specs.Rules.{no_leftovers}
use Rattle.storing.specs.Handed.{Handed}
use Rattle.placing.specs.Placing.{full, new_area, nex_after, numbers_after, addresses_after}
use Rattle.fields.specs.FieldWrites.{count_writes}
use Rattle.storing.specs.Writing.{area_writes, area_written}
use Rattle.storing.specs.Bounds.{Accepted}
use Rattle.storing.proofs.Stretches.{count-stretch}
use Rattle.placing.proofs.Places.{nex-more, new-small}
use Rattle.outcome.proofs.Either.{either}
use Rattle.placing.proofs.Kept.{nex-full, nex-kept}
use Rattle.written.proofs.AppendLeaves.{new, then, areas_then, indexed, counted-last, left}
use Rattle.written.proofs.Frame.{area-left, frame}
use Rattle.descriptor.proofs.Admitting.{free-small, xnext-small}

module _ (file : List ℕ) {d : DescriptorNumbers} {addresses : List RecordNumber} {h : Handed} (x : Accepted (length file) d addresses h) where
  -- the first record has 16 words or more
  words : (16 ≤ d.reclen) × (64 ≤ length file)
  words = (x.admitted.settled.reclen-low, omega (arith, x.admitted.settled.reclen-low, x.admitted.lent.first))

  -- ---- what stays

  module _ (a n : ℕ) (l : a + n ≤ 4 * d.reclen) where
    -- all of the first record but words 7 to 11 is as the new area left it
    first-left : Beside a n 24 20 → part (new file x) a n ≡ part (area_written file d) a n
    first-left b = area-left file x a n b (inl (omega (arith, left file x))) (inl (omega (arith, left file x)))

    -- and all but word 13 and the new address is as it was
    first-keep : Beside a n 24 20 → (full d ≡ true → Beside a n 48 4 × Beside a n (56 + 8 * d.nex) 8) → part (new file x) a n ≡ part file a n
    first-keep b c = frame file x a n (inl (omega (arith, left file x))) b c (inl (omega (arith, left file x)))

  -- the code
  pub code-kept : file_code_of (new file x) ≡ file_code_of file
  unfolding file_code_of
  code-kept = first-keep 0 4 (omega (arith, words)) (inl (omega arith)) (λ q. (inl (omega arith), inl (omega arith)))

  -- and the order that it says
  pub order-kept : byte_order_of (new file x) ≡ byte_order_of file
  order-kept = ap order_said code-kept

  -- a word before the addresses that is none of 7 to 11, and not 13 where an extension is made
  word_kept : (w : WordNumber) → w.0 ≤ 14 → Beside (first_record_offset_of w) 4 24 20 → (full d ≡ true → Beside (first_record_offset_of w) 4 48 4) → field4 (new file x) w ≡ field4 file w
  unfolding field
  word_kept w l b c =
      bits-alike w32 (new file x) file (first_record_offset_of w) (first_record_offset_of w) order-kept (first-keep (first_record_offset_of w) 4 (omega (arith, words)) b (λ q. (c q, inl (omega arith))))

  -- the words after the addresses: zero before, and zero after those that are then in use
  pub clear_kept : no_leftovers file d ≡ true → no_leftovers (new file x) (then file x) ≡ true
  unfolding no_leftovers numbers_after
  clear_kept e =
      let l = left file x in
      let end = offset_of d.reclen in
      let was = first_record_offset_of (after_aex d.nex) in
      let start = first_record_offset_of (after_aex (nex_after d)) in
      let later : was ≤ start = omega (arith, l.extensions) in
      let room : start ≤ end = omega (arith, l.admitted.settled.nex-room) in
      let stays = first-keep start (end - start) (omega arith) (inr (omega arith)) (λ q. (inr (omega arith), inr (omega (arith, nex-full d q)))) in
      ap all_zero stays ∙ zero-within file was (end - was) start (end - start) later (omega arith) e

  -- ---- what is written, for numbers in the order that the file's code says

  module _ (o : d.order ≡ byte_order_of file) where
    -- the order after the append
    pub order-new : byte_order_of (new file x) ≡ d.order
    order-new = order-kept ∙ sym o

    -- the counts
    count-read : (w : Width) (k at u : ℕ) → BehindOf k (put at (numeral d.order (bytes w) u)) (count_writes (then file x)) → u < 2 ^ bits w → at + bytes w ≤ 64 → bits_at (byte_order_of (new file x)) w (new file x) at ≡ u
    count-read w k at u e f l =
        ap (λ (p : ByteOrder). bits_at p w (new file x) at) order-new
        ∙ ap (λ (g : List ℕ). bits_at d.order w g at) (counted-last file x) ∙ bits-follow d.order w (indexed file x) 24 (count_writes (then file x)) (count-stretch (then file x)).0 k at u e f (omega (arith, (left file x).size-indexed, words))

    -- a number that a new area writes, behind us and before vs
    area-read : full d ≡ true → (w : Width) (at u : ℕ) (us vs : List Write) → us ++ (put at (numeral d.order (bytes w) u) ∷ vs) ≡ area_writes d → Apart at (length (numeral d.order (bytes w) u)) vs
        → 44 ≤ at → at + bytes w ≤ 4 * d.reclen → u < 2 ^ bits w → bits_at (byte_order_of (new file x)) w (new file x) at ≡ u
    unfolding area_written
    area-read q w at u us vs e apart low high small =
        let ys = numeral d.order (bytes w) u in
        let n = length-numeral d.order (bytes w) u in
        ap (λ (p : ByteOrder). bits_at p w (new file x) at) order-new ∙ bits-of d.order w (new file x) at u small (
        first-left at (length ys) (omega (arith, n)) (inr low)
        ∙ rw q (ap (λ (ws : List Write). part (writes file ws) at (length ys)) (sym e) ∙ writes-read file us at ys vs (omega (arith, n, x.admitted.lent.first)) apart))

    -- word 13: written with a new area, else kept
    nex-read : field4 file nex_word ≡ d.nex → field4 (new file x) nex_word ≡ nex_after d
    unfolding field
    nex-read e =
        either (full d)
        (λ q.
        area-read q w32 48 (d.nex + 1) (take 1 (area_writes d)) (drop 2 (area_writes d)) refl (inl (omega (arith, length-numeral d.order 4 (d.nex + 1))), tt) (omega arith) (omega (arith, words))
        (omega (arith, x.admitted.settled.nex-high))
        ∙ sym (nex-full d q))
        (λ q. word_kept nex_word (omega arith) (inr (omega arith)) (λ t. absurd (false≢true (sym q ∙ t))) ∙ e ∙ sym (nex-kept d q))

    -- ---- the numbers and the addresses

    -- where the file held the numbers before the append, it holds those after it
    pub numbers-read : numbers_of file ≡ d → numbers_of (new file x) ≡ then file x
    unfolding numbers_of numbers_after field
    numbers-read e =
        let a = (left file x).admitted in
        rw (
          word_kept reclen_word (omega arith) (inl (omega arith)) (λ q. inl (omega arith)) ∙ ap (λ (m : DescriptorNumbers). m.reclen) e,
          word_kept kind_word (omega arith) (inl (omega arith)) (λ q. inl (omega arith)) ∙ ap (λ (m : DescriptorNumbers). m.kind) e,
          word_kept vind_word (omega arith) (inl (omega arith)) (λ q. inl (omega arith)) ∙ ap (λ (m : DescriptorNumbers). m.vind) e,
          word_kept lind_word (omega arith) (inl (omega arith)) (λ q. inl (omega arith)) ∙ ap (λ (m : DescriptorNumbers). m.lind) e,
          word_kept flags_word (omega arith) (inl (omega arith)) (λ q. inl (omega arith)) ∙ ap (λ (m : DescriptorNumbers). m.flags) e,
          count-read w64 0 (first_record_offset_of xnext_word) (then file x).xnext.0 refl (omega (arith, xnext-small (length file) (then file x) (areas_then file x) a)) (omega arith),
          count-read w64 1 (first_record_offset_of nextrec_word) (then file x).nextrec.0 refl (omega (arith, a.free.record-high)) (omega arith),
          count-read w32 2 (first_record_offset_of nextword_word) (then file x).nextword.0 refl (omega (arith, a.free.word-high, a.settled.reclen-high)) (omega arith),
          word_kept lex1_word (omega arith) (inr (omega arith)) (λ q. inl (omega arith)) ∙ ap (λ (m : DescriptorNumbers). m.lex1) e,
          nex-read (ap (λ (m : DescriptorNumbers). m.nex) e),
          word_kept gex_word (omega arith) (inr (omega arith)) (λ q. inr (omega arith)) ∙ ap (λ (m : DescriptorNumbers). m.gex) e,
          order-new,
        )

    -- an address in use stays
    address_kept : (i : ℕ) → i < d.nex → aex_at (new file x) i ≡ aex_at file i
    unfolding field
    address_kept i l =
        let at = first_record_offset_of (aex_word i) in
        rw (bits-alike w64 (new file x) file at at order-kept
        (first-keep at 8 (omega (arith, x.admitted.settled.nex-room)) (inr (omega arith)) (λ q. (inr (omega arith), inl (omega arith)))))

    -- the address of a new area is written
    address-new : full d ≡ true → aex_at (new file x) d.nex ≡ new_area d
    unfolding field
    address-new q =
        rw (area-read q w64 (first_record_offset_of (aex_word d.nex)) (new_area d).0 (take 2 (area_writes d)) (drop 3 (area_writes d)) refl tt (omega arith)
        (omega (arith, (nex-more d x.admitted.settled x.extensible q).1))
        (omega (arith, new-small d x.admitted.settled (free-small (length file) d addresses x.admitted))))

    table_kept : addresses_of (new file x) d.nex ≡ addresses_of file d.nex
    unfolding addresses_of
    table_kept = places_same 16 d.nex (aex_at (new file x)) (aex_at file) (record { 0 = 0 }) address_kept

    -- and so it is with the addresses
    pub addresses-read : addresses_of file d.nex ≡ addresses → addresses_of (new file x) (then file x).nex ≡ areas_then file x
    unfolding numbers_after addresses_after addresses_of
    addresses-read e =
        either (full d)
        (λ q.
        let next = places-next 16 d.nex (aex_at (new file x)) (record { 0 = 0 }) (nex-more d x.admitted.settled x.extensible q).0 in
        rw (nex-full d q, q) (sym next ∙ ap₂ (λ (l : List RecordNumber) (r : RecordNumber). set l d.nex r) (table_kept ∙ e) (address-new q)))
        (λ q. rw (nex-kept d q, q) (table_kept ∙ e))
