-- What a read puts behind the bytes that were read is what it takes from the reader.
use Rattle.std.proofs.Common.{◌≡◌, ℕ, ◌+◌, ◌-◌, ◌≤◌, List, ◌++◌, rules, arith, length, take, slice_range, drop, sym, ap, ◌∙◌, subst, le_refl, drop_at, length-take-le}
use Rattle.std.proofs.lemmas.Slice.{take-put_mid_below}
use Rattle.std.specs.Io.KnownBytes.{Consumes}
use Rattle.std.proofs.KnownBytes.{Consumes-trans}
use borrow.Rule.Slice.PartMut.{put_mid, post_of}
use lib.Seq.{take-add, take-append-le}
use Rattle.list.proofs.read_full.Goals as goal

-- the bytes before an offset, and behind them those up to another
take_split : (a n : ℕ) (old new : List ℕ) → take a new ≡ take a old → take a old ++ slice_range new a (a + n) ≡ take (a + n) new
take_split a n old new front =
    let same : a + n - a ≡ n = omega arith in
    ap (λ l. l ++ slice_range new a (a + n)) (sym front) ∙ ap (λ k. take a new ++ take k (drop a new)) same ∙ sym (take-add a n new)

-- the first bytes of a part that was put
part-put : (a k n : ℕ) (xs ys : List ℕ) → a ≤ length xs → n ≤ length ys → slice_range (put_mid a k xs ys) a (a + n) ≡ take n ys
part-put a k n xs ys within fits =
    let same : a + n - a ≡ n = omega arith in
    let after = post_of a k xs in
    ap (take (a + n - a)) (drop_at (take a xs) (ys ++ after) a (length-take-le a xs within)) ∙ ap (λ m. take m (ys ++ after)) same ∙ take-append-le n ys after fits

pub loop-done-preserved : goal.loop-done-preserved
loop-done-preserved g c =
    let at = c.loop-done.done in
    let bytes = c.loop-done.bytes in
    let room = length bytes - at in
    let n = c.in_ok-count.count in
    let within = c.loop-done.invariant.within in
    let part = part-put at room n bytes c.read.new.buf within c.in_ok-count.ensures.bound.0 in
    let joined = take_split at n bytes (put_mid at room bytes c.read.new.buf) (take-put_mid_below _ _ _ _ _ (le_refl _) within) in
    record {
      within = search rules;
      read = subst (Consumes _ _) (ap (λ l. take at bytes ++ l) (sym part) ∙ joined) (Consumes-trans _ _ _ _ _ c.loop-done.invariant.read c.in_ok-count.ensures.bytes.0);
    }
