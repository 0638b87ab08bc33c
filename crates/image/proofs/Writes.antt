-- Laws of a list of writes: its length, when it is one write, which writes may change places, what it keeps, and what is read of it. Assumes nothing.
use mathlib.Core.Path.{◌≡◌, refl, sym, ap, subst, ◌∙◌}
use mathlib.Core.Logic.{◌⊎◌, inl, inr}
use Prim.Native.Nat.{ℕ, ◌+◌, ◌-◌, ◌≤◌}
use native.Mathlib.Omega.{arith}
use mathlib.Core.List.{List, [], ◌∷◌, ◌++◌, append_assoc, append-nil}
use lib.ListN.{length, take, drop, length-append}
use Rattle.image.specs.Image.{splice, part, zeros}
use Rattle.image.specs.Writes.{Write, put, writes, written, Follows, Apart, PairwiseApart}
use Rattle.image.proofs.Splice.{splice-nil, splice-adjacent, splice-over, splice-swap, length-splice, length-zeros, zeros-append}
use Rattle.image.proofs.Part.{part-before, part-behind, part_same}

-- writes keep the length
pub length-writes : (image : List ℕ) (ws : List Write) → length (writes image ws) ≡ length image
length-writes image [] = refl
length-writes image (put at ys ∷ ws) = length-writes (splice image at ys) ws ∙ length-splice image at ys

-- two lists of writes, one after the other
pub writes-append : (image : List ℕ) (us vs : List Write) → writes image (us ++ vs) ≡ writes (writes image us) vs
writes-append image [] vs = refl
writes-append image (put at ys ∷ us) vs = writes-append (splice image at ys) us vs

join : (image : List ℕ) (a : ℕ) (xs : List ℕ) (b : ℕ) (ws : List Write) → b ≡ a + length xs → Follows b ws
    → writes (splice image a xs) ws ≡ splice image a (xs ++ written ws)
join image a xs b [] e f = ap (splice image a) (sym (append-nil xs))
join image a xs b (put at ys ∷ ws) e f =
    ap (λ (l : List ℕ). writes l ws) (splice-adjacent image a xs at ys (omega arith))
    ∙ join image a (xs ++ ys) (at + length ys) ws (rw length-append (omega arith)) f.1
    ∙ ap (splice image a) (append_assoc xs ys (written ws))

-- writes that follow one another are one write
pub writes_one : (image : List ℕ) (a : ℕ) (ws : List Write) → Follows a ws → writes image ws ≡ splice image a (written ws)
writes_one image a ws f = ap (λ (l : List ℕ). writes l ws) (sym (splice-nil image a)) ∙ join image a [] a ws (omega arith) f

-- ---- writes that are apart

-- the n bytes from offset a on, and m bytes from b on, share none
abbrev pub Beside : ℕ → ℕ → ℕ → ℕ → Type 0
Beside a n b m = (a + n ≤ b) ⊎ (b + m ≤ a)

-- bytes beside a run of bytes are beside each part of it
pub beside-part : (a n b m c k : ℕ) → Beside a n b m → b ≤ c → c + k ≤ b + m → Beside a n c k
beside-part a n b m c k (inl h) l g = inl (omega arith)
beside-part a n b m c k (inr h) l g = inr (omega arith)

-- bytes apart from writes: so is each part of them
pub apart-part : (a n b m : ℕ) (ws : List Write) → a ≤ b → b + m ≤ a + n → Apart a n ws → Apart b m ws
apart-part a n b m [] h l p = tt
apart-part a n b m (put at ys ∷ ws) h l p = (one p.0, apart-part a n b m ws h l p.1)
  where
    one : Beside a n at (length ys) → Beside b m at (length ys)
    one (inl k) = inl (omega arith)
    one (inr k) = inr (omega arith)

-- bytes apart from two lists of writes are apart from both together
pub apart-append : (a n : ℕ) (us vs : List Write) → Apart a n us → Apart a n vs → Apart a n (us ++ vs)
apart-append a n [] vs p q = q
apart-append a n (put at ys ∷ us) vs p q = (p.0, apart-append a n us vs p.1 q)

-- a write may be made before writes that it is apart from
pub writes-past : (image : List ℕ) (at : ℕ) (ys : List ℕ) (ws : List Write) → Apart at (length ys) ws → splice (writes image ws) at ys ≡ writes (splice image at ys) ws
writes-past image at ys [] h = refl
writes-past image at ys (put b zs ∷ ws) h = writes-past (splice image b zs) at ys ws h.1 ∙ ap (λ (l : List ℕ). writes l ws) (one h.0)
  where
    one : Beside at (length ys) b (length zs) → splice (splice image b zs) at ys ≡ splice (splice image at ys) b zs
    one (inl k) = sym (splice-swap image at ys b zs k)
    one (inr k) = splice-swap image b zs at ys k

-- a write over a run of zeros: it may come first, if only the zeros beside it are written behind it
pub zeros-beside : (image : List ℕ) (a n b : ℕ) (ys : List ℕ) → a ≤ b → b + length ys ≤ a + n
    → splice (splice image a (zeros n)) b ys ≡ writes image (put b ys ∷ put a (zeros (b - a)) ∷ put (b + length ys) (zeros (a + n - (b + length ys))) ∷ [])
zeros-beside image a n b ys low high =
    let before = zeros (b - a) in
    let under = zeros (length ys) in
    let end = b + length ys in
    let behind = zeros (a + n - end) in
    let long : b - a + (length ys + (a + n - end)) ≡ n = omega arith in
    let whole : before ++ (under ++ behind) ≡ zeros n = ap (λ (l : List ℕ). before ++ l) (zeros-append _ _) ∙ zeros-append _ _ ∙ ap zeros long in
    let here = splice image a before in
    ap (λ (l : List ℕ). splice (splice image a l) b ys) (sym whole)
    ∙ ap (λ (l : List ℕ). splice l b ys) (sym (splice-adjacent here b under end behind (rw length-zeros) ∙ splice-adjacent image a before b (under ++ behind) (rw length-zeros (omega arith))))
    ∙ sym (splice-swap (splice here b under) b ys end behind (omega arith))
    ∙ ap (λ (l : List ℕ). splice l end behind) (splice-over here b under ys (length-zeros (length ys)) ∙ splice-swap image a before b ys (rw length-zeros (omega arith)))

-- what no write meets is kept
pub writes-keep : (image : List ℕ) (ws : List Write) (a n : ℕ) → Apart a n ws → part (writes image ws) a n ≡ part image a n
writes-keep image [] a n h = refl
writes-keep image (put at ys ∷ ws) a n h = writes-keep (splice image at ys) ws a n h.1 ∙ one h.0
  where
    one : (a + n ≤ at) ⊎ (at + length ys ≤ a) → part (splice image at ys) a n ≡ part image a n
    one (inl k) = part-before image a n at ys k
    one (inr k) = part-behind image a n at ys k

-- what one of the writes wrote is read there, if no later one meets it
pub writes-read : (image : List ℕ) (us : List Write) (at : ℕ) (ys : List ℕ) (vs : List Write) → at + length ys ≤ length image → Apart at (length ys) vs
    → part (writes image (us ++ put at ys ∷ vs)) at (length ys) ≡ ys
writes-read image us at ys vs h k =
    ap (λ (l : List ℕ). part l at (length ys)) (writes-append image us (put at ys ∷ vs))
    ∙ writes-keep (splice (writes image us) at ys) vs at (length ys) k
    ∙ part_same (writes image us) at (length ys) ys refl (rw length-writes h)

-- ---- writes that follow one another

behind : (a : ℕ) (us : List Write) (at : ℕ) (ys : List ℕ) (vs : List Write) → Follows a (us ++ put at ys ∷ vs) → Follows (at + length ys) vs
behind a [] at ys vs f = f.1
behind a (put b xs ∷ us) at ys vs f = behind (b + length xs) us at ys vs f.1

apart-behind : (a n b : ℕ) (ws : List Write) → a + n ≤ b → Follows b ws → Apart a n ws
apart-behind a n b [] h f = tt
apart-behind a n b (put at ys ∷ ws) h f =
    let e = f.0 in
    (inl (omega (arith, e)), apart-behind a n (at + length ys) ws (omega (arith, e)) f.1)

-- writes that follow one another from offset a on, and write n bytes in all
abbrev pub Stretch : ℕ → ℕ → List Write → Type 0
Stretch a n ws = Follows a ws × (length (written ws) ≡ n)

-- the first of them, and the others behind it
stretch-next : (a n at : ℕ) (ys : List ℕ) (ws : List Write) → Stretch a n (put at ys ∷ ws)
    → (at ≡ a) × (length ys + length (written ws) ≡ n) × Stretch (at + length ys) (length (written ws)) ws
stretch-next a n at ys ws s = (s.0.0, sym (length-append ys (written ws)) ∙ s.1, (s.0.1, refl))

-- bytes beside them are apart from each
pub apart-stretch : (a n b m : ℕ) (ws : List Write) → Beside a n b m → Stretch b m ws → Apart a n ws
apart-stretch a n b m [] h s = tt
apart-stretch a n b m (put at ys ∷ ws) h s =
    let rest = length (written ws) in
    let r = stretch-next b m at ys ws s in (
      beside-part a n b m at (length ys) h (omega (arith, r.0)) (omega (arith, r.0, r.1)),
      apart-stretch a n (at + length ys) rest ws (beside-part a n b m (at + length ys) rest h (omega (arith, r.0)) (omega (arith, r.0, r.1))) r.2,
    )

-- they are pairwise apart, also with others behind them that are apart from their bytes
pub stretch-pairwise : (a n : ℕ) (us vs : List Write) → Stretch a n us → Apart a n vs → PairwiseApart vs → PairwiseApart (us ++ vs)
stretch-pairwise a n [] vs s p q = q
stretch-pairwise a n (put at ys ∷ us) vs s p q =
    let next = at + length ys in
    let rest = length (written us) in
    let r = stretch-next a n at ys us s in (
      apart-append at (length ys) us vs (apart-behind at (length ys) next us (omega arith) s.0.1) (apart-part a n at (length ys) vs (omega (arith, r.0)) (omega (arith, r.0, r.1)) p),
      stretch-pairwise next rest us vs r.2 (apart-part a n next rest vs (omega (arith, r.0)) (omega (arith, r.0, r.1)) p) q,
    )

-- and bytes beside them stay
pub stretch-keep : (a n : ℕ) (image : List ℕ) (b m : ℕ) (ws : List Write) → Stretch b m ws → Beside a n b m → part (writes image ws) a n ≡ part image a n
stretch-keep a n image b m ws s h = writes-keep image ws a n (apart-stretch a n b m ws h s)

-- a write stands behind k others
abbrev pub BehindOf : ℕ → Write → List Write → Type 0
BehindOf k w ws = take k ws ++ w ∷ drop (k + 1) ws ≡ ws

-- what it wrote is read there
pub follow-read : (image : List ℕ) (a : ℕ) (ws : List Write) → Follows a ws → (k at : ℕ) (ys : List ℕ) → BehindOf k (put at ys) ws
    → at + length ys ≤ length image → part (writes image ws) at (length ys) ≡ ys
follow-read image a ws f k at ys e h =
    let us = take k ws in
    let vs = drop (k + 1) ws in
    let g = subst (Follows a) (sym e) f in
    subst (λ (l : List Write). part (writes image l) at (length ys) ≡ ys) e
    (writes-read image us at ys vs h (apart-behind at (length ys) (at + length ys) vs (omega arith) (behind a us at ys vs g)))
