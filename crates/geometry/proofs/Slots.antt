-- Laws of records and slots: an area is just large enough, and the slots of different entries are apart and within it. Assumes nothing.
use mathlib.Core.Path.{◌≡◌, refl, sym, ap}
use Prim.Native.Nat.{ℕ, zero, suc, ◌+◌, ◌*◌, ◌-◌, ◌/◌, ◌%◌, ◌≤◌, ◌<◌}
use native.Mathlib.Omega.{arith}
use native.Mathlib.Nat.{add-mul, div-eq_of_lt-le, div-add-mod', mod-lt, mul-le-mul_right, div-lt_iff_lt-mul, lt_of_not-le}
use native.Mathlib.Decide.{dec_le, le_ind}
use native.Mathlib.Numerals.{add-one}
use borrow.Author.Tests.{leb-true, leb-false, lt-leb}
use lib.Dec.{leb}
use Rattle.std.proofs.Common.{min}
use Rattle.std.proofs.lemmas.Grind.{div_ceil_times}
use Rattle.outcome.proofs.Either.{either}
use Rattle.geometry.specs.declared.growth.Growth.{Growth}
use Rattle.geometry.specs.declared.units.EntryNumber.{EntryNumber}
use Rattle.geometry.specs.declared.area.Slot.{Slot}
use Rattle.geometry.specs.Growth.{capacity_of, total_of}
use Rattle.geometry.specs.Area.{records_for, extension_for, slot_at, slot_of}
use Rattle.geometry.proofs.Capacities.{total-le, total-last, total-none, total-before}

-- ---- records

-- a quotient rounded up, by the quotient and the remainder
pub rounded_up : (words reclen : ℕ) → 1 ≤ reclen → (words + (reclen - 1)) / reclen ≡ words / reclen + min 1 (words % reclen)
rounded_up words reclen h =
    let n = words / reclen + min 1 (words % reclen) in
    let b = div_ceil_times words reclen h in
    div-eq_of_lt-le reclen (omega (arith, b)) (omega (arith, b, add-mul n 1 reclen))

-- the records hold the words
pub records-hold : (words reclen : ℕ) → 1 ≤ reclen → words ≤ records_for words reclen * reclen
unfolding records_for
records-hold words reclen h =
    omega (arith, div-add-mod' (words + (reclen - 1)) reclen, mod-lt (words + (reclen - 1)) {m = reclen} h)

-- and no fewer do
pub records-least : (words reclen n : ℕ) → 1 ≤ reclen → words ≤ n * reclen → records_for words reclen ≤ n
unfolding records_for
records-least words reclen n h l =
    let below : words + (reclen - 1) < suc n * reclen = omega arith in
    let q = (div-lt_iff_lt-mul h).1 below in omega arith

-- ---- slots

-- extension k holds entry e: those before it do not reach so far, and it does
pub record Holds (g : Growth) (e k : ℕ) : Type 0 where
  pub counted : 1 ≤ k
  pub behind : total_of g (k - 1) < e
  pub reached : e ≤ total_of g k

-- only one extension does
pub holder-only : (g : Growth) (e j k : ℕ) → Holds g e j → Holds g e k → j ≡ k
holder-only g e j k p q =
    let a = total-before g (j - 1) k (omega (arith, p.behind, q.reached)) in
    let b = total-before g (k - 1) j (omega (arith, q.behind, p.reached)) in
    omega (arith, p.counted, q.counted)

-- and it is among the first n if they reach so far
pub extension-holds : (g : Growth) (n e : ℕ) → 1 ≤ e → e ≤ total_of g n → Holds g e (extension_for g n e) × (extension_for g n e ≤ n)
unfolding extension_for
extension-holds g zero e h l = absurd (omega (arith, total-none g))
extension-holds g (suc n) e h l =
    either (leb e (total_of g n)) (λ q. let r = extension-holds g n e h (leb-true e (total_of g n) q) in rw q (r.0, omega (arith, r.1)))
    (λ q.
    let last : suc n - 1 ≡ n = omega arith in
    let past = leb-false e (total_of g n) q in
    rw q (record { counted = omega arith; behind = omega (arith, ap (total_of g) last); reached = l }, omega arith))

-- what holds of the slot of entry e among those of the first nex extensions
pub record Stands (g : Growth) (nex lind e : ℕ) (s : Slot) : Type 0 where
  pub held : Holds g e s.extension.0
  pub used : s.extension.0 ≤ nex
  pub number : total_of g (s.extension.0 - 1) + s.place ≡ e
  pub counted : 1 ≤ s.place
  pub room : s.place ≤ capacity_of g s.extension.0
  pub words : s.offset ≡ (s.place - 1) * lind

-- the slot of an entry stands in the extension that holds it
pub slot-stands : (g : Growth) (nex lind : ℕ) (e : EntryNumber) → 1 ≤ e.0 → e.0 ≤ total_of g nex → Stands g nex lind e.0 (slot_of g nex lind e)
unfolding slot_of
slot-stands g nex lind e h l =
    let r = extension-holds g nex e.0 h l in
    let last = total-last g (extension_for g nex e.0) r.0.counted in
    record {
      held = r.0;
      used = r.1;
      number = omega (arith, r.0.behind);
      counted = omega (arith, r.0.behind);
      room = omega (arith, r.0.behind, r.0.reached);
      words = refl;
    }

-- it is the slot there of the extension that holds the entry
pub slot_held : (g : Growth) (nex lind : ℕ) (e : EntryNumber) (k : ℕ) → e.0 ≤ total_of g nex → Holds g e.0 k → slot_at k (e.0 - total_of g (k - 1)) lind ≡ slot_of g nex lind e
unfolding slot_of
slot_held g nex lind e k l p =
    let r = extension-holds g nex e.0 (omega (arith, p.behind)) l in
    ap (λ (j : ℕ). slot_at j (e.0 - total_of g (j - 1)) lind) (holder-only g e.0 _ _ p r.0)

-- the slot is the same among more extensions
pub slot-more : (g : Growth) (nex more lind : ℕ) (e : EntryNumber) → 1 ≤ e.0 → e.0 ≤ total_of g nex → nex ≤ more → slot_of g more lind e ≡ slot_of g nex lind e
unfolding slot_of
slot-more g nex more lind e h l m =
    sym (slot_held g more lind e (extension_for g nex e.0) (omega (arith, total-le g nex more m)) (extension-holds g nex e.0 h l).0)

-- the entry behind all of nex extensions has the first slot of the next
pub slot-begins : (g : Growth) (nex lind : ℕ) (e : EntryNumber) → e.0 ≡ total_of g nex + 1 → slot_of g (nex + 1) lind e ≡ slot_at (nex + 1) 1 lind
unfolding slot_of extension_for
slot-begins g nex lind e h =
    let last : suc nex - 1 ≡ nex = omega arith in
    let place : e.0 - total_of g nex ≡ 1 = omega arith in
    rw (add-one nex, lt-leb e.0 (total_of g nex) (omega arith), last, place)

-- place i of n places ends within them
place-within : (lind i n : ℕ) → 1 ≤ i → i ≤ n → (i - 1) * lind + lind ≤ n * lind
place-within lind i n h l = let q : i - 1 + 1 ≤ n = omega arith in omega (arith, mul-le-mul_right lind q)

-- a slot ends within its area
pub slot-within : (g : Growth) (nex lind e : ℕ) (s : Slot) → Stands g nex lind e s → s.offset + lind ≤ capacity_of g s.extension.0 * lind
slot-within g nex lind e s p = rw p.words (place-within lind s.place (capacity_of g s.extension.0) p.counted p.room)

-- ---- two slots

module _ (g : Growth) (nex lind : ℕ) (start : ℕ → ℕ) (apart : (k : ℕ) → 1 ≤ k → k < nex → start k + capacity_of g k * lind ≤ start (k + 1)) where
  -- where each area ends before the next one starts, each ends before every later one does
  pub areas-apart : (j k : ℕ) → 1 ≤ j → j < k → k ≤ nex → start j + capacity_of g j * lind ≤ start k
  areas-apart j k h l m =
      le_ind (λ i. i ≤ nex → start j + capacity_of g j * lind ≤ start i) (λ r. rw add-one at (apart j h (omega arith)))
      (λ i a f r. omega (arith, f (omega arith), rw add-one at (apart i (omega arith) (omega arith)))) k l m

  -- and the slots of an entry and of a later one share no word
  pub slots_apart : (d e : ℕ) (r s : Slot) → d < e → Stands g nex lind d r → Stands g nex lind e s
      → start r.extension.0 + r.offset + lind ≤ start s.extension.0 + s.offset
  slots_apart d e r s h p q =
      let order = total-before g (r.extension.0 - 1) s.extension.0 (omega (arith, p.held.behind, q.held.reached)) in
      elim (dec_le s.extension.0 r.extension.0) [
        | yes a ↦
            let x : r.extension.0 ≡ s.extension.0 = omega (arith, p.held.counted) in
            let later : r.place < s.place = omega (arith, p.number, q.number, ap (λ (k : ℕ). total_of g (k - 1)) x) in
            let words : r.offset + lind ≤ s.offset = rw (p.words, q.words) (place-within lind r.place (s.place - 1) p.counted (omega arith)) in
            omega (arith, ap start x)
        | no a ↦ omega (arith, areas-apart r.extension.0 s.extension.0 p.held.counted (lt_of_not-le a) q.used, slot-within g nex lind d r p)
      ]
