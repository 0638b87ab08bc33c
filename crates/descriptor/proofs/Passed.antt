-- What the rules leave once they are passed. Assumes nothing.
use Prim.Native.Nat.{ℕ, ◌+◌, ◌*◌, ◌-◌, ◌/◌, ◌%◌, ◌^◌, ◌≤◌, ◌<◌}
use mathlib.Core.Path.{◌≡◌, ap, ◌∙◌}
use mathlib.Core.Bool.{true, false, not, cond}
use mathlib.Core.List.{List, [], ◌∷◌}
use native.Mathlib.Omega.{arith}
use native.Mathlib.Nat.{mul-le-mul_left, mul-le-mul_right, mod-eq_of_lt, lt_of_not-le}
use native.Mathlib.Decide.{dec_le}
use borrow.Author.Tests.{leb-true, eqb-true, not-true}
use borrow.Author.Rules.{rules}
use lib.Dec.{leb, eqb}
use lib.ListN.{length}
use mir.Syntax.{w32, w64}
use Rattle.outcome.proofs.Either.{either}
use Rattle.words.specs.Word.{signed_of}
use Rattle.words.specs.Range.{within, at_least}
use Rattle.words.proofs.Ranges.{within-bounds, at_least-bounds}
use Rattle.geometry.specs.declared.units.RecordNumber.{RecordNumber}
use Rattle.geometry.specs.declared.units.WordNumber.{WordNumber}
use Rattle.geometry.specs.Units.{position_of}
use Rattle.geometry.specs.Growth.{over_of}
use Rattle.descriptor.specs.declared.numbers.DescriptorNumbers.{DescriptorNumbers}
use Rattle.descriptor.specs.Refusal.{row, refusal_in}
use Rattle.descriptor.specs.FirstRecord.{mex_of, growth_in, free_of}
use Rattle.descriptor.specs.Rules.{limit_rules, setting_rules, filling_rules, limit_refusal, setting_refusal, filling_refusal}
use Rattle.descriptor.specs.Bounds.{Limited, Settled, Narrow, Lent, Free, Admitted}
use Rattle.descriptor.proofs.Refusals.{number_low, all_hold, hold-split, refusal-none, refusal-append}

-- mex is 16 at most
pub mex-high : (reclen : ℕ) → mex_of reclen ≤ 16
unfolding mex_of
mex-high reclen = omega arith

mex-room : (reclen nex : ℕ) → 16 ≤ reclen → nex ≤ mex_of reclen → 14 + 2 * nex ≤ reclen
unfolding mex_of
mex-room reclen nex h l = omega arith

-- whole records and something: one record at least
one-record : (bytes r : ℕ) → bytes % r ≡ 0 → 64 ≤ bytes → r ≤ bytes
one-record bytes r e h =
    elim (dec_le r bytes) [ yes l ↦ l | no l ↦ absurd (omega (arith, mod-eq_of_lt (lt_of_not-le l))) ]

-- rules 2 to 8 but for the capacities, one by one
pub record LimitsHold (bytes : ℕ) (d : DescriptorNumbers) : Type 0 where
  pub order : within 0 1 (signed_of w32 d.order.0) ≡ true
  pub reclen : within 16 4096 (signed_of w32 d.reclen) ≡ true
  pub lent : leb bytes (2 ^ 30) ≡ true
  pub whole : eqb (bytes % (4 * d.reclen)) 0 ≡ true
  pub kind : within 1 3 (signed_of w32 d.kind) ≡ true
  pub vind : at_least 2 (signed_of w32 d.vind) ≡ true
  pub lind : within 3 256 (signed_of w32 d.lind) ≡ true
  pub flags : within 0 1 (signed_of w32 d.flags) ≡ true
  pub lex1 : within 1 4096 (signed_of w32 d.lex1) ≡ true
  pub gex : within 10 20 (signed_of w32 d.gex) ≡ true
  pub nex : within 0 (mex_of d.reclen) (signed_of w32 d.nex) ≡ true

module _ (bytes : ℕ) (d : DescriptorNumbers) where
  -- they hold where there is no refusal
  pub limit-rows : limit_refusal bytes d ≡ 0 → LimitsHold bytes d
  unfolding limit_refusal
  limit-rows e = let rows = all_hold (limit_rules bytes d) (omega arith) e in search rules

  -- the settings that pass them are within their limits
  pub limited : limit_refusal bytes d ≡ 0 → Limited d
  limited e =
      let a = limit-rows e in
      let reclen = within-bounds w32 16 4096 d.reclen (omega arith) a.reclen in
      let lind = within-bounds w32 3 256 d.lind (omega arith) a.lind in
      let lex1 = within-bounds w32 1 4096 d.lex1 (omega arith) a.lex1 in
      let gex = within-bounds w32 10 20 d.gex (omega arith) a.gex in
      let nex = within-bounds w32 0 (mex_of d.reclen) d.nex (omega (arith, mex-high d.reclen)) a.nex in
      let most = mex-high d.reclen in
      let room = mex-room d.reclen d.nex reclen.0 nex.1 in
      search rules

  -- the settings are refused by their limits, and then by the capacities
  pub setting-parts : setting_refusal bytes d ≡ cond (eqb (limit_refusal bytes d) 0) (cond (over_of (growth_in d) d.nex) 8 0) (limit_refusal bytes d)
  unfolding limit_refusal setting_refusal
  setting-parts =
      refusal-append (limit_rules bytes d) (row 8 (not (over_of (growth_in d) d.nex)) ∷ []) (omega arith)
      ∙ ap (λ (n : ℕ). cond (eqb (refusal_in (limit_rules bytes d)) 0) n (refusal_in (limit_rules bytes d))) (either (over_of (growth_in d) d.nex) (λ q. rw q) (λ q. rw q))

  -- so settings with no refusal pass both
  pub setting-passed : setting_refusal bytes d ≡ 0 → (limit_refusal bytes d ≡ 0) × (over_of (growth_in d) d.nex ≡ false)
  unfolding limit_refusal setting_refusal
  setting-passed e =
      let rows = hold-split (limit_rules bytes d) (row 8 (not (over_of (growth_in d) d.nex)) ∷ []) (all_hold (setting_rules bytes d) (omega arith) e) in
      (refusal-none (limit_rules bytes d) rows.0, not-true (over_of (growth_in d) d.nex) rows.1.0)

  -- and are within their limits, with their capacities
  pub settled : setting_refusal bytes d ≡ 0 → Settled d
  settled e =
      let a = limited (setting-passed e).0 in
      let within = (setting-passed e).1 in
      search rules

  -- so each fits its field, if nextword does
  pub narrow : setting_refusal bytes d ≡ 0 → d.nextword.0 < 2 ^ 32 → Narrow d
  narrow e h =
      let s = settled e in
      let a = limit-rows (setting-passed e).0 in
      record {
        order = omega (arith, (within-bounds w32 0 1 d.order.0 (omega arith) a.order).1);
        reclen = omega (arith, s.reclen-high);
        kind = omega (arith, (within-bounds w32 1 3 d.kind (omega arith) a.kind).1);
        vind = omega (arith, (at_least-bounds w32 2 d.vind a.vind).1);
        lind = omega (arith, s.lind-high);
        flags = omega (arith, (within-bounds w32 0 1 d.flags (omega arith) a.flags).1);
        nextword = h;
        lex1 = omega (arith, s.lex1-high);
        nex = omega (arith, s.nex-high);
        gex = omega (arith, s.gex-high);
      }

  -- and the bytes lent are whole records, one at least
  pub lent : limit_refusal bytes d ≡ 0 → 64 ≤ bytes → Lent bytes d
  lent e h =
      let a = limit-rows e in
      let whole = eqb-true (bytes % (4 * d.reclen)) 0 a.whole in
      record { high = leb-true bytes (2 ^ 30) a.lent; whole = whole; first = one-record bytes (4 * d.reclen) whole h }

-- how the settings are refused, by their limits and then by the capacities
pub ruleset setting_parts = (setting-parts, number_low)

-- a place that the rules admit: its record and its word
pub place-low : (d : DescriptorNumbers) (r w : ℕ) → Settled d → at_least 2 (signed_of w64 r) ≡ true → within 1 d.reclen (signed_of w32 w) ≡ true → (2 ≤ r) × (1 ≤ w) × (w ≤ d.reclen)
place-low d r w s p q =
    let records = at_least-bounds w64 2 r p in
    let words = within-bounds w32 1 d.reclen w (omega arith) q in
    omega arith

-- and one that stands within a file, whose record is then no great number
pub place-bounds : (d : DescriptorNumbers) (r : RecordNumber) (w : WordNumber) → Settled d → at_least 2 (signed_of w64 r.0) ≡ true → within 1 d.reclen (signed_of w32 w.0) ≡ true
    → position_of d.reclen r w ≤ 2 ^ 28 → (2 ≤ r.0) × (r.0 ≤ 2 ^ 32) × (1 ≤ w.0) × (w.0 ≤ d.reclen)
unfolding position_of
place-bounds d r w s p q h =
    let low = place-low d r.0 w.0 s p q in
    let some : 1 ≤ d.reclen = omega arith in
    omega (arith, mul-le-mul_left (r.0 - 1) some)

-- a place in record 2 or later stands behind the first record
pub place-behind : (reclen : ℕ) (r : RecordNumber) (w : WordNumber) → 2 ≤ r.0 → reclen ≤ position_of reclen r w
unfolding position_of
place-behind reclen r w h = let some : 1 ≤ r.0 - 1 = omega arith in omega (arith, mul-le-mul_right reclen some)

-- numbers and addresses that pass all rules are admitted
pub admitted : (bytes : ℕ) (d : DescriptorNumbers) (addresses : List RecordNumber) → length addresses ≡ 16 → 64 ≤ bytes → setting_refusal bytes d ≡ 0 → filling_refusal bytes d addresses ≡ 0 → Admitted bytes d addresses
unfolding filling_refusal
admitted bytes d addresses t h e f =
    let (xnext, (fit, (nextrec, (nextword, (within, (started, (ended, _))))))) = all_hold (filling_rules bytes d addresses) (omega arith) f in
    let s = settled bytes d e in
    let l = lent bytes d (setting-passed bytes d e).0 h in
    let counted = (at_least-bounds w64 1 d.xnext.0 xnext).0 in
    let room = leb-true (free_of d) (bytes / 4) within in
    let free : Free d = omega (arith, place-bounds d d.nextrec d.nextword s nextrec nextword (omega arith)) in
    search rules
