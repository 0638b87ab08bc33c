-- The numbers and addresses after an accepted append are admitted again. Assumes nothing.
use Prim.Native.Nat.{ℕ, zero, suc, ◌+◌, ◌*◌, ◌-◌, ◌/◌, ◌^◌, ◌≤◌}
use mathlib.Core.Path.{◌≡◌, ◌∙◌}
use mathlib.Core.Bool.{true, false}
use mathlib.Core.List.{List}
use native.Mathlib.Omega.{arith}
use native.Mathlib.Nat.{le-div_iff_mul-le, div-le_self, mul-le-mul_right, le_of_mul-le-mul_right}
use borrow.Author.Tests.{le-leb, lt-ltb, le-ltb, eqb-true, eqb-false}
use lib.ListN.{length, length-set}
use lib.Seq.{get_or-set_same, get_or-set_other}
use mir.Syntax.{w64}
use Rattle.outcome.proofs.Either.{either}
use Rattle.words.proofs.Ranges.{at_least-bits}
use Rattle.words.proofs.Runs.{run-next}
use Rattle.geometry.specs.declared.units.RecordNumber.{RecordNumber}
use Rattle.geometry.specs.declared.growth.Growth.{Growth}
use Rattle.geometry.specs.Units.{position_of, place_of, entries_before}
use Rattle.geometry.specs.Growth.{capacity_of, total_of, over_of}
use Rattle.geometry.specs.Area.{records_for}
use Rattle.geometry.proofs.Positions.{position-place, place-word}
use Rattle.geometry.proofs.Capacities.{over-next, total-none, total-next, capacity-some}
use Rattle.geometry.proofs.Slots.{records-hold}
use Rattle.descriptor.specs.declared.numbers.DescriptorNumbers.{DescriptorNumbers}
use Rattle.descriptor.specs.FirstRecord.{aex_of, mex_of, growth_in, free_of}
use Rattle.descriptor.specs.Areas.{area_after, area_end_of, areas_start, areas_end}
use Rattle.descriptor.specs.Rules.{entries_fit}
use Rattle.descriptor.specs.Bounds.{Settled, Lent, Free, Admitted}
use Rattle.descriptor.proofs.Passed.{mex-high}
use Rattle.descriptor.proofs.Fitting.{fit_none, fit-some, fit-reach, fit-full}
use Rattle.descriptor.proofs.AreaOrder.{record-next, starts-run, area-ends}
use Rattle.placing.specs.Placing.{full, new_area, after_new_area, entry_start, nex_after, numbers_after, addresses_after}
use Rattle.placing.specs.Bounds.{Extensible}
use Rattle.placing.proofs.Places.{new-small, start-low}
use Rattle.placing.proofs.AreasAgree.{after_same, starts-same, after-agree, starts-agree}

-- ---- where things are put

module _ (bytes : ℕ) (d : DescriptorNumbers) (addresses : List RecordNumber) (a : Admitted bytes d addresses) where
  -- the areas in use end before the new one starts
  pub new-area-low : (area_after d addresses d.nex).0 ≤ (new_area d).0
  unfolding new_area
  new-area-low =
      let some : 1 ≤ d.reclen = omega (arith, a.settled.reclen-low) in
      let ends = area-ends bytes d addresses a d.nex (omega arith) in
      let reach = records-hold (free_of d) d.reclen some in
      let less : ((area_after d addresses d.nex).0 - 1) * d.reclen ≤ records_for (free_of d) d.reclen * d.reclen = omega arith in
      omega (arith, le_of_mul-le-mul_right less some)

-- the extensions in use after an append that makes one
pub nex-full : (d : DescriptorNumbers) → full d ≡ true → nex_after d ≡ d.nex + 1
unfolding nex_after
nex-full d q = rw q

-- and after one that makes none
pub nex-kept : (d : DescriptorNumbers) → full d ≡ false → nex_after d ≡ d.nex
unfolding nex_after
nex-kept d q = rw q

-- where entries fit the extensions in use and do not fill them, there is one
pub in_use : (g : Growth) (n k : ℕ) → entries_fit g k n ≡ true → (n ≡ total_of g k → ⊥) → 1 ≤ k
in_use g n zero e h = absurd (h (omega (arith, eqb-true n 0 (rw (fit_none g n) at e), total-none g)))
in_use g n (suc k) e h = omega arith

module _ (bytes : ℕ) (d : DescriptorNumbers) (addresses : List RecordNumber) (a : Admitted bytes d addresses) (x : Extensible d) where
  nex-high : nex_after d ≤ 16
  nex-high =
      either (full d)
      (λ q. rw (nex-full d q) (omega (arith, x.room q, mex-high d.reclen)))
      (λ q. rw (nex-kept d q) a.settled.nex-high)

  nex-room : 14 + 2 * nex_after d ≤ d.reclen
  unfolding mex_of
  nex-room =
      either (full d)
      (λ q. rw (nex-full d q) (omega (arith, x.room q, a.settled.reclen-low)))
      (λ q. rw (nex-kept d q) a.settled.nex-room)

  nex-within : over_of (growth_in d) (nex_after d) ≡ false
  nex-within =
      either (full d)
      (λ q. rw (nex-full d q) (over-next (growth_in d) d.nex a.settled.within ∙ le-ltb 16384 (capacity_of (growth_in d) (d.nex + 1)) (x.within q)))
      (λ q. rw (nex-kept d q) a.settled.within)

  -- one entry more fits
  nex-fit : entries_fit (growth_in d) (nex_after d) d.xnext.0 ≡ true
  unfolding full
  nex-fit = either (full d) at-full at_room
    where
      g : Growth
      g = growth_in d

      n : ℕ
      n = entries_before d.xnext

      at-full : full d ≡ true → entries_fit (growth_in d) (nex_after d) d.xnext.0 ≡ true
      at-full q =
          let all = eqb-true n (total_of g d.nex) q in
          let last : d.nex + 1 - 1 ≡ d.nex = omega arith in
          let more = capacity-some g a.settled.lex1-low a.settled.gex-low (d.nex + 1) (omega arith) in
          rw (nex-full d q, fit-some g d.xnext.0 (d.nex + 1) (omega arith), last)
          (rw (le-leb d.xnext.0 (total_of g (d.nex + 1)) (omega (arith, a.counted, total-next g d.nex)), lt-ltb (total_of g d.nex) d.xnext.0 (omega (arith, a.counted))))

      at_room : full d ≡ false → entries_fit (growth_in d) (nex_after d) d.xnext.0 ≡ true
      at_room q =
          let less = fit-reach g n d.nex a.fit in
          let other = eqb-false n (total_of g d.nex) q in
          let used = in_use g n d.nex a.fit other in
          rw (nex-kept d q, fit-some g d.xnext.0 d.nex used)
          (rw (le-leb d.xnext.0 (total_of g d.nex) (omega (arith, a.counted)), lt-ltb (total_of g (d.nex - 1)) d.xnext.0 (omega (arith, fit-full g n d.nex used a.fit))))

  -- the addresses in use stay
  pub addresses-kept : (k : ℕ) → 1 ≤ k → k ≤ d.nex → aex_of (addresses_after d addresses) k ≡ aex_of addresses k
  unfolding addresses_after
  addresses-kept k h l =
      either (full d)
      (λ q. rw q (get_or-set_other addresses d.nex (k - 1) (new_area d) (record { 0 = 0 }) (λ (e : k - 1 ≡ d.nex). omega arith)))
      (λ q. rw q)

  -- the new area has the next one
  pub address-new : full d ≡ true → aex_of (addresses_after d addresses) (d.nex + 1) ≡ new_area d
  unfolding addresses_after
  address-new q =
      let e : d.nex + 1 - 1 ≡ d.nex = omega arith in
      rw (q, e) (get_or-set_same addresses d.nex (new_area d) (record { 0 = 0 }) (omega (arith, a.table, x.room q, mex-high d.reclen)))

  addresses-long : length (addresses_after d addresses) ≡ 16
  unfolding addresses_after
  addresses-long =
      either (full d)
      (λ q. rw q (length-set addresses d.nex (new_area d) ∙ a.table))
      (λ q. rw q a.table)

  starts-kept : areas_start d (addresses_after d addresses) d.nex ≡ true
  starts-kept = starts-agree d (addresses_after d addresses) addresses d.nex (λ j h l. addresses-kept j h l) ∙ a.started

  after_kept : area_after d (addresses_after d addresses) d.nex ≡ area_after d addresses d.nex
  after_kept = after-agree d (addresses_after d addresses) addresses d.nex (λ h. addresses-kept d.nex h (omega arith))

  -- the areas keep their order: those in use, and the new one behind them
  starts-after : areas_start d (addresses_after d addresses) (nex_after d) ≡ true
  starts-after =
      either (full d)
      (λ q. rw (nex-full d q)
      (run-next (starts-run d (addresses_after d addresses)) d.nex starts-kept
      ∙ rw (
        after_kept,
        address-new q,
        at_least-bits w64 (area_after d addresses d.nex).0 (new_area d).0,
        le-leb (area_after d addresses d.nex).0 (new_area d).0 (new-area-low bytes d addresses a),
        lt-ltb (new_area d).0 (2 ^ 63) (omega (arith, new-small d a.settled (omega (arith, a.room, a.lent.high)))),
      )))
      (λ q. rw (nex-kept d q) starts-kept)

  -- the last area ends before the entry
  pub area-ends-after : area_end_of d (addresses_after d addresses) (nex_after d) ≤ entry_start d
  unfolding entry_start after_new_area position_of
  area-ends-after =
      either (full d)
      (λ q. rw (nex-full d q, record-next d (addresses_after d addresses) d.nex, address-new q, q) (omega arith))
      (λ q. rw (nex-kept d q, after_kept, q) (omega (arith, area-ends bytes d addresses a d.nex (omega arith))))

  -- ---- the numbers after an append whose entry ends within the bytes lent

  module _ (end : ℕ) (low : entry_start d ≤ end) (high : end ≤ bytes / 4) where
    -- the next free position is the entry's end
    pub free-after : free_of (numbers_after d end) ≡ end
    unfolding numbers_after
    free-after = position-place d.reclen end

    settled-after : Settled (numbers_after d end)
    unfolding numbers_after
    settled-after = record {
      reclen-low = a.settled.reclen-low;
      reclen-high = a.settled.reclen-high;
      lind-low = a.settled.lind-low;
      lind-high = a.settled.lind-high;
      lex1-low = a.settled.lex1-low;
      lex1-high = a.settled.lex1-high;
      gex-low = a.settled.gex-low;
      gex-high = a.settled.gex-high;
      nex-high = nex-high;
      nex-room = nex-room;
      within = nex-within;
    }

    lent-after : Lent bytes (numbers_after d end)
    unfolding numbers_after
    lent-after = record { high = a.lent.high; whole = a.lent.whole; first = a.lent.first }

    -- the entry ends behind the first record
    end_low : d.reclen ≤ end
    unfolding position_of
    end_low =
        let second : 1 ≤ d.nextrec.0 - 1 = omega (arith, a.free.record-low) in
        let more = mul-le-mul_right d.reclen second in
        omega (arith, start-low d a.settled)

    place_after : Free (numbers_after d end)
    unfolding numbers_after place_of
    place_after =
        let some : 1 ≤ d.reclen = omega (arith, a.settled.reclen-low) in
        record {
          record-low = omega (arith, (le-div_iff_mul-le {k = d.reclen} {x = 1} {y = end} some).1 (omega (arith, end_low)));
          record-high = omega (arith, div-le_self end d.reclen, a.lent.high);
          word_low = omega arith;
          word-high = place-word d.reclen end some;
        }

    counted-after : 1 ≤ (numbers_after d end).xnext.0
    unfolding numbers_after
    counted-after = omega arith

    fit-after : entries_fit (growth_in (numbers_after d end)) (numbers_after d end).nex (entries_before (numbers_after d end).xnext) ≡ true
    unfolding numbers_after
    fit-after =
        let e : d.xnext.0 + 1 - 1 ≡ d.xnext.0 = omega arith in
        rw e nex-fit

    starts-last : areas_start d (addresses_after d addresses) (numbers_after d end).nex ≡ true
    unfolding numbers_after
    starts-last = starts-after

    started-after : areas_start (numbers_after d end) (addresses_after d addresses) (numbers_after d end).nex ≡ true
    started-after = starts-same d end (addresses_after d addresses) (numbers_after d end).nex ∙ starts-last

    ends_last : position_of (numbers_after d end).reclen (area_after d (addresses_after d addresses) (numbers_after d end).nex) (record { 0 = 1 }) ≤ end
    unfolding numbers_after
    ends_last = omega (arith, area-ends-after)

    ended-after : areas_end (numbers_after d end) (addresses_after d addresses) ≡ true
    unfolding areas_end
    ended-after = rw (after_same d end (addresses_after d addresses) (numbers_after d end).nex, free-after) (le-leb _ _ ends_last)

    -- so the numbers and addresses are admitted again
    pub kept : Admitted bytes (numbers_after d end) (addresses_after d addresses)
    kept = record {
      settled = settled-after;
      lent = lent-after;
      counted = counted-after;
      fit = fit-after;
      free = place_after;
      room = rw free-after high;
      started = started-after;
      ended = ended-after;
      table = addresses-long;
    }
