-- Laws of the index areas: one area more, what holds of fewer, and the bounds that the rules leave. Assumes nothing.
use native.Mathlib.Decide.{le_ind}
use Prim.Native.Nat.{ℕ, zero, suc, ◌+◌, ◌*◌, ◌-◌, ◌^◌, ◌≤◌, ◌<◌}
use mathlib.Core.Path.{◌≡◌, refl, ap, ◌∙◌}
use mathlib.Core.Bool.{Bool, true, false, cond, ◌&&◌}
use mathlib.Core.List.{List}
use Rattle.std.specs.Prelude.{Some, None, IfSome}
use native.Mathlib.Omega.{arith}
use native.Mathlib.Nat.{mul-le-mul, mul-le-mul_left, mul-le-mul_right}
use native.Mathlib.Numerals.{add-one}
use borrow.Author.Tests.{leb-true}
use mir.Syntax.{w64}
use Rattle.outcome.proofs.Either.{either}
use Rattle.words.specs.Word.{signed_of}
use Rattle.words.specs.Range.{at_least}
use Rattle.words.proofs.Ranges.{at_least-bounds}
use Rattle.words.proofs.Table.{places-at}
use Rattle.words.proofs.Runs.{Run, run-next, run-test}
use Rattle.geometry.specs.declared.units.RecordNumber.{RecordNumber}
use Rattle.geometry.specs.Units.{position_of}
use Rattle.geometry.specs.Growth.{capacity_of, Growing}
use Rattle.geometry.specs.Area.{area_records}
use Rattle.geometry.proofs.Capacities.{capacity-limit, over-fewer}
use Rattle.geometry.proofs.Slots.{records-least}
use Rattle.descriptor.specs.declared.numbers.DescriptorNumbers.{DescriptorNumbers}
use Rattle.descriptor.specs.FirstRecord.{aex_of, aex_at, addresses_of, growth_in, free_of}
use Rattle.descriptor.specs.Areas.{area_after, areas_start, areas_end}
use Rattle.descriptor.specs.Walking.{ordered_after, area_added, areas_hold}
use Rattle.descriptor.specs.Bounds.{Settled, Admitted}

-- an area has no more records than words
pub records-small : (capacity lind reclen : ℕ) → 1 ≤ reclen → capacity ≤ 16384 → lind ≤ 256 → area_records capacity lind reclen ≤ 2 ^ 22
records-small capacity lind reclen h c l =
    omega (arith, records-least (capacity * lind) reclen (capacity * lind) h (omega (arith, mul-le-mul_left (capacity * lind) h)), mul-le-mul c l)

-- where the areas start within a signed number, one more ends within 64 bits
pub ruleset records_few = (records-small, at_least-bounds)

-- the table of a file's addresses has at each place what the file has
pub aex-stored : (file : List ℕ) (nex i : ℕ) → i < nex → nex ≤ 16 → aex_of (addresses_of file nex) (i + 1) ≡ aex_at file i
unfolding addresses_of
aex-stored file nex i h l = let q : i + 1 - 1 ≡ i = omega arith in rw q (places-at 16 nex (aex_at file) (record { 0 = 0 }) i h l)

module _ (d : DescriptorNumbers) (addresses : List RecordNumber) where
  -- the record after no area
  pub record-none : area_after d addresses 0 ≡ record { 0 = 2 }
  unfolding area_after
  record-none = refl

  -- the record after one area more
  pub record-next : (k : ℕ) → area_after d addresses (k + 1) ≡ record { 0 = (aex_of addresses (k + 1)).0 + area_records (capacity_of (growth_in d) (k + 1)) d.lind d.reclen }
  unfolding area_after
  record-next k = rw add-one

  -- its number
  pub after_none : (area_after d addresses 0).0 ≡ 2
  after_none = ap (λ (r : RecordNumber). r.0) record-none

  -- the number of the record after one area more
  pub after_next : (k : ℕ) → (area_after d addresses (k + 1)).0 ≡ (aex_of addresses (k + 1)).0 + area_records (capacity_of (growth_in d) (k + 1)) d.lind d.reclen
  after_next k = ap (λ (r : RecordNumber). r.0) (record-next k)

  -- no area is out of order
  pub starts_none : areas_start d addresses 0 ≡ true
  unfolding areas_start
  starts_none = refl

  -- the test of area k + 1
  abbrev pub area_starts : ℕ → Bool
  area_starts k = at_least (area_after d addresses k).0 (signed_of w64 (aex_of addresses (k + 1)).0)

  -- the areas are in order where each of these tests holds
  pub starts-run : Run (areas_start d addresses) area_starts
  unfolding areas_start
  starts-run = record { next = λ k. rw add-one }

  -- an area in order starts where the one before it ends or later, at a record that is no negative number
  pub area-low : (k n : ℕ) → k < n → areas_start d addresses n ≡ true
      → ((area_after d addresses k).0 ≤ (aex_of addresses (k + 1)).0) × ((aex_of addresses (k + 1)).0 < 2 ^ 63)
  area-low k n h e =
      at_least-bounds w64 (area_after d addresses k).0 (aex_of addresses (k + 1)).0 (run-test starts-run k n h e)

  -- the record after some areas in order is 2 or later
  pub after-low : (k n : ℕ) → k ≤ n → areas_start d addresses n ≡ true → 2 ≤ (area_after d addresses k).0
  after-low zero n h e = omega (arith, after_none)
  after-low (suc k) n h e =
      let q : suc k ≡ k + 1 = omega arith in
      rw q (omega (arith, after_next k, (area-low k n h e).0, after-low k n (omega arith) e))

  -- the record after no area in order
  pub ordered-none : ordered_after d addresses 0 ≡ Some (record { 0 = 2 })
  unfolding ordered_after areas_start
  ordered-none = ap Some record-none

  -- after areas in order it is the record after the last, and there is none otherwise
  pub ordered-is : (k : ℕ) (b : Bool) → areas_start d addresses k ≡ b → ordered_after d addresses k ≡ cond b (Some (area_after d addresses k)) None
  unfolding ordered_after
  ordered-is k b e = ap (λ (t : Bool). cond t (Some (area_after d addresses k)) None) e

  -- it is no record 0
  pub ordered-low : (k : ℕ) → IfSome (ordered_after d addresses k) (λ r. 1 ≤ r.0)
  ordered-low k = either (areas_start d addresses k) (λ q. rw (ordered-is k true q) (omega (arith, after-low k k (omega arith) q))) (λ q. rw (ordered-is k false q) tt)

  -- one area more adds to it what the code adds
  pub ordered-next : (k : ℕ) → area_added d (ordered_after d addresses k) (aex_of addresses (k + 1)) (capacity_of (growth_in d) (k + 1)) ≡ ordered_after d addresses (k + 1)
  unfolding area_added
  ordered-next k = either (areas_start d addresses k) (λ q.
      let test = run-next starts-run k q in
      rw (ordered-is k true q, ordered-is (k + 1) (area_starts k) test, record-next k))
      (λ q.
      let failed = starts-run.next k ∙ ap (λ (b : Bool). b && area_starts k) q in
      rw (ordered-is k false q, ordered-is (k + 1) false failed))

  -- rule 11 by it is rule 11
  pub hold-is : areas_hold d (ordered_after d addresses d.nex) ≡ areas_start d addresses d.nex && areas_end d addresses
  unfolding areas_hold areas_end
  hold-is = either (areas_start d addresses d.nex) (λ q. rw (ordered-is d.nex true q, q)) (λ q. rw (ordered-is d.nex false q, q))

-- the growth of settled numbers, as the code asks for it
pub growing : (d : DescriptorNumbers) (k : ℕ) → Settled d → k ≤ d.nex → Growing (growth_in d) k
growing d k s h = record {
  lex1-high = s.lex1-high;
  gex-high = s.gex-high;
  within = over-fewer (growth_in d) k d.nex h s.within;
}

-- what the code asks before it counts the records of an extension in use
module _ (d : DescriptorNumbers) (k : ℕ) (s : Settled d) (low : 1 ≤ k) (high : k ≤ d.nex) where
  -- of its capacity
  pub area-asks : {c : ℕ} → c ≡ capacity_of (growth_in d) k → (c ≤ 16384) × (d.lind ≤ 256) × (1 ≤ d.reclen) × (d.reclen ≤ 4096)
  area-asks e = let limit = capacity-limit (growth_in d) k d.nex low high s.within in omega arith

-- ---- where the areas of an admitted file end

module _ (bytes : ℕ) (d : DescriptorNumbers) (addresses : List RecordNumber) (a : Admitted bytes d addresses) where
  -- more areas end no earlier
  pub after-le : (k n : ℕ) → k ≤ n → n ≤ d.nex → (area_after d addresses k).0 ≤ (area_after d addresses n).0
  after-le k n = le_ind (λ (m : ℕ). m ≤ d.nex → (area_after d addresses k).0 ≤ (area_after d addresses m).0) (λ l. omega arith) (λ m h f l.
      let q : suc m ≡ m + 1 = omega arith in
      rw q (omega (arith, f (omega arith), after_next d addresses m, (area-low d addresses m d.nex l a.started).0))) n

  -- each area ends at or before the next free position
  pub area-ends : (k : ℕ) → k ≤ d.nex → ((area_after d addresses k).0 - 1) * d.reclen ≤ free_of d
  unfolding areas_end position_of
  area-ends k h =
      let last = leb-true (((area_after d addresses d.nex).0 - 1) * d.reclen + (1 - 1)) (free_of d) a.ended in
      let less : (area_after d addresses k).0 - 1 ≤ (area_after d addresses d.nex).0 - 1 = omega (arith, after-le k d.nex h (omega arith)) in
      omega (arith, mul-le-mul_right d.reclen less)

  area-at : (k : ℕ) → 1 ≤ k → k ≤ d.nex
      → (2 ≤ (aex_of addresses k).0) × ((area_after d addresses k).0 ≡ (aex_of addresses k).0 + area_records (capacity_of (growth_in d) k) d.lind d.reclen)
  area-at k h l =
      let q : k - 1 + 1 ≡ k = omega arith in
      let next = rw q at (after_next d addresses (k - 1)) in
      let low = rw q at (area-low d addresses (k - 1) d.nex (omega arith) a.started) in
      (omega (arith, after-low d addresses (k - 1) d.nex (omega arith) a.started), next)

  -- an area from its first word to its last
  pub area-words : (k : ℕ) → 1 ≤ k → k ≤ d.nex
      → position_of d.reclen (aex_of addresses k) (record { 0 = 1 }) + area_records (capacity_of (growth_in d) k) d.lind d.reclen * d.reclen
      ≡ ((area_after d addresses k).0 - 1) * d.reclen
  unfolding position_of
  area-words k h l =
      let at = area-at k h l in
      let t : (area_after d addresses k).0 - 1 ≡ (aex_of addresses k).0 - 1 + area_records (capacity_of (growth_in d) k) d.lind d.reclen = omega arith in
      rw t (omega arith)

  -- its first record
  pub area-first : (k : ℕ) → 1 ≤ k → k ≤ d.nex → (2 ≤ (aex_of addresses k).0) × ((aex_of addresses k).0 ≤ 2 ^ 32)
  area-first k h l =
      let some : 1 ≤ d.reclen = omega (arith, a.settled.reclen-low) in
      omega (arith, area-at k h l, area-ends k l, a.room, a.lent.high, mul-le-mul_left ((area_after d addresses k).0 - 1) some)
