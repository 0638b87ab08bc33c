-- The first total that reaches the entry is that of the extension that holds it. Assumes nothing.
use Rattle.std.proofs.Common.{◌≡◌, ℕ, ◌+◌, ◌-◌, ◌≤◌, ◌<◌, Some, ap, ◌∙◌, arith, rules, tests}
use Rattle.std.proofs.Math.Nat.{mul-le-mul}
use Rattle.std.proofs.lemmas.Iterator.{IsFirst-from_position, YieldsList-from_slice}
use Rattle.geometry.specs.Growth.{total_of}
use Rattle.geometry.specs.Area.{slot_at}
use Rattle.geometry.specs.Totals.{total_before}
use Rattle.geometry.proofs.Capacities.{total-last, capacity-limit}
use Rattle.geometry.proofs.TotalTables.{before-total}
use Rattle.geometry.proofs.Slots.{Holds, slot_held}
use Rattle.descriptor.specs.FirstRecord.{growth_in}
use Rattle.descriptor.proofs.Reached.{Position, position-some, position-holds}
use Rattle.descriptor.proofs.inner.slots.slot_in_use.Goals as goal
use Rattle.descriptor.proofs.inner.slots.slot_in_use.Goals.{After-position}

-- what the position says
said : (c : After-position) → Position (growth_in c.args.d) c.args.d.nex c.requires.1 c.requires.0.nex-high c.args.entry.0 c.requires.2 c.requires.3 c.position.result
said c = IsFirst-from_position _ _ c.position.result (λ t. c.args.entry.0 ≤ t) (λ t. t < c.args.entry.0) c.position.ensures.ran
    (YieldsList-from_slice _ c.iter.ensures.rest) (λ x q k. search (rules, tests)) (λ x q k. search (rules, tests))

-- so the extension there holds the entry,
holds : (p : After-position) (i : ℕ) → p.position.result ≡ Some i → (i < p.args.d.nex) × Holds (growth_in p.args.d) p.args.entry.0 (i + 1)
holds p i e = position-holds (growth_in p.args.d) p.args.d.nex p.requires.1 p.requires.0.nex-high p.args.entry.0 p.requires.2 p.requires.3 p.position.result i (said p) e

-- the table tells what those before it hold together,
earlier : (p : After-position) (i t : ℕ) → p.position.result ≡ Some i → t ≡ total_before p.args.totals.now (i + 1) → t ≡ total_of (growth_in p.args.d) (i + 1 - 1)
earlier p i t e q = q ∙ before-total (growth_in p.args.d) p.args.d.nex p.requires.1 p.requires.0.nex-high (i + 1) (omega (arith, (holds p i e).0))

-- and the entry has no more places there than an extension may have
near : (p : After-position) (i t : ℕ) → p.position.result ≡ Some i → t ≡ total_before p.args.totals.now (i + 1) → p.args.entry.0 - t - 1 ≤ 16384
near p i t e q =
    let g = growth_in p.args.d in
    let h = holds p i e in
    let own = capacity-limit g (i + 1) p.args.d.nex (omega arith) (omega (arith, h.0)) p.requires.0.within in
    omega (arith, h.1.reached, total-last g (i + 1) (omega arith), earlier p i t e q, own)

pub unwrap-passed-requires : goal.unwrap-passed-requires
unwrap-passed-requires c =
    let p = (goal.at.unwrap-passed-requires c).After-position in
    position-some (growth_in p.args.d) p.args.d.nex p.requires.1 p.requires.0.nex-high p.args.entry.0 p.requires.2 p.requires.3 p.position.result (said p)

pub overflow_sub-place : goal.overflow_sub-place
overflow_sub-place c =
    let p = (goal.at.overflow_sub-place c).After-position in
    omega (arith, (holds p _ c.unwrap-passed.ensures).1.behind, earlier p _ _ c.unwrap-passed.ensures c.total_before.ensures)

pub overflow_sub-result : goal.overflow_sub-result
overflow_sub-result c =
    let p = (goal.at.overflow_sub-result c).After-position in
    omega (arith, (holds p _ c.unwrap-passed.ensures).1.behind, earlier p _ _ c.unwrap-passed.ensures c.total_before.ensures)

pub overflow_mul-result : goal.overflow_mul-result
overflow_mul-result c =
    let p = (goal.at.overflow_mul-result c).After-position in
    omega (arith, mul-le-mul (near p _ _ c.unwrap-passed.ensures c.total_before.ensures) c.requires.0.lind-high)

pub returns : goal.returns
returns c =
    let p = (goal.at.returns c).After-position in
    let d = c.args.d in
    let i = c.unwrap-passed.result in
    ap (λ (before : ℕ). slot_at (i + 1) (c.args.entry.0 - before) d.lind) (earlier p i _ c.unwrap-passed.ensures c.total_before.ensures)
    ∙ slot_held (growth_in d) d.nex d.lind c.args.entry (i + 1) c.requires.3 (holds p i c.unwrap-passed.ensures).1
