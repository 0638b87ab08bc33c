-- `entry::rules::start_refusal` meets its contract: each test is a row of the table, in its order. Assumes nothing.
use Rattle.std.proofs.Common.{◌≡◌, ℕ, ◌+◌, ◌-◌, ◌≤◌, Bool, sym, ◌∙◌, arith}
use native.Mathlib.Decide.{dec_le}
use native.Mathlib.Nat.{lt_of_not-le}
use borrow.Author.Tests.{le-leb, lt-leb}
use lib.Dec.{leb}
use Rattle.geometry.specs.declared.units.Place.{Place}
use Rattle.descriptor.specs.declared.numbers.DescriptorNumbers.{DescriptorNumbers}
use Rattle.descriptor.specs.FirstRecord.{free_of}
use Rattle.descriptor.specs.Bounds.{Settled, Free}
use Rattle.descriptor.proofs.Passed.{place-low, place-behind}
use Rattle.entry.specs.Opening.{start_of, start_refusal}
use Rattle.entry.proofs.rules.start_refusal.Goals as goal

-- the free position lies behind the first record
low : (d : DescriptorNumbers) → Settled d → Free d → 16 ≤ free_of d
low d s f = omega (arith, s.reclen-low, place-behind d.reclen d.nextrec d.nextword f.record-low)

-- the code subtracts where the rule adds
less : (a b : ℕ) → 11 ≤ b → leb a (b - 11) ≡ leb (a + 11) b
less a b h =
    elim (dec_le (a + 11) b) [
      | yes l ↦ le-leb a (b - 11) (omega arith) ∙ sym (le-leb (a + 11) b l)
      | no l ↦ let m = lt_of_not-le l in lt-leb a (b - 11) (omega arith) ∙ sym (lt-leb (a + 11) b m)
    ]

-- the last test is that of the table
room : (d : DescriptorNumbers) (place : Place) → 16 ≤ free_of d → {free : ℕ} {b : Bool} → free ≡ free_of d → b ≡ leb (start_of d place) (free - 11) → leb (start_of d place + 11) (free_of d) ≡ b
room d place l e q = sym (rw e at q ∙ less (start_of d place) (free_of d) (omega arith))

pub returns-then-not-at_least : goal.returns-then-not-at_least
unfolding start_refusal
returns-then-not-at_least c = rw (sym c.if-not-at_least.ensures)

pub returns-then-not-within : goal.returns-then-not-within
unfolding start_refusal
returns-then-not-within c = rw (sym c.if-not-at_least.ensures, sym c.if-not-within.ensures)

pub overflow_sub-free : goal.overflow_sub-free
overflow_sub-free c = omega (arith, c.free_position-free.ensures, low c.args.d c.requires.0 c.requires.1)

pub position_within-requires : goal.position_within-requires
position_within-requires c =
    let p = c.args.place in
    omega (arith, c.free_position-free.ensures, place-low c.args.d p.«record».0 p.word.0 c.requires.0 (sym c.if-not-at_least.ensures) (sym c.if-not-within.ensures))

pub returns-then-not-position_within : goal.returns-then-not-position_within
unfolding start_refusal
returns-then-not-position_within c =
    rw (sym c.if-not-at_least.ensures, sym c.if-not-within.ensures, room c.args.d c.args.place (low c.args.d c.requires.0 c.requires.1) c.free_position-free.ensures c.if-not-position_within.ensures)

pub returns : goal.returns
unfolding start_refusal
returns c =
    rw (sym c.if-not-at_least.ensures, sym c.if-not-within.ensures, room c.args.d c.args.place (low c.args.d c.requires.0 c.requires.1) c.free_position-free.ensures c.if-not-position_within.ensures)
