-- `entry::inner::slot_position` meets its contract. Assumes nothing.
use Prim.Native.Nat.{ℕ, ◌+◌, ◌-◌}
use mathlib.Core.Path.{◌≡◌, sym, ap, ◌∙◌}
use native.Mathlib.Omega.{arith}
use lib.ListN.{length}
use Rattle.geometry.specs.declared.units.RecordNumber.{RecordNumber}
use Rattle.geometry.specs.declared.area.Slot.{Slot}
use Rattle.geometry.specs.Units.{position_of, entries_before}
use Rattle.geometry.proofs.Slots.{Stands}
use Rattle.descriptor.specs.FirstRecord.{growth_in, addresses_of, aex_of}
use Rattle.descriptor.proofs.Fitting.{fit-reach}
use Rattle.descriptor.proofs.AreaOrder.{aex-stored, area-first}
use Rattle.entry.specs.Opening.{slot_position_of}
use Rattle.entry.proofs.Entering.{slot-found, slot-inside}
use Rattle.entry.proofs.inner.slot_position.Statement.{statement}
use Rattle.entry.proofs.inner.slot_position.Tie as tie

abbrev begin : tie.After-slot_in_use-slot → tie.Start
begin c = c.before.before.before

-- the slot that the code finds stands in an area in use
stands : (c : tie.After-slot_in_use-slot) → let s = begin c in Stands (growth_in s.args.d) s.args.d.nex s.args.d.lind s.args.number.0 c.slot_in_use-slot.result
stands c =
    let s = begin c in
    slot-found (length s.args.file.now) s.args.d _ s.requires.0.admitted s.args.number s.requires.2 s.requires.3 c.slot_in_use-slot.ensures

-- which starts where the file says
first : (c : tie.After-aex_in-first) → let s = begin c.before.before.before in c.aex_in-first.result ≡ aex_of (addresses_of s.args.file.now s.args.d.nex) c.before.slot_in_use-slot.result.extension.0
first c =
    let s = begin c.before.before.before in
    let u = stands c.before.before.before in
    let k = c.before.slot_in_use-slot.result.extension.0 in
    let q : k - 1 + 1 ≡ k = omega (arith, u.held.counted) in
    c.aex_in-first.ensures ∙ (rw q at (sym (aex-stored s.args.file.now s.args.d.nex (k - 1) (omega (arith, u.held.counted, u.used)) s.requires.0.admitted.settled.nex-high)))

-- and what the code adds is its position
sum : (c : tie.After-struct_known-1) → let s = begin c.before.before.before.before.before in
    c.before.position.result + c.before.before.before.slot_in_use-slot.result.offset ≡ slot_position_of s.args.d (addresses_of s.args.file.now s.args.d.nex) s.args.number
unfolding slot_position_of
sum c =
    let a = (begin c.before.before.before.before.before).args in
    let found = c.before.before.before.slot_in_use-slot in
    let area = c.before.position.ensures ∙ ap (λ (r : RecordNumber). position_of a.d.reclen r (record { 0 = 1 })) (first c.before.before) in
    ap (λ (p : ℕ). p + found.result.offset) area
    ∙ ap (λ (s : Slot). position_of a.d.reclen (aex_of (addresses_of a.file.now a.d.nex) s.extension.0) (record { 0 = 1 }) + s.offset) found.ensures

pub slot_position_spec : {M : Type 1} → statement M
slot_position_spec =
    tie.close
    (tie.spec
    (λ c κs.
    let s = c.before.before in
    let d = s.args.d in
    let a = s.requires.0.admitted in
    (a.settled, s.requires.1, s.requires.2, omega (arith, s.requires.3, fit-reach (growth_in d) (entries_before d.xnext) d.nex a.fit)))
    (λ c κs.
    let s = begin c.before.before in
    let u = stands c.before.before in
    let a = s.requires.0.admitted in
    (s.requires.0.order, u.held.counted, omega (arith, u.used, a.settled.nex-high), omega (arith, u.used, a.settled.nex-room, a.lent.first)))
    (λ c κs.
    let s = begin c.before.before.before in
    let u = stands c.before.before.before in
    rw (first c) (omega (arith, area-first (length s.args.file.now) s.args.d _ s.requires.0.admitted _ u.held.counted u.used, s.requires.0.admitted.settled.reclen-high)))
    (λ c.
    let s = begin c.before.before.before.before.before in
    let a = s.requires.0.admitted in
    omega (arith, sum c, slot-inside (length s.args.file.now) s.args.d _ a s.args.number s.requires.2 s.requires.3, a.room, a.lent.high))
    sum)
