-- What the rules of creation leave once they are passed: numbers that fit the words of the first record, and room for it. Assumes nothing.
use Prim.Native.Nat.{ℕ, ◌*◌, ◌≤◌}
use mathlib.Core.Path.{◌≡◌}
use native.Mathlib.Omega.{arith}
use borrow.Author.Tests.{leb-true}
use Rattle.descriptor.specs.declared.numbers.Settings.{Settings}
use Rattle.descriptor.specs.FirstRecord.{created_of}
use Rattle.descriptor.specs.Rules.{setting_refusal, creation_rules}
use Rattle.descriptor.specs.Bounds.{Narrow}
use Rattle.descriptor.proofs.Refusals.{all_hold}
use Rattle.descriptor.proofs.Passed.{narrow, settled, lent, setting-passed}
use Rattle.writer.specs.Creation.{creation_refusal}

-- an accepted creation: the numbers fit, and the bytes hold the first record
pub created-fits : (bytes : ℕ) (s : Settings) → creation_refusal bytes s ≡ 0 → let d = created_of s in
    Narrow d × (16 ≤ d.reclen) × (d.reclen ≤ 4096) × (4 * d.reclen ≤ bytes)
unfolding creation_refusal setting_refusal created_of
created-fits bytes s e =
    let d = created_of s in
    let rows = all_hold (creation_rules bytes d) (omega arith) e in
    let passed : setting_refusal bytes d ≡ 0 = rw rows.0 at e in
    let p = settled bytes d passed in
    (narrow bytes d passed (omega arith), p.reclen-low, p.reclen-high, (lent bytes d (setting-passed bytes d passed).0 (leb-true 64 bytes rows.0)).first)
