-- A row that was written is the next of those that are left, and behind the last none is.
use Rattle.std.proofs.Common.{rules, ◌≡◌, ◌+◌, ◌≤◌, ℕ, List, refl, ap, ◌∙◌, arith, length}
use Rattle.image.specs.Image.{splice}
use Rattle.descriptor.specs.FirstRecord.{addresses_of}
use Rattle.listing.proofs.Laid.{Laid, laid_none, laid_on}
use Rattle.listing.proofs.Lines.{rest_of, rest-next, length-next, rest-none, rest-all}
use Rattle.listing.proofs.entries.put_rows.Goals as goal
use Rattle.listing.proofs.entries.put_rows.Goals.{After-as_bytes, After-len-next}

-- what is written is the row
shown : (c : After-as_bytes) → c.as_bytes.result.now ≡ c.row_at-row.result.bytes
shown c = c.as_bytes.ensures.value ∙ c.as_str.ensures.value

-- it fits behind those before it
fits : (c : After-as_bytes) → c.loop-entry.next + length c.as_bytes.result.now ≤ length c.loop-entry.out
fits c =
    let left = (c.loop-entry.invariant.rest _ _ (refl, refl)).0 in
    omega (
      arith,
      left,
      ap length (shown c),
      length-next _ _ _ _ _ _ c.loop-entry-test.true c.row_at-row.ensures,
      ap length (rest-all c.args.file.now c.args.d (addresses_of c.args.file.now c.args.d.nex) _ c.entries_before-entry-end.ensures),
      c.loop-entry.invariant.long,
      c.requires.2,
    )

-- and written there the rows that are left are those behind it
next : (c : After-len-next) → c.as_bytes.result.now ≡ c.row_at-row.result.bytes → (behind : ℕ) (after : List ℕ)
    → Laid c.put.new.image (c.loop-entry.next + c.len-next.result) (rest_of c.args.file.now c.args.d c.entries_before-entry-end.result (c.loop-entry.entry + 1)) behind after
    → Laid c.args.out.now c.args.at (rest_of c.args.file.now c.args.d c.entries_before-entry-end.result 1) behind after
next c shown behind after w =
    let row = c.row_at-row.result.bytes in
    let here : Laid c.loop-entry.out c.loop-entry.next row (c.loop-entry.next + c.len-next.result) c.put.new.image =
    (ap (λ (n : ℕ). c.loop-entry.next + n) c.len-next.ensures.value, c.put.ensures ∙ ap (splice c.loop-entry.out c.loop-entry.next) shown) in
    c.loop-entry.invariant.rest behind after
    (rw (rest-next _ _ _ c.entries_before-entry-end.result c.loop-entry.entry row c.loop-entry-test.true c.row_at-row.ensures) (laid_on _ _ row _ here w))

pub put-requires : goal.put-requires
put-requires c = fits (goal.at.put-requires c).After-as_bytes

pub overflow_add-next : goal.overflow_add-next
overflow_add-next c =
    let at = (goal.at.overflow_add-next c).After-as_bytes in
    omega (arith, fits at, ap length (shown at), c.len-next.ensures.value)

pub loop-entry-preserved : goal.loop-entry-preserved
loop-entry-preserved c =
    let at = goal.at.loop-entry-preserved c in
    record { long = search rules; rest = next at.After-len-next (shown at.After-as_bytes) }

pub returns : goal.returns
returns c =
    let addresses = addresses_of c.args.file.now c.args.d.nex in
    let none = rest-none c.args.file.now c.args.d addresses _ _ c.loop-entry-test.false in
    let all = rest-all c.args.file.now c.args.d addresses _ c.entries_before-entry-end.ensures in
    rw (← all) (c.loop-entry.invariant.rest c.loop-entry.next c.loop-entry.out (rw none (laid_none _ _))).1

pub returns-2 : goal.returns-2
returns-2 c =
    let addresses = addresses_of c.args.file.now c.args.d.nex in
    let none = rest-none c.args.file.now c.args.d addresses c.entries_before-entry-end.result (c.loop-entry.entry + 1) (omega arith) in
    let all = rest-all c.args.file.now c.args.d addresses _ c.entries_before-entry-end.ensures in
    let at = goal.at.returns-2 c in
    rw (← all) (next at.After-len-next (shown at.After-as_bytes) (c.loop-entry.next + c.len-next.result) c.put.new.image (rw none (laid_none _ _))).1
