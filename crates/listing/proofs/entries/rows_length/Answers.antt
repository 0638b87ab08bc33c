-- A row that was measured is the next of those that are left, and behind the last none is.
use Rattle.std.proofs.Common.{◌≡◌, ◌+◌, ap, arith, length}
use Rattle.descriptor.specs.FirstRecord.{addresses_of}
use Rattle.listing.proofs.Areas.{entries-room}
use Rattle.listing.proofs.Lines.{rest_of, length-next, rest-none, rest-all, rows_short}
use Rattle.listing.proofs.entries.rows_length.Goals as goal
use Rattle.listing.proofs.entries.rows_length.Goals.{After-len-sum}

-- with the row that was measured the sum and the length of the rows that are left make up the length of all
more : (c : After-len-sum) → let n = c.entries_before-number-end.result in
    c.loop-number.sum + c.len-sum.result + length (rest_of c.args.file.now c.args.d n (c.loop-number.number + 1)) ≡ length (rest_of c.args.file.now c.args.d n 1)
more c = omega (arith, length-next _ _ _ _ _ _ c.loop-number-test.true c.row_at.ensures, c.loop-number.invariant, c.len-sum.ensures.value)

pub overflow_add-sum : goal.overflow_add-sum
overflow_add-sum c =
    let a = c.requires.0.admitted in
    let addresses = addresses_of c.args.file.now c.args.d.nex in
    let all = rest-all c.args.file.now c.args.d addresses _ c.entries_before-number-end.ensures in
    omega (
      arith,
      more (goal.at.overflow_add-sum c).After-len-sum,
      ap length all,
      rows_short c.args.file.now c.args.d addresses,
      entries-room _ _ _ a,
      a.lent.high,
    )

pub loop-number-preserved : goal.loop-number-preserved
loop-number-preserved c = more (goal.at.loop-number-preserved c).After-len-sum

pub returns : goal.returns
returns c =
    let addresses = addresses_of c.args.file.now c.args.d.nex in
    omega (
      arith,
      c.loop-number.invariant,
      ap length (rest-none c.args.file.now c.args.d addresses _ _ c.loop-number-test.false),
      ap length (rest-all c.args.file.now c.args.d addresses _ c.entries_before-number-end.ensures),
    )

pub returns-2 : goal.returns-2
returns-2 c =
    let addresses = addresses_of c.args.file.now c.args.d.nex in
    omega (
      arith,
      more (goal.at.returns-2 c).After-len-sum,
      ap length (rest-none c.args.file.now c.args.d addresses c.entries_before-number-end.result (c.loop-number.number + 1) (omega arith)),
      ap length (rest-all c.args.file.now c.args.d addresses _ c.entries_before-number-end.ensures),
    )
