-- `order::checking::check_order` meets its contract: the file is validated, and its entries are checked. Assumes nothing.
use Rattle.std.proofs.Common.{◌∙◌}
use Rattle.descriptor.proofs.Answered.{Admits, case-told, case-left}
use Rattle.order.proofs.Checks.{check-refused, check-numbers}
use Rattle.order.proofs.checking.check_order.Goals as goal
use Rattle.order.proofs.checking.check_order.Goals.{In-Numbers}

-- what the numbers that validating gave show
shown : (c : In-Numbers) → Admits c.args.file.now c.in-Numbers.d c.admit-case.new.totals
shown c = case-told _ c.admit-case.result c.admit-case.ensures.0 c.admit-case.ensures.1 c.in-Numbers.is

pub returns-in_default : goal.returns-in_default
returns-in_default c = check-refused _ (case-left _ c.admit-case.result c.admit-case.ensures.0 c.refusal_of.ensures c.in_default.is).validation

pub check_entries-requires : goal.check_entries-requires
check_entries-requires c = let p = shown (goal.at.check_entries-requires c).In-Numbers in (p.admitted, p.table)

pub returns : goal.returns
returns c = c.check_entries.ensures ∙ check-numbers _ (shown (goal.at.returns c).In-Numbers).validation
