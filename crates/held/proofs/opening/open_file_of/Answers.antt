-- `held::opening::open_file_of` meets its contract: it validates, and makes the record of what that gives. Assumes nothing.
use Rattle.std.proofs.Common.{refl, sym, ◌∙◌, arith}
use Rattle.descriptor.specs.declared.validating.Validated.TheVariants.{Numbers, Refused}
use Rattle.descriptor.specs.Answers.{no_validation}
use Rattle.descriptor.proofs.Answered.{Admits, case-told, case-left}
use Rattle.held.specs.Record.{open_file_in}
use Rattle.held.proofs.Held.{record-by}
use Rattle.held.proofs.opening.open_file_of.Goals as goal
use Rattle.held.proofs.opening.open_file_of.Goals.{In-Numbers}

-- what the numbers that the call gave show
shown : (c : In-Numbers) → Admits c.args.file.now c.in-Numbers.d c.admit-case.new.totals
shown c = case-told _ c.admit-case.result c.admit-case.ensures.0 c.admit-case.ensures.1 c.in-Numbers.is

pub returns-in_default : goal.returns-in_default
unfolding open_file_in
returns-in_default c =
    let n = c.refusal_of.result in
    let left = case-left _ c.admit-case.result c.admit-case.ensures.0 c.refusal_of.ensures c.in_default.is in
    c.no_open_file.ensures ∙ sym (record-by c.args.file.now (no_validation n) (Refused n) (sym left.validation) refl)

pub addresses_of-addresses-requires : goal.addresses_of-addresses-requires
addresses_of-addresses-requires c =
    let p = shown (goal.at.addresses_of-addresses-requires c).In-Numbers in
    let a = p.admitted.admitted in
    (p.admitted.order, a.settled.nex-high, omega (arith, a.settled.nex-room, a.lent.first))

pub returns : goal.returns
unfolding open_file_in
returns c =
    let d = c.in-Numbers.d in
    let p = shown (goal.at.returns c).In-Numbers in
    (λ i. record { refusal = 0; file = record { numbers = d; addresses = c.addresses_of-addresses.ensures i; totals = p.table i } })
    ∙ sym (record-by c.args.file.now _ (Numbers d) (sym p.validation) refl)
