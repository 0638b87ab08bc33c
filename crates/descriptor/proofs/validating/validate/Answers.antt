-- The file passes its rules, and its numbers and addresses are read. Assumes nothing.
use Rattle.std.proofs.Common.{sym, ◌∙◌, arith}
use Rattle.outcome.proofs.Refusals.{number-positive}
use Rattle.descriptor.proofs.Answered.{file-passed, admits, refuses-by}
use Rattle.descriptor.proofs.validating.validate.Goals as goal

pub numbers_of-d-requires : goal.numbers_of-d-requires
numbers_of-d-requires c = (file-passed _ (sym c.in-Ok.ensures.refuses)).long

pub addresses_of-requires : goal.addresses_of-requires
addresses_of-requires c =
    let a = (admits c.args.file.now c.numbers_of-d.ensures c.file_refusal.ensures.leaves (sym c.in-Ok.ensures.refuses)).admitted in
    (a.order, a.admitted.settled.nex-high, omega (arith, a.admitted.settled.nex-room, a.admitted.lent.first))

pub returns-in-Ok : goal.returns-in-Ok
returns-in-Ok c = rw c.addresses_of.ensures (sym (admits c.args.file.now c.numbers_of-d.ensures c.file_refusal.ensures.leaves (sym c.in-Ok.ensures.refuses)).validation)

pub returns-in-Err : goal.returns-in-Err
returns-in-Err c =
    let told = c.number.ensures ∙ c.in-Err.ensures.refuses in
    c.no_validation.ensures ∙ sym (refuses-by c.args.file.now told (λ z. number-positive c.in-Err.refusal (sym c.number.ensures ∙ z))).validation
