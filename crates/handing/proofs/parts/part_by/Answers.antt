-- `handing::parts::part_by` meets its contract: the numbers that validating gave are admitted. Assumes nothing.
use Rattle.descriptor.proofs.Answered.{case-told}
use Rattle.handing.proofs.parts.part_by.Goals as goal

pub find-requires : goal.find-requires
find-requires g c =
    let p = case-told c.args.file.now c.admit-case.result c.admit-case.ensures.0 c.admit-case.ensures.1 c.in-Numbers.is in
    c.requires _ _ p.admitted p.table
