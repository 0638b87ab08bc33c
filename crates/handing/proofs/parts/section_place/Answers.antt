-- `handing::parts::section_place` meets its contract. Assumes nothing.
use Rattle.std.proofs.Common.{rules}
use Rattle.handing.specs.Parts.{section_part}
use Rattle.handing.proofs.Handing.{part_by}
use Rattle.handing.proofs.parts.section_place.Goals as goal

pub returns : goal.returns
returns c = part_by c.args.file.now (λ addresses d. section_part c.args.file.now d addresses c.args.number c.args.identifier) _ c.part_by.ensures (λ d totals found. search rules)
