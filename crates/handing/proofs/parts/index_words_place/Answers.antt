-- `handing::parts::index_words_place` meets its contract. Assumes nothing.
use Rattle.std.proofs.Common.{rules}
use Rattle.handing.specs.Parts.{index_part}
use Rattle.handing.proofs.Handing.{part_by}
use Rattle.handing.proofs.parts.index_words_place.Goals as goal

pub returns : goal.returns
returns c = part_by c.args.file.now (λ addresses d. index_part c.args.file.now d addresses c.args.number) _ c.part_by.ensures (λ d totals found. search rules)
