-- The tables of no section are zeros.
use Rattle.std.proofs.Common.{pos}
use Rattle.pieces.proofs.SectionTables.{all_one}
use Rattle.pieces.proofs.tables.no_sections.Goals as goal

pub returns : goal.returns
returns c =
    let d = c.default.ensures in
    let identifiers = all_one (pos 0) _ 64 d.0.long d.0.at in
    let lengths = all_one 0 _ 64 d.1.0.long d.1.0.at in
    let addresses = all_one (record { 0 = 0 }) _ 64 d.1.1.long (λ i x l k. record { 0 = d.1.1.at i x l k }) in
    λ j. record { identifiers = identifiers j; lengths = lengths j; addresses = addresses j }
