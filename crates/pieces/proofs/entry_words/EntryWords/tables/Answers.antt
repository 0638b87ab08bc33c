-- `pieces::entry_words::EntryWords::tables` meets its contract. Assumes nothing.
use Rattle.std.proofs.Common.{arith}
use borrow.Author.Rules.{sfits_of}
use mir.Facts.{to_z-of_z}
use Rattle.words.proofs.Table.{filling-next, filling-all}
use Rattle.pieces.specs.Tables.{section_identifiers, section_lengths, section_addresses, sections_of}
use Rattle.pieces.proofs.entry_words.EntryWords.tables.Goals as goal

pub loop-i-preserved : goal.loop-i-preserved
loop-i-preserved c =
    let before = c.loop-i.invariant in
    record {
      identifiers = filling-next before.identifiers (omega arith) (omega arith) (rw (to_z-of_z (sfits_of c.identifier.type_inv)) c.identifier.ensures);
      lengths = filling-next before.lengths (omega arith) (omega arith) (rw c.section-section.ensures);
      addresses = filling-next before.addresses (omega arith) (omega arith) (rw c.section-section.ensures);
    }

pub returns : goal.returns
unfolding sections_of section_identifiers section_lengths section_addresses
returns c =
    let all = c.loop-i.invariant in
    rw (filling-all all.identifiers (omega arith), filling-all all.lengths (omega arith), filling-all all.addresses (omega arith))
