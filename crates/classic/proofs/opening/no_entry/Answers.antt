-- The tables of an entry that is refused are zeros.
use Rattle.std.proofs.Common.{pos, w32, w64, to_z, of_z}
use Rattle.pieces.proofs.SectionTables.{all_one}
use Rattle.classic.specs.Answers.{entry_addresses}
use Rattle.classic.proofs.opening.no_entry.Goals as goal

pub returns : goal.returns
unfolding entry_addresses
returns c =
    let d = c.default.ensures in
    let tables = d.1.1.1.1.1.1.1.1 in
    let ids = all_one (pos 0) _ 64 tables.0.long tables.0.at in
    let lengths = all_one 0 _ 64 tables.1.0.long tables.1.0.at in
    let addresses = all_one 0 _ 64 tables.1.1.long tables.1.1.at in
    λ j. record {
      refusal = c.args.refusal;
      «record» = d.1.0 j;
      word = d.1.1.0 j;
      version = to_z w32 (of_z w32 (d.1.1.1.0 j));
      nsec = d.1.1.1.1.0 j;
      nword = d.1.1.1.1.1.0 j;
      adata = to_z w64 (of_z w64 (d.1.1.1.1.1.1.0 j));
      ldata = d.1.1.1.1.1.1.1.0 j;
      ids = ids j;
      lengths = lengths j;
      addresses = addresses j;
    }
