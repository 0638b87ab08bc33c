-- The loop of `pieces::entry_words::EntryWords::tables`: in each table the places filled hold what their sections have, the others zero. Assumes nothing.
use Rattle.std.proofs.Common.{pos}
use Rattle.words.proofs.Table.{Filling}
use Rattle.pieces.specs.EntryDescriptor.{identifier_at, section_of}
use Rattle.pieces.proofs.entry_words.EntryWords.tables.Given as goal

abbrev pub invariant-loop-i : goal.invariant-loop-i
invariant-loop-i l = record {
  identifiers : Filling 64 l.self.nsec (identifier_at l.self.file.now l.self.start) (pos 0) l.identifiers l.i;
  lengths : Filling 64 l.self.nsec (λ i. (section_of l.self.file.now l.self.start l.self.nsec i).words) 0 l.lengths l.i;
  addresses : Filling 64 l.self.nsec (λ i. (section_of l.self.file.now l.self.start l.self.nsec i).address) (record { 0 = 0 }) l.addresses l.i;
}
