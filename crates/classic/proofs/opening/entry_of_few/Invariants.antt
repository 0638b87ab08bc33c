-- In each table the places passed that have a section hold what it has, the others zero.
use Rattle.std.proofs.Common.{min, pos}
use Rattle.words.proofs.Table.{Filling}
use Rattle.pieces.specs.EntryDescriptor.{identifier_at, section_of}
use Rattle.classic.proofs.opening.entry_of_few.Given as goal

abbrev pub invariant-loop-passed : goal.invariant-loop-passed
invariant-loop-passed l = record {
  ids : Filling 64 l.entered.nsec (identifier_at l.file l.entered.start) (pos 0) l.ids (min l.passed l.entered.nsec);
  lengths : Filling 64 l.entered.nsec (λ i. (section_of l.file l.entered.start l.entered.nsec i).words) 0 l.lengths (min l.passed l.entered.nsec);
  addresses : Filling 64 l.entered.nsec (λ i. (section_of l.file l.entered.start l.entered.nsec i).address.0) 0 l.addresses (min l.passed l.entered.nsec);
}
