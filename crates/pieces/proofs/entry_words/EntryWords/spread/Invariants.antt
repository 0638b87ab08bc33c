-- The loop of `pieces::entry_words::EntryWords::spread`: the sections passed have a word at least and lie within the entry, and the order and the end kept are theirs. Assumes nothing.
use Rattle.std.proofs.Common.{◌≡◌, true}
use Rattle.pieces.specs.Contents.{sections_within}
use Rattle.pieces.specs.Spread.{highest_end, in_order}
use Rattle.pieces.proofs.entry_words.EntryWords.spread.Given as goal

abbrev pub invariant-loop-i : goal.invariant-loop-i
invariant-loop-i l = record {
  within : sections_within l.self.file.now l.self.start l.self.nsec l.nword l.i ≡ true;
  highest : l.end ≡ highest_end l.self.file.now l.self.start l.self.nsec l.i;
  order : l.ordered ≡ in_order l.self.file.now l.self.start l.self.nsec l.i;
}
