-- The loop of `pieces::entry_words::EntryWords::each_apart`: the sections passed share no word, and the end kept is their highest. Assumes nothing.
use Rattle.std.proofs.Common.{◌≡◌, true}
use Rattle.pieces.specs.Contents.{sections_apart}
use Rattle.pieces.specs.Spread.{highest_end}
use Rattle.pieces.proofs.entry_words.EntryWords.each_apart.Given as goal

abbrev pub invariant-loop-i : goal.invariant-loop-i
invariant-loop-i l = record {
  apart : sections_apart l.self.file.now l.self.start l.self.nsec l.i ≡ true;
  highest : l.end_before ≡ highest_end l.self.file.now l.self.start l.self.nsec l.i;
}
