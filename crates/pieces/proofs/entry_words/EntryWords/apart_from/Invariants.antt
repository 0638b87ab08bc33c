-- The loop of `pieces::entry_words::EntryWords::apart_from`: the piece shares no word with the sections passed. Assumes nothing.
use Rattle.std.proofs.Common.{◌≡◌, true}
use Rattle.pieces.specs.Contents.{apart_from}
use Rattle.pieces.proofs.entry_words.EntryWords.apart_from.Given as goal

abbrev pub invariant-loop-i : goal.invariant-loop-i
invariant-loop-i l = record {
  apart : apart_from l.self.file.now l.self.start l.self.nsec l.piece l.i ≡ true;
}
