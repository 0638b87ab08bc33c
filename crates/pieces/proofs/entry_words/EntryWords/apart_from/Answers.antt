-- `pieces::entry_words::EntryWords::apart_from` meets its contract: the sections are tested in turn. Assumes nothing.
use Rattle.std.proofs.Common.{sym, ◌∙◌, arith}
use Rattle.words.proofs.Runs.{run-next, run-failed}
use Rattle.pieces.proofs.Pieces.{apart-run, apart_none}
use Rattle.pieces.proofs.entry_words.EntryWords.apart_from.Goals as goal

pub loop-i-init : goal.loop-i-init
loop-i-init c = record { apart = apart_none _ _ _ _ }

pub returns-then-not-pieces_apart : goal.returns-then-not-pieces_apart
returns-then-not-pieces_apart c =
    let met = rw c.section.ensures at c.if-not-pieces_apart.ensures in
    sym (run-failed (apart-run _ _ _ _) c.loop-i.i _ (omega arith) (sym met))

pub loop-i-preserved : goal.loop-i-preserved
loop-i-preserved c =
    let apart = rw c.section.ensures at c.if-not-pieces_apart.ensures in
    record { apart = run-next (apart-run _ _ _ _) c.loop-i.i c.loop-i.invariant.apart ∙ sym apart }
