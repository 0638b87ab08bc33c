-- `pieces::entry_words::EntryWords::each_apart` meets its contract: each section is compared with those before it. Assumes nothing.
use Rattle.std.proofs.Common.{sym, ◌∙◌, arith}
use Rattle.words.proofs.Runs.{run-next, run-failed}
use Rattle.pieces.proofs.Pieces.{sections-run, sections-none}
use Rattle.pieces.proofs.Spreads.{end_none, end-next}
use Rattle.pieces.proofs.entry_words.EntryWords.each_apart.Goals as goal

pub loop-i-init : goal.loop-i-init
loop-i-init c = record { apart = sections-none _ _ _; highest = sym (end_none _ _ _) }

pub returns-then-not-apart_from_before : goal.returns-then-not-apart_from_before
returns-then-not-apart_from_before c =
    let met = rw c.section-section.ensures at c.if-not-apart_from_before.ensures in
    sym (run-failed (sections-run _ _ _) c.loop-i.i _ (omega arith) (sym met))

pub loop-i-preserved : goal.loop-i-preserved
loop-i-preserved c =
    let before = c.loop-i.invariant in
    let apart = rw c.section-section.ensures at c.if-not-apart_from_before.ensures in
    record {
      apart = run-next (sections-run _ _ _) c.loop-i.i before.apart ∙ sym apart;
      highest = end-next _ _ _ c.loop-i.i before.highest c.section-section.ensures c.max-end_before.ensures;
    }
