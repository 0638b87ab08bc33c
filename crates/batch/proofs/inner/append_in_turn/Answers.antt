-- `batch::inner::append_in_turn` meets its contract: each turn appends the next entry of those that are left. Assumes nothing.
use Rattle.std.proofs.Common.{◌+◌, ◌≡◌, sym, ap, subst, ◌∙◌, arith, rules}
use Rattle.std.specs.Prelude.{Ok, Err}
use Rattle.words.specs.Word.{integer4}
use Rattle.storing.specs.Handed.{Handed, handed_of}
use Rattle.storing.proofs.Lengths.{read_back}
use Rattle.batch.specs.declared.counts.Counts.{Counts}
use Rattle.batch.specs.Batch.{Laid, laid_of, batch_handed}
use Rattle.batch.specs.Taking.{entry_taken, left_behind, AppendsNext}
use Rattle.batch.proofs.Appending.{admitted-own}
use Rattle.batch.proofs.InTurn.{Before, before-first, counts, version, entry-within, ended, before-next, all-accepted}
use Rattle.batch.proofs.inner.append_in_turn.Goals as goal
use Rattle.batch.proofs.inner.append_in_turn.Goals.{After-append_next}

-- the entry of a turn is the next of those that are left
next : (c : After-append_next) → let x = laid_of c.loop-accepted.left in
    handed_of c.split.result.0 ≡ entry_taken (version _ _ c.loop-accepted.invariant c.loop-accepted-test.true) (counts _ _ c.loop-accepted.invariant c.loop-accepted-test.true) x
next c =
    let read = read_back integer4 c.args.entries.now.versions.now c.loop-accepted.accepted (search rules) in
    c.split.ensures.entry ∙ (λ i. entry_taken (read i) (c.from.ensures i) (laid_of c.loop-accepted.left))

pub loop-accepted-init : goal.loop-accepted-init
loop-accepted-init c = before-first c.args.file.now (batch_handed c.args.entries.now) c.args.d c.requires.0 c.requires.1 c.requires.2

pub split-requires : goal.split-requires
split-requires c = rw c.from.ensures (entry-within _ _ c.loop-accepted.invariant c.loop-accepted-test.true)

pub append_next-requires : goal.append_next-requires
append_next-requires c = admitted-own _ _ c.loop-accepted.invariant.shown c.loop-accepted.invariant.numbers

pub returns-in-Err : goal.returns-in-Err
returns-in-Err c =
    let l = c.loop-accepted in
    let m = subst (λ (h : Handed). AppendsNext l.file l.numbers h (Err c.in-Err.refusal) c.append_next.new.file) (next (goal.at.returns-in-Err c).After-append_next) c.in-Err.ensures in
    rw c.number.ensures (ended _ _ l.invariant c.loop-accepted-test.true c.in-Err.refusal _ m)

pub loop-accepted-preserved : goal.loop-accepted-preserved
loop-accepted-preserved c =
    let l = c.loop-accepted in
    let m = subst (λ (h : Handed). AppendsNext l.file l.numbers h (Ok c.in-Ok.after) c.append_next.new.file) (next (goal.at.loop-accepted-preserved c).After-append_next) c.in-Ok.ensures in
    let left = c.split.ensures.left ∙ ap (λ (n : Counts). left_behind n (laid_of l.left)) c.from.ensures in
    subst (λ (x : Laid). Before c.args.file.now (batch_handed c.args.entries.now) c.append_next.new.file c.in-Ok.after x (l.accepted + 1)) (sym left)
    (before-next _ _ l.invariant c.loop-accepted-test.true _ _ m)

pub returns : goal.returns
returns c = all-accepted _ _ c.loop-accepted.invariant (omega arith)
