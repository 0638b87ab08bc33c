-- What the rows that are passed say of the next entry and the next free word. Assumes nothing.
use Rattle.std.proofs.Common.{w64, arith}
use Rattle.words.proofs.Ranges.{at_least-bounds}
use Rattle.descriptor.proofs.Tests.{holds}
use Rattle.descriptor.specs.Rules.{count_refusal}
use Rattle.descriptor.proofs.Refusals.{number_low, row-holds}
use Rattle.descriptor.proofs.Passed.{place-low}
use Rattle.descriptor.proofs.rules.count_refusal.Goals as goal

pub entries_before-requires : goal.entries_before-requires
entries_before-requires c = (at_least-bounds w64 1 c.args.d.xnext.0 (holds c.at_least.ensures (row-holds c.at_least.result 9 (omega arith) c.in_ok-unless.ensures))).0

pub position_within-requires : goal.position_within-requires
position_within-requires c =
    let d = c.args.d in
    let nextrec = holds c.at_least-2.ensures (row-holds c.at_least-2.result 10 (omega arith) c.in_ok-unless-3.ensures) in
    let nextword = holds c.within.ensures (row-holds c.within.result 10 (omega arith) c.in_ok-unless-4.ensures) in
    omega (arith, c.requires.0, c.requires.1, place-low d d.nextrec.0 d.nextword.0 c.requires.0 nextrec nextword)

pub returns-in_err-unless : goal.returns-in_err-unless
unfolding count_refusal
returns-in_err-unless c = grind (arith, number_low)

pub returns-in_err-unless-2 : goal.returns-in_err-unless-2
unfolding count_refusal
returns-in_err-unless-2 c = grind (arith, number_low)

pub returns-in_err-unless-3 : goal.returns-in_err-unless-3
unfolding count_refusal
returns-in_err-unless-3 c = grind (arith, number_low)

pub returns-in_err-unless-4 : goal.returns-in_err-unless-4
unfolding count_refusal
returns-in_err-unless-4 c = grind (arith, number_low)

pub returns : goal.returns
unfolding count_refusal
returns c = grind (arith, number_low)
