-- The record length is within its limits once its row is passed. Assumes nothing.
use Rattle.std.proofs.Common.{◌≡◌, ℕ, ◌≤◌, Bool, w32, arith}
use Rattle.outcome.specs.Refusal.{row_refusal}
use Rattle.words.specs.Word.{signed_of}
use Rattle.words.specs.Range.{within}
use Rattle.words.proofs.Ranges.{within-bounds}
use Rattle.descriptor.proofs.Tests.{holds}
use Rattle.descriptor.specs.Rules.{limit_refusal}
use Rattle.descriptor.proofs.Refusals.{number_low, row-holds, row-broken}
use Rattle.descriptor.proofs.Passed.{mex-high}
use Rattle.descriptor.proofs.rules.limit_refusal.Goals as goal

held : (reclen : ℕ) (b : Bool) → b ≡ within 16 4096 (signed_of w32 reclen) → 0 ≡ row_refusal 3 b → (16 ≤ reclen) × (reclen ≤ 4096)
held reclen b e p = within-bounds w32 16 4096 reclen (omega arith) (holds e (row-holds b 3 (omega arith) p))

pub byte_offset-requires : goal.byte_offset-requires
byte_offset-requires c = omega (arith, held c.args.d.reclen c.reclen_holds.result c.reclen_holds.ensures c.in_ok-unless-2.ensures)

pub nonzero_rem-bytes : goal.nonzero_rem-bytes
nonzero_rem-bytes c = omega (arith, c.byte_offset.ensures, held c.args.d.reclen c.reclen_holds.result c.reclen_holds.ensures c.in_ok-unless-2.ensures)

pub mex-requires : goal.mex-requires
mex-requires c = (held c.args.d.reclen c.reclen_holds.result c.reclen_holds.ensures c.in_ok-unless-2.ensures).0

pub within-requires-6 : goal.within-requires-6
within-requires-6 c = omega (arith, c.mex.ensures, mex-high c.args.d.reclen)

pub returns-in_err-unless : goal.returns-in_err-unless
unfolding limit_refusal
returns-in_err-unless c = grind (arith, number_low)

pub returns-in_err-unless-2 : goal.returns-in_err-unless-2
unfolding limit_refusal
returns-in_err-unless-2 c = grind (arith, number_low)

pub returns-in_err-unless-3 : goal.returns-in_err-unless-3
unfolding limit_refusal
returns-in_err-unless-3 c = grind (arith, number_low)

pub returns-in_err-unless-4 : goal.returns-in_err-unless-4
unfolding limit_refusal
returns-in_err-unless-4 c = grind (arith, number_low)

pub returns-in_err-unless-5 : goal.returns-in_err-unless-5
unfolding limit_refusal
returns-in_err-unless-5 c = grind (arith, number_low)

pub returns-in_err-unless-6 : goal.returns-in_err-unless-6
unfolding limit_refusal
returns-in_err-unless-6 c = grind (arith, number_low)

pub returns-in_err-unless-7 : goal.returns-in_err-unless-7
unfolding limit_refusal
returns-in_err-unless-7 c = grind (arith, number_low)

pub returns-in_err-unless-8 : goal.returns-in_err-unless-8
unfolding limit_refusal
returns-in_err-unless-8 c =
    let broken = row-broken _ 7 _ c.in_err-unless-8.ensures in
    grind (arith, broken)

pub returns-in_err-unless-9 : goal.returns-in_err-unless-9
unfolding limit_refusal
returns-in_err-unless-9 c = grind (arith, number_low)

pub returns-in_err-unless-10 : goal.returns-in_err-unless-10
unfolding limit_refusal
returns-in_err-unless-10 c = grind (arith, number_low)

pub returns : goal.returns
unfolding limit_refusal
returns c = grind (arith, number_low)
