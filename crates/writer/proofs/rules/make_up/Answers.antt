-- `writer::rules::make_up` meets its contract. Assumes nothing.
use Rattle.std.proofs.Common.{◌+◌, ◌*◌, ◌≡◌, true, false, refl, sym, get_or, pos, arith, rules}
use mathlib.Core.Bool.{and-false}
use borrow.Author.Tests.{ne_eqb}
use Rattle.words.specs.Range.{at_least}
use Rattle.words.proofs.Runs.{passing-next, passing-failed}
use Rattle.storing.specs.Handed.{words_of, sum_of, positive}
use Rattle.storing.proofs.Lengths.{positive-run, sum-next, sum-fewer}
use Rattle.writer.proofs.HandedIn.{tested, words-read}
use Rattle.writer.proofs.rules.make_up.Goals as goal
use Rattle.writer.proofs.rules.make_up.Goals.{After-cast_unsigned}

-- past the test the length of a turn is 1 or more
some : (c : After-cast_unsigned) → at_least 1 (get_or c.args.lengths.now c.loop-length.length-index (pos 0)) ≡ true
some c = tested c.args.lengths.now c.loop-length.length-index false (search rules) c.if-length-lt-LENGTH_MIN.false

-- and what is taken off is its words
words : (c : After-cast_unsigned) → c.cast_unsigned.result ≡ words_of (get_or c.args.lengths.now c.loop-length.length-index (pos 0))
words c = words-read c.args.lengths.now c.loop-length.length-index _ (search rules) (some c) c.cast_unsigned.ensures

pub loop-length-init : goal.loop-length-init
unfolding positive
loop-length-init c = (record { few = omega arith; so_far = refl }, omega arith)

pub returns-then-length-lt-LENGTH_MIN : goal.returns-then-length-lt-LENGTH_MIN
returns-then-length-lt-LENGTH_MIN c =
    let lengths = c.args.lengths.now in
    let k = c.loop-length.length-index in
    rw (← (passing-failed (positive-run lengths) c.loop-length.invariant.0 (omega arith) {t = false} (sym (tested lengths k true (search rules) c.if-length-lt-LENGTH_MIN.true)) refl))

pub returns-in_default : goal.returns-in_default
returns-in_default c =
    let lengths = c.args.lengths.now in
    let k = c.loop-length.length-index in
    let taken = words (goal.at.returns-in_default c).After-cast_unsigned in
    let more = ne_eqb c.args.bytes (4 * sum_of lengths) (λ q. omega (arith, c.in_default.ensures, taken, sum-next lengths k (omega arith), sum-fewer lengths (k + 1))) in
    rw (more, and-false)

pub loop-length-preserved : goal.loop-length-preserved
loop-length-preserved c =
    let lengths = c.args.lengths.now in
    let k = c.loop-length.length-index in
    let p = (goal.at.loop-length-preserved c).After-cast_unsigned in (
      passing-next (positive-run lengths) c.loop-length.invariant.0 (omega arith) {t = true} (sym (some p)) refl,
      omega (arith, c.in-Some.ensures, words p, sum-next lengths k (omega arith)),
    )
