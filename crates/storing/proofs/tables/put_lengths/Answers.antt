-- `storing::tables::put_lengths` meets its contract: the loop writes the table of lengths, two a turn, and one is left where their count is odd. Assumes nothing.
use Rattle.std.proofs.Common.{◌+◌, ◌-◌, ◌*◌, ◌≡◌, refl, length, arith}
use Rattle.words.specs.Word.{integer8}
use Rattle.geometry.specs.Units.{offset_of}
use Rattle.storing.proofs.TableBytes.{integer-table, passed_none, passed-next, passed-all}
use Rattle.storing.proofs.tables.put_lengths.Goals as goal

pub loop-pair-init : goal.loop-pair-init
loop-pair-init c = passed_none (integer-table c.args.order integer8) _ _ 0 c.args.lengths.now

pub loop-pair-preserved : goal.loop-pair-preserved
loop-pair-preserved c =
    let a = c.args in
    let l = c.loop-pair in
    let t = integer-table a.order integer8 in
    let at = offset_of a.position in
    let one = passed-next t a.file.now at 0 a.lengths.now (2 * l.pair) l.file c.put_length.new.file _ (omega arith) l.invariant c.put_length.auto.file refl c.put_length.ensures in
    let two = passed-next t a.file.now at 0 a.lengths.now (2 * l.pair + 1) c.put_length.new.file _ _ (omega arith) one c.put_length-in-loop-pair.auto.file refl c.put_length-in-loop-pair.ensures in
    let both : 2 * (l.pair + 1) ≡ 2 * l.pair + 1 + 1 = omega arith in
    rw both two

pub returns-then-odd : goal.returns-then-odd
returns-then-odd c =
    let a = c.args in
    let l = c.loop-pair in
    let t = integer-table a.order integer8 in
    let last : 2 * l.pair ≡ length a.lengths.now - 1 = omega arith in
    let most = rw last at l.invariant in
    passed-all t _ _ 0 a.lengths.now (length a.lengths.now - 1 + 1) _ (omega arith)
    (passed-next t a.file.now (offset_of a.position) 0 a.lengths.now (length a.lengths.now - 1) l.file _ _ (omega arith) most c.put_length-then-odd.auto.file refl c.put_length-then-odd.ensures)

pub returns-else-odd : goal.returns-else-odd
returns-else-odd c = passed-all (integer-table c.args.order integer8) _ _ 0 c.args.lengths.now _ _ (omega arith) c.loop-pair.invariant
