-- `storing::tables::put_identifiers` meets its contract: the loop writes the table of identifiers, one after the other. Assumes nothing.
use Rattle.std.proofs.Common.{arith, rules}
use Rattle.words.specs.Word.{integer4}
use Rattle.geometry.specs.Units.{offset_of}
use Rattle.storing.proofs.Lengths.{read_back}
use Rattle.storing.proofs.TableBytes.{integer-table, passed_none, passed-next, passed-all}
use Rattle.storing.proofs.tables.put_identifiers.Goals as goal

pub loop-i-init : goal.loop-i-init
loop-i-init c = passed_none (integer-table c.args.order integer4) _ _ 0 c.args.ids.now

pub loop-i-preserved : goal.loop-i-preserved
loop-i-preserved c =
    let a = c.args in
    let l = c.loop-i in
    let read = read_back integer4 a.ids.now l.i (search rules) in
    passed-next (integer-table a.order integer4) a.file.now (offset_of a.position) 0 a.ids.now l.i l.file _ c.byte_offset.result
    (omega arith) l.invariant c.write.auto.image (omega arith) (rw read at c.write.ensures)

pub returns : goal.returns
returns c = passed-all (integer-table c.args.order integer4) _ _ 0 c.args.ids.now _ _ (omega arith) c.loop-i.invariant
