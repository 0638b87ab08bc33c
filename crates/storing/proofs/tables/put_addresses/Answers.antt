-- `storing::tables::put_addresses` meets its contract: the loop writes the table of addresses, each the one before it plus the length passed. Assumes nothing.
use Rattle.std.proofs.Common.{◌≡◌, ℕ, ◌+◌, ap, ◌∙◌, arith, rules, get_or, pos}
use Rattle.image.specs.Image.{splice}
use Rattle.words.specs.Word.{numeral}
use Rattle.geometry.specs.Units.{offset_of}
use Rattle.storing.specs.Handed.{words_of}
use Rattle.storing.proofs.Lengths.{sum-next, sum-fewer, length-words}
use Rattle.storing.proofs.TableBytes.{address-table, passed_none, passed-next, passed-all}
use Rattle.storing.proofs.tables.put_addresses.Goals as goal

-- what is added to the address is the length passed
words : (c : goal.After-cast_unsigned-address) → c.cast_unsigned-address.result ≡ words_of (get_or c.args.lengths.now c.loop-i.i (pos 0))
words c = length-words _ _ _ c.requires.3 c.loop-i-test.true (search rules) c.cast_unsigned-address.ensures

pub loop-i-init : goal.loop-i-init
loop-i-init c = (passed_none (address-table c.args.order) _ _ c.args.first.0 c.args.lengths.now, omega arith)

pub overflow_add-address : goal.overflow_add-address
overflow_add-address c =
    let zs = c.args.lengths.now in
    let k = c.loop-i.i in
    omega (arith, words c, sum-next zs k (omega arith), sum-fewer zs (k + 1))

pub loop-i-preserved : goal.loop-i-preserved
loop-i-preserved c =
    let a = c.args in
    let l = c.loop-i in
    let at = c.byte_offset.result in (
      passed-next (address-table a.order) a.file.now (offset_of a.position) a.first.0 a.lengths.now l.i l.file _ at
          (omega arith) l.invariant.0 c.write.auto.image (omega arith) (c.write.ensures ∙ ap (λ (n : ℕ). splice l.file at (numeral a.order 8 n)) l.invariant.1),
      omega (arith, words c, sum-next a.lengths.now l.i (omega arith)),
    )

pub returns : goal.returns
returns c = passed-all (address-table c.args.order) _ _ c.args.first.0 c.args.lengths.now _ _ (omega arith) c.loop-i.invariant.0
