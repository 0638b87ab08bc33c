-- `descriptor::numbers::DescriptorNumbers::new` meets its contract: a setting is the value of its bits. Assumes nothing.
use borrow.Author.Rules.{rules}
use Rattle.std.specs.Int.{w32}
use Rattle.std.proofs.lemmas.Int.{to_z-of_z}
use Rattle.descriptor.specs.FirstRecord.{created_of}
use Rattle.descriptor.proofs.numbers.DescriptorNumbers.new.Goals as goal

pub returns : goal.returns
unfolding created_of
returns c =
    let s = c.args.settings in
    let back = to_z-of_z w32 in
    rw (c.cast_unsigned.ensures, c.cast_unsigned-2.ensures, c.cast_unsigned-3.ensures, c.cast_unsigned-4.ensures, c.cast_unsigned-5.ensures, c.cast_unsigned-6.ensures, c.cast_unsigned-7.ensures, c.cast_unsigned-8.ensures)
    (rw (back s.order (search rules), back s.reclen (search rules), back s.kind (search rules), back s.vind (search rules), back s.lind (search rules), back s.flags (search rules), back s.lex1 (search rules), back s.gex (search rules)))
