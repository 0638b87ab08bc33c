-- `writer::creating::create` meets its contract: a refused creation writes nothing, and an accepted one the first record. Assumes nothing.
use Rattle.std.proofs.Common.{sym, ◌∙◌, length}
use borrow.Author.Tests.{eq-eqb, ne_eqb}
use Rattle.outcome.specs.Refusal.{number_of}
use Rattle.outcome.proofs.Refusals.{number-positive}
use Rattle.writer.specs.Creation.{creation_refusal, created_file}
use Rattle.writer.proofs.Created.{created-fits}
use Rattle.writer.proofs.creating.create.Goals as goal

pub put_first-requires : goal.put_first-requires
put_first-requires c = rw c.new.ensures (created-fits _ _ (sym c.in-Ok.ensures))

pub returns-in-Ok : goal.returns-in-Ok
unfolding created_file
returns-in-Ok c =
    let accepted = sym c.in-Ok.ensures in
    (c.in-Ok.ensures, rw (eq-eqb (creation_refusal (length c.args.file.now) c.args.settings) 0 accepted) (rw c.new.ensures at c.put_first.ensures))

pub returns-in-Err : goal.returns-in-Err
unfolding created_file
returns-in-Err c =
    let r = c.in-Err.refusal in
    (c.number.ensures ∙ c.in-Err.ensures, rw (← c.in-Err.ensures, ne_eqb (number_of r) 0 (number-positive r)))
