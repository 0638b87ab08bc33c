-- `pieces::contents::piece_within` meets its contract: an address that passed the first test leaves room for the sum. Assumes nothing.
use Rattle.std.proofs.Common.{sym, arith}
use Rattle.words.specs.Word.{integer8}
use Rattle.words.proofs.Ranges.{at_least-bounds}
use Rattle.pieces.proofs.contents.piece_within.Goals as goal

pub overflow_add-result : goal.overflow_add-result
overflow_add-result c = omega (arith, at_least-bounds integer8 c.first_content.result.0 c.args.piece.address.0 (sym c.if-at_least.ensures))
