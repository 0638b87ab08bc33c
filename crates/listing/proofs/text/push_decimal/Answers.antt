-- The digits are those that std prints.
use Rattle.std.proofs.Common.{◌++◌, ap, sym, ◌∙◌, arith}
use Rattle.listing.proofs.Decimal.{decimal-printed}
use Rattle.listing.proofs.text.push_decimal.Goals as goal

pub returns-clause-text : goal.returns-clause-text
returns-clause-text c =
    c.push_str.ensures.bytes ∙ ap (λ l. c.args.line.now.bytes ++ l) (c.format.ensures.text ∙ sym (decimal-printed c.args.n (omega arith)))
