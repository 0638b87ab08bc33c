-- The digits, and the character behind them.
use Rattle.std.proofs.Common.{refl, append_assoc}
use Rattle.listing.specs.Text.{field_of}
use Rattle.listing.proofs.text.push_field.Goals as goal

pub returns-clause-text : goal.returns-clause-text
unfolding field_of
returns-clause-text c = rw (c.push.ensures.ascii c.requires.ascii, c.push_decimal.ensures.text, append_assoc) refl
