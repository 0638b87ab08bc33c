-- `handing::parts::bytes_of` meets its contract. Assumes nothing.
use Rattle.std.proofs.Common.{refl}
use Rattle.handing.proofs.Handing.{handed}
use Rattle.handing.proofs.parts.bytes_of.Goals as goal

pub returns : goal.returns
returns c = handed {q = c.args.place} refl refl refl
