-- The settings are within their limits once these refuse nothing. Assumes nothing.
use Rattle.std.proofs.Common.{sym}
use Rattle.descriptor.proofs.Passed.{limited}
use Rattle.descriptor.proofs.rules.setting_refusal.Goals as goal

pub over-requires : goal.over-requires
over-requires c =
    let l = limited c.args.bytes c.args.d (sym c.in_ok-limit_refusal.ensures) in
    rw c.new.ensures (l.lex1-high, l.gex-high, l.nex-high)
