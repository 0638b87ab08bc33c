-- `placing::areas::is_full` meets its contract. Assumes nothing.
use Rattle.std.proofs.Common.{◌≡◌, ◌+◌, ◌-◌, ap, ◌∙◌, arith}
use Rattle.geometry.specs.Growth.{total_of}
use Rattle.geometry.proofs.TotalTables.{totals-length, before-total}
use Rattle.descriptor.specs.FirstRecord.{growth_in}
use Rattle.placing.specs.Placing.{full}
use Rattle.placing.proofs.areas.is_full.Goals as goal

pub total_before-requires : goal.total_before-requires
total_before-requires c = omega (arith, c.requires.0.nex-high, totals-length _ _ c.requires.1)

pub returns : goal.returns
unfolding full
returns c =
    let d = c.args.d in
    let q : d.nex + 1 - 1 ≡ d.nex = omega arith in
    let all = c.total_before.ensures ∙ before-total (growth_in d) d.nex c.requires.1 c.requires.0.nex-high (d.nex + 1) (omega arith) ∙ ap (total_of (growth_in d)) q in
    rw (c.entries_before.ensures, all)
