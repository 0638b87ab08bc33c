-- `placing::placement::place` meets its contract: rule 23, then rule 24, then the place. Assumes nothing.
use Rattle.std.proofs.Common.{◌+◌, ◌/◌, ◌≤◌, ◌<◌, sym, arith}
use Rattle.std.proofs.lemmas.Result.{err_from_is_err_and}
use Rattle.outcome.proofs.Refusals.{number-positive}
use Rattle.placing.specs.Placing.{entry_start}
use Rattle.placing.proofs.Places.{start_small}
use Rattle.placing.proofs.Placed.{extensible, place-unextended, place-outside, place-given}
use Rattle.placing.proofs.placement.place.Goals as goal

pub returns-in_err-extension_refusal : goal.returns-in_err-extension_refusal
returns-in_err-extension_refusal c =
    let e = place-unextended c.args.d c.args.bytes c.args.nword c.in_err-extension_refusal.ensures (number-positive _) in
    let p = err_from_is_err_and c.from_residual.result c.from_residual.ensures.1 in
    rw (p.1, p.2) e

pub entry_start-start-requires : goal.entry_start-start-requires
entry_start-start-requires c =
    let s = c.requires in
    (s.0, s.1, s.2, c.is_full-extends.ensures, extensible c.args.d (sym c.in_ok-extension_refusal.ensures))

pub overflow_add-end : goal.overflow_add-end
overflow_add-end c =
    let may = extensible c.args.d (sym c.in_ok-extension_refusal.ensures) in
    omega (arith, c.entry_start-start.ensures, start_small c.args.d c.requires.0 c.requires.2 may, c.requires.5)

pub returns-then-bytes-end : goal.returns-then-bytes-end
returns-then-bytes-end c =
    let far : c.args.bytes / 4 < entry_start c.args.d + c.args.nword = omega (arith, c.entry_start-start.ensures, c.if-bytes-end.true) in
    sym (place-outside c.args.d c.args.bytes c.args.nword (sym c.in_ok-extension_refusal.ensures) far)

pub returns : goal.returns
returns c =
    let near : entry_start c.args.d + c.args.nword ≤ c.args.bytes / 4 = omega (arith, c.entry_start-start.ensures, c.if-bytes-end.false) in
    (place-given c.args.d c.args.bytes c.args.nword (sym c.in_ok-extension_refusal.ensures) near, λ i. record { extends = c.is_full-extends.ensures i; start = c.entry_start-start.ensures i })
