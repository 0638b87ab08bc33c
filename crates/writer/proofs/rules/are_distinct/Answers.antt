-- `writer::rules::are_distinct` meets its contract. Assumes nothing.
use Rattle.std.proofs.Common.{◌+◌, true, false, not, refl, sym, ap, subst, ◌∙◌, get_or, pos, arith, rules}
use Rattle.words.specs.Word.{integer4}
use Rattle.words.proofs.Runs.{passing-all, passing-next, passing-failed}
use Rattle.storing.specs.Handed.{distinct}
use Rattle.storing.proofs.Lengths.{read_back}
use Rattle.writer.proofs.HandedIn.{distinct-run, absent-found, NoneAbove, above-absent, none-next, none-higher}
use Rattle.writer.proofs.rules.are_distinct.Goals as goal
use Rattle.writer.proofs.rules.are_distinct.Goals.{then-highest-identifier, else-highest-identifier+else-contains}

pub loop-i-init : goal.loop-i-init
unfolding distinct
loop-i-init c = (record { few = omega arith; so_far = refl }, record { below = λ i h. absurd (omega arith) })

pub returns-then-contains : goal.returns-then-contains
returns-then-contains c =
    let ids = c.args.ids.now in
    let k = c.loop-i.i in
    passing-failed (distinct-run ids) c.loop-i.invariant.0 (omega arith) {t = false}
    (sym (absent-found ids (get_or ids k (pos 0)) k (omega arith) ∙ ap not (sym c.contains.ensures.value ∙ c.if-contains.true))) refl

pub loop-i-preserved : goal.loop-i-preserved
loop-i-preserved c =
    let ids = c.args.ids.now in
    let l = c.loop-i in
    let read = read_back integer4 ids l.i (search rules) in
    let below = NoneAbove ids (l.i + 1) in
    elim c.if-highest-identifier.branch [
      | then-highest-identifier w ↦
          let above = rw read at w.if-highest-identifier.true in (
            passing-next (distinct-run ids) l.invariant.0 (omega arith) {t = true} (sym (above-absent l.invariant.1 _ above)) refl,
            subst below (sym (w.highest-is ∙ read)) (none-higher l.invariant.1 above),
          )
      | else-highest-identifier+else-contains w ↦
          let other = rw read at w.if-highest-identifier.false in (
            passing-next (distinct-run ids) l.invariant.0 (omega arith) {t = true}
                (sym (absent-found ids (get_or ids l.i (pos 0)) l.i (omega arith) ∙ ap not (sym w.contains.ensures.value ∙ w.if-contains.false))) refl,
            subst below (sym w.highest-is) (none-next l.invariant.1 other),
          )
    ]

pub returns : goal.returns
returns c = passing-all c.loop-i.invariant.0 (omega arith)
