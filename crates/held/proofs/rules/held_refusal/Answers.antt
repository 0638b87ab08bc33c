-- `held::rules::held_refusal` meets its contract: the derived comparison is that of the three rows behind the first. Assumes nothing.
use Rattle.std.proofs.Common.{◌≡◌, sym, ◌∙◌}
use borrow.Author.Tests.{eq-eqb, ne_eqb, not-true, not-false}
use Rattle.held.specs.Rules.{held_refusal}
use Rattle.held.proofs.Held.{held-compared}
use Rattle.held.proofs.rules.held_refusal.Goals as goal
use Rattle.held.proofs.rules.held_refusal.Goals.{then-opened-ne0-via-then-opened-ne0, then-opened-ne0-via-else-opened-ne0+then-ne}

pub returns-then-opened-ne0 : goal.returns-then-opened-ne0
returns-then-opened-ne0 c =
    c.number.ensures ∙ elim c.then-opened-ne0.branch as (λ _. 27 ≡ held_refusal c.args.file.now c.args.held) [
      | then-opened-ne0-via-then-opened-ne0 w ↦ rw (held-compared, ← c.open_file_of-opened.ensures, ne_eqb _ 0 w.if-opened-ne0.true)
      | then-opened-ne0-via-else-opened-ne0+then-ne w ↦ rw (held-compared, ← c.open_file_of-opened.ensures, eq-eqb _ 0 w.if-opened-ne0.false, not-true _ (sym w.if-ne.ensures))
    ]

pub returns : goal.returns
returns c = rw (held-compared, ← c.open_file_of-opened.ensures, eq-eqb _ 0 c.if-opened-ne0.false, not-false _ (sym c.if-ne.ensures))
