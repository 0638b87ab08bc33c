-- `through::updating::update_through` meets its contract: refused by 27, or an update at the place that the record's numbers and addresses lead to. Assumes nothing.
use Rattle.std.proofs.Common.{◌≡◌, sym, ◌∙◌}
use mir.Facts.{to_z-of_z}
use mir.Syntax.{w32}
use Rattle.update.specs.Answers.{update_in, place_named}
use Rattle.through.proofs.Outcomes.{update-refused}
use Rattle.through.proofs.Given.{given-staying, admitted-there, totals-there, section-named, place-writable, update-given}
use Rattle.through.proofs.updating.update_through.Goals as goal
use Rattle.through.proofs.updating.update_through.Goals.{After-section_part-place}

-- the place is that of the section that is named
placed : (c : After-section_part-place) → let a = c.args in c.section_part-place.result ≡ place_named a.file.now (update_in a.number a.identifier a.content.now)
placed c =
    let a = c.args in
    rw (to_z-of_z {w = w32} c.ranges.identifier) at c.section_part-place.ensures
    ∙ section-named a.file.now a.held (sym c.held_refusal-refusal.ensures ∙ c.if-refusal-ne0.false) (update_in a.number a.identifier a.content.now)

pub returns-then-refusal-ne0 : goal.returns-then-refusal-ne0
returns-then-refusal-ne0 c =
    let a = c.args in
    given-staying (update-refused a.file.now a.held c.held_refusal-refusal.ensures c.if-refusal-ne0.true (update_in a.number a.identifier a.content.now))

pub section_part-place-requires : goal.section_part-place-requires
section_part-place-requires c =
    let a = c.args in
    let true-there = sym c.held_refusal-refusal.ensures ∙ c.if-refusal-ne0.false in
    (admitted-there a.file.now a.held true-there, totals-there a.file.now a.held true-there)

pub update_at-requires : goal.update_at-requires
update_at-requires c =
    let a = c.args in
    place-writable a.file.now a.held (sym c.held_refusal-refusal.ensures ∙ c.if-refusal-ne0.false) (update_in a.number a.identifier a.content.now) _
    (placed (goal.at.update_at-requires c).After-section_part-place)

pub returns : goal.returns
returns c =
    let a = c.args in
    update-given a.file.now a.held (sym c.held_refusal-refusal.ensures ∙ c.if-refusal-ne0.false) (update_in a.number a.identifier a.content.now) _
    (placed (goal.at.returns c).After-section_part-place) _ _ c.update_at.ensures
