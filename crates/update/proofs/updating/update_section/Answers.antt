-- `update::updating::update_section` meets its contract: the place is that of the section that is named. Assumes nothing.
use Rattle.std.proofs.Common.{◌≡◌, length, refl, sym, subst, ap, ◌∙◌}
use mir.Facts.{to_z-of_z}
use mir.Syntax.{w32}
use Rattle.descriptor.proofs.Answered.{Admits, case-told, case-left}
use Rattle.handing.specs.declared.place.PartPlace.{PartPlace}
use Rattle.handing.specs.Parts.{no_part, section_part}
use Rattle.handing.proofs.Handing.{whole-refused, whole_numbers}
use Rattle.update.specs.Answers.{update_in, update_at, file_at, place_named, UpdatesAt}
use Rattle.update.specs.Bounds.{Writable}
use Rattle.update.proofs.Contents.{place-first, refused}
use Rattle.update.proofs.Places.{named-writable}
use Rattle.update.proofs.updating.update_section.Goals as goal
use Rattle.update.proofs.updating.update_section.Goals.{In-Numbers, After-section_part-place}

-- what the numbers that the call gave show
shown : (c : In-Numbers) → Admits c.args.file.now c.in-Numbers.d c.admit-case.new.totals
shown c = case-told _ c.admit-case.result c.admit-case.ensures.0 c.admit-case.ensures.1 c.in-Numbers.is

-- the place that `section_part` gave is that of the section that is named
placed : (c : After-section_part-place) → Admits c.args.file.now c.in-Numbers.d c.admit-case.new.totals →
    c.section_part-place.result ≡ place_named c.args.file.now (update_in c.args.number c.args.identifier c.args.content.now)
placed c p =
    let a = c.args in
    whole_numbers _ (λ addresses d. section_part a.file.now d addresses a.number a.identifier) p.validation (rw (to_z-of_z {w = w32} c.ranges.identifier) at c.section_part-place.ensures)

pub returns-in_default : goal.returns-in_default
returns-in_default c =
    let file = c.args.file.now in
    let content = c.args.content.now in
    let n = c.refusal_of.result in
    let left = case-left file c.admit-case.result c.admit-case.ensures.0 c.refusal_of.ensures c.in_default.is in
    let none = refused (no_part n) content file (sym (place-first (no_part n) content left.broken)) left.broken in
    subst (λ (p : PartPlace). UpdatesAt file p content n file) (whole-refused file _ left.validation refl) none

pub section_part-place-requires : goal.section_part-place-requires
section_part-place-requires c = let p = shown (goal.at.section_part-place-requires c).In-Numbers in (p.admitted, p.table)

pub update_at-requires : goal.update_at-requires
update_at-requires c =
    let at = goal.at.update_at-requires c in
    subst (Writable (length c.args.file.now)) (sym (placed at.After-section_part-place (shown at.In-Numbers)))
    (named-writable c.args.file.now (update_in c.args.number c.args.identifier c.args.content.now))

pub returns : goal.returns
returns c =
    let at = goal.at.returns c in
    let place = placed at.After-section_part-place (shown at.In-Numbers) in
    let file = c.args.file.now in
    let content = c.args.content.now in
    (c.update_at.ensures.0 ∙ ap (λ (q : PartPlace). update_at q content) place, c.update_at.ensures.1 ∙ ap (λ (q : PartPlace). file_at file q content) place)
