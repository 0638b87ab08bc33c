-- The file is validated, the entry is entered, and its tables are read.
use Rattle.std.proofs.Common.{rules, pos, ◌≡◌, refl, sym, ap, ◌∙◌}
use borrow.Author.Tests.{ne_eqb}
use Rattle.descriptor.proofs.Answered.{Admits, case-told, case-left}
use Rattle.pieces.specs.Bounds.{Described}
use Rattle.pieces.specs.EntryDescriptor.{identifier_at, section_of}
use Rattle.pieces.specs.Tables.{section_identifiers, section_lengths}
use Rattle.pieces.proofs.Pieces.{described-in}
use Rattle.descriptor.specs.FirstRecord.{addresses_of}
use Rattle.outcome.specs.Refusal.{number_of}
use Rattle.outcome.proofs.Refusals.{number-positive}
use Rattle.entry.specs.Entered.{given}
use Rattle.entry.specs.Opening.{entered_of}
use Rattle.entry.proofs.Entering.{entered-given, entered-not}
use Rattle.entry.specs.Answers.{not_opened, opened_as, open_of}
use Rattle.entry.proofs.OpenedEntry.{known, open-refused, open-numbers}
use Rattle.classic.specs.Answers.{entry_for, entry_having}
use Rattle.classic.specs.Bounds.{Slim}
use Rattle.classic.proofs.Narrow.{slim}
use Rattle.classic.proofs.Entries.{addresses-numbers, having-tables, having-none}
use Rattle.classic.proofs.opening.classic_open.Goals as goal
use Rattle.classic.proofs.opening.classic_open.Goals.{In-Numbers, In-Ok}

-- what the numbers of a file that was admitted show
admits : (c : In-Numbers) → Admits c.args.file.now c.in-Numbers.d c.admit-case.new.totals
admits c = case-told _ c.admit-case.result c.admit-case.ensures.0 c.admit-case.ensures.1 c.in-Numbers.is

-- the numbers that were entered
entered : (c : In-Ok) → given c.in-Ok.entered ≡ entered_of c.args.file.now c.in-Numbers.d (addresses_of c.args.file.now c.in-Numbers.d.nex) (record { 0 = c.args.entry })
entered c = entered-given _ _ _ _ c.in-Ok.ensures

-- the answer is made of them
opened : (c : In-Ok) → Admits c.args.file.now c.in-Numbers.d c.admit-case.new.totals → entry_for (opened_as c.args.file.now (given c.in-Ok.entered)) ≡ entry_for (open_of c.args.file.now (record { 0 = c.args.entry }))
opened c p = sym (ap entry_for (open-numbers _ _ p.validation ∙ ap (opened_as _) (sym (entered c))))

-- they fit
fits : (c : In-Ok) → Admits c.args.file.now c.in-Numbers.d c.admit-case.new.totals → Slim (given c.in-Ok.entered)
fits c p = slim _ _ _ _ _ p.admitted.admitted (entered c) refl

-- and the tables lie within the file
described : (c : In-Ok) → Admits c.args.file.now c.in-Numbers.d c.admit-case.new.totals
    → Described c.in-Numbers.d.order c.args.file.now c.in-Ok.entered.start c.in-Ok.entered.nsec
described c p = described-in p.admitted.order (known _ _ _ _ _ p.admitted.admitted (entered c) refl).described

pub returns-in_default : goal.returns-in_default
returns-in_default c =
    let a = c.admit-case in
    let left = case-left _ a.result a.ensures.0 c.refusal_of.ensures c.in_default.is in
    c.no_entry.ensures ∙ sym (ap entry_for (open-refused _ _ left.validation left.broken))

pub enter-requires : goal.enter-requires
enter-requires c = let p = admits (goal.at.enter-requires c).In-Numbers in (p.admitted, p.table)

pub returns-in-Err : goal.returns-in-Err
unfolding opened_as
returns-in-Err c =
    let p = admits (goal.at.returns-in-Err c).In-Numbers in
    let refused : open_of c.args.file.now (record { 0 = c.args.entry }) ≡ not_opened (number_of c.in-Err.refusal) =
    open-numbers _ _ p.validation ∙ ap (opened_as _) (sym (entered-not _ _ _ _ _ c.in-Err.ensures)) ∙ rw (ne_eqb _ 0 (number-positive c.in-Err.refusal)) refl
    in
    c.no_entry-in-Err.ensures ∙ rw (c.number.ensures) (sym (ap entry_for refused))

pub entry_having-requires : goal.entry_having-requires
entry_having-requires c = let at = goal.at.entry_having-requires c in fits at.In-Ok (admits at.In-Numbers)

pub returns-then-nsec-eq0 : goal.returns-then-nsec-eq0
returns-then-nsec-eq0 c =
    let at = goal.at.returns-then-nsec-eq0 c in
    c.entry_having.ensures ∙ having-none _ (given c.in-Ok.entered) refl c.if-nsec-eq0.true ∙ opened at.In-Ok (admits at.In-Numbers)

pub entry_of_few-requires : goal.entry_of_few-requires
entry_of_few-requires c =
    let at = goal.at.entry_of_few-requires c in
    let p = admits at.In-Numbers in
    (fits at.In-Ok p, described at.In-Ok p, c.if-nsec-le-FEW.true)

pub returns-then-nsec-le-FEW : goal.returns-then-nsec-le-FEW
returns-then-nsec-le-FEW c = let at = goal.at.returns-then-nsec-le-FEW c in c.entry_of_few.ensures ∙ opened at.In-Ok (admits at.In-Numbers)

pub fill-requires : goal.fill-requires
fill-requires c =
    let at = goal.at.fill-requires c in
    let d = described at.In-Ok (admits at.In-Numbers) in
    record { room = (d.sections, refl); called = search rules }

pub fill-requires-2 : goal.fill-requires-2
fill-requires-2 c =
    let at = goal.at.fill-requires-2 c in
    let d = described at.In-Ok (admits at.In-Numbers) in
    record { room = (d.sections, refl); called = search rules }

pub fill-requires-3 : goal.fill-requires-3
fill-requires-3 c =
    let at = goal.at.fill-requires-3 c in
    let d = described at.In-Ok (admits at.In-Numbers) in
    record { room = (d.sections, refl); called = search rules }

pub entry_having-requires-2 : goal.entry_having-requires-2
entry_having-requires-2 c = let at = goal.at.entry_having-requires-2 c in fits at.In-Ok (admits at.In-Numbers)

pub returns : goal.returns
unfolding section_identifiers section_lengths
returns c =
    let at = goal.at.returns c in
    let x = c.in-Ok.entered in
    let file = c.args.file.now in
    let ids = c.fill.ensures (identifier_at file x.start) (pos 0) refl (λ i n l e. search rules) in
    let lengths = c.fill-2.ensures (λ i. (section_of file x.start x.nsec i).words) 0 refl (λ i n l e. search rules) in
    let addresses = c.fill-3.ensures (λ i. (section_of file x.start x.nsec i).address.0) 0 refl (λ i n l e. search rules) ∙ addresses-numbers file x.start x.nsec in
    c.entry_having-2.ensures ∙ (λ i. entry_having (given x) (ids i) (lengths i) (addresses i))
    ∙ having-tables file (given x) refl ∙ opened at.In-Ok (admits at.In-Numbers)

pub invariant_of-stored : goal.invariant_of-stored
invariant_of-stored c =
    let at = goal.at.invariant_of-stored c in
    record { described = described at.In-Ok (admits at.In-Numbers) }
