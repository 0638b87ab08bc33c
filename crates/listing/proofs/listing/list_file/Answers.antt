-- The file is validated, and what that shows is listed.
use Rattle.std.proofs.Common.{◌∙◌}
use Rattle.descriptor.proofs.Answered.{Admits, case-told, case-left}
use Rattle.listing.proofs.Listings.{listing-refused, listing-numbers}
use Rattle.listing.proofs.listing.list_file.Goals as goal
use Rattle.listing.proofs.listing.list_file.Goals.{In-Numbers}

-- what the numbers of a file that was admitted show
admits : (c : In-Numbers) → Admits c.args.file.now c.in-Numbers.d c.admit-case.new.totals
admits c = case-told _ c.admit-case.result c.admit-case.ensures.0 c.admit-case.ensures.1 c.in-Numbers.is

pub returns-in_default : goal.returns-in_default
returns-in_default c =
    let a = c.admit-case in
    let left = case-left _ a.result a.ensures.0 c.refusal_of.ensures c.in_default.is in
    rw (listing-refused _ left.validation) (rw (c.as_bytes.ensures.value ∙ c.as_str.ensures.value ∙ c.refused_file.ensures) at c.hand_over.ensures)

pub list_entries-requires : goal.list_entries-requires
list_entries-requires c = let p = admits (goal.at.list_entries-requires c).In-Numbers in (p.admitted, p.table)

pub returns : goal.returns
returns c = rw (listing-numbers _ (admits (goal.at.returns c).In-Numbers).validation) c.list_entries.ensures
