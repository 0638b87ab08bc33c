-- `pieces::entry_words::EntryWords::named` meets its contract: the search over the numbers of the sections finds the first. Assumes nothing.
use Rattle.std.proofs.Common.{◌≡◌, rules, tests}
use Rattle.std.proofs.lemmas.Iterator.{first_from_Range}
use Rattle.pieces.specs.EntryDescriptor.{identifier_at}
use Rattle.pieces.proofs.SectionTables.{named-by}
use Rattle.pieces.proofs.entry_words.EntryWords.named.Goals as goal

pub returns : goal.returns
returns c =
    let e = c.args.self.now in
    named-by e.file.now e.start e.nsec c.args.identifier
    (first_from_Range _ _ _ _ (λ i. identifier_at e.file.now e.start i ≡ c.args.identifier) (λ i. identifier_at e.file.now e.start i ≡ c.args.identifier → ⊥) c.find.ensures.ran
    (λ x q k. search (rules, tests))
    (λ x q k. search (rules, tests)))
