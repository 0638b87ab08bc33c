-- A turn puts what its section has, or passes a place without one; behind the last turn the tables are full.
use Rattle.std.proofs.Common.{◌≤◌, refl, min, ◌∙◌, arith}
use borrow.Author.Rules.{sfits_of}
use mir.Facts.{to_z-of_z}
use Rattle.words.proofs.Table.{filling-all}
use Rattle.pieces.specs.Tables.{section_identifiers, section_lengths}
use Rattle.entry.specs.Entered.{given}
use Rattle.classic.specs.Answers.{entry_having}
use Rattle.classic.proofs.Filled.{passing-next, passing-past}
use Rattle.classic.proofs.Entries.{addresses-numbers, having-tables}
use Rattle.classic.proofs.opening.entry_of_few.Goals as goal
use Rattle.classic.proofs.opening.entry_of_few.Goals.{then-passed-nsec, else-passed-nsec}

pub loop-passed-preserved : goal.loop-passed-preserved
loop-passed-preserved c =
    let kept = c.loop-passed.invariant in
    let few = c.requires.1.sections in
    elim c.if-passed-nsec.branch [
      | then-passed-nsec w ↦
          let some = w.if-passed-nsec.true in
          record {
            ids = rw w.ids-is (passing-next kept.ids some few (rw (to_z-of_z (sfits_of w.identifier.type_inv)) w.identifier.ensures));
            lengths = rw w.lengths-is (passing-next kept.lengths some few (rw w.section-section.ensures));
            addresses = rw w.addresses-is (passing-next kept.addresses some few (rw w.section-section.ensures));
          }
      | else-passed-nsec w ↦
          let past = w.if-passed-nsec.false in
          record {
            ids = rw w.ids-is (passing-past kept.ids past);
            lengths = rw w.lengths-is (passing-past kept.lengths past);
            addresses = rw w.addresses-is (passing-past kept.addresses past);
          }
    ]

pub returns : goal.returns
unfolding section_identifiers section_lengths
returns c =
    let x = c.args.entered in
    let file = c.args.file.now in
    let kept = c.loop-passed.invariant in
    let all : x.nsec ≤ min c.loop-passed.passed x.nsec = omega (arith, c.requires.2, c.loop-passed-test.false) in
    let ids = filling-all kept.ids all in
    let lengths = filling-all kept.lengths all in
    let addresses = filling-all kept.addresses all ∙ addresses-numbers file x.start x.nsec in
    c.entry_having.ensures ∙ (λ i. entry_having (given x) (ids i) (lengths i) (addresses i)) ∙ having-tables file (given x) refl
