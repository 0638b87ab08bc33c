-- `through::keeping::kept_true` meets its contract: the numbers and addresses are those that the file has, and the totals of as many extensions are the same. Assumes nothing.
use Rattle.std.proofs.Common.{◌≡◌, ℕ, List, sym, ap, ◌∙◌, arith}
use Rattle.geometry.specs.Totals.{totals_of}
use Rattle.descriptor.specs.declared.numbers.DescriptorNumbers.{DescriptorNumbers}
use Rattle.descriptor.specs.FirstRecord.{addresses_of, growth_in}
use Rattle.descriptor.proofs.Answered.{file-passed, file-admitted, file-order, answer-numbers}
use Rattle.held.specs.Record.{open_file_with, open_file_of}
use Rattle.through.proofs.Outcomes.{record-then}
use Rattle.through.proofs.keeping.kept_true.Goals as goal
use Rattle.through.proofs.keeping.kept_true.Goals.{After-addresses_of-addresses}

-- the record of what was read is the one that the file has
told : (c : After-addresses_of-addresses) → open_file_with c.numbers_of-numbers.result c.addresses_of-addresses.result ≡ (open_file_of c.args.file.now).file
told c =
    let numbers = c.numbers_of-numbers.ensures in
    let addresses = c.addresses_of-addresses.ensures ∙ ap (λ (d : DescriptorNumbers). addresses_of c.args.file.now d.nex) numbers in
    (λ i. open_file_with (numbers i) (addresses i)) ∙ record-then c.args.file.now _ _ (answer-numbers _ c.requires.passed)

pub numbers_of-numbers-requires : goal.numbers_of-numbers-requires
numbers_of-numbers-requires c = (file-passed _ c.requires.passed).long

pub addresses_of-addresses-requires : goal.addresses_of-addresses-requires
addresses_of-addresses-requires c =
    let a = file-admitted _ c.requires.passed in
    rw c.numbers_of-numbers.ensures (file-order _, a.settled.nex-high, omega (arith, a.settled.nex-room, a.lent.first))

pub open_file_with-requires : goal.open_file_with-requires
open_file_with-requires c = rw c.numbers_of-numbers.ensures (file-admitted _ c.requires.passed).settled

pub returns-then-numbers-before : goal.returns-then-numbers-before
returns-then-numbers-before c = c.open_file_with.ensures ∙ told (goal.at.returns-then-numbers-before c).After-addresses_of-addresses

pub returns : goal.returns
returns c =
    let n = c.numbers_of-numbers in
    let held = c.args.held in
    let as_many : n.result.nex ≡ held.numbers.nex = c.if-numbers-before.false in
    let totals : held.totals ≡ totals_of (growth_in n.result) n.result.nex =
    c.requires.totals ∙ ap (λ (d : DescriptorNumbers). totals_of (growth_in d) held.numbers.nex) (sym n.ensures) ∙ ap (totals_of (growth_in n.result)) (sym as_many) in
    ap (λ (l : List ℕ). record { numbers = n.result; addresses = c.addresses_of-addresses.result; totals = l }) totals ∙ told (goal.at.returns c).After-addresses_of-addresses
