-- `placing::rules::extension_refusal` meets its contract: the two rows of the table hold where no extension is needed, and are tested in turn where one is. Assumes nothing.
use Rattle.std.proofs.Common.{◌≡◌, ◌+◌, ◌-◌, ◌≤◌, ◌<◌, true, Bool, cond, sym, ◌∙◌, arith}
use borrow.Author.Tests.{lt-ltb, le-ltb, le-leb, lt-leb}
use lib.Dec.{leb}
use Rattle.geometry.specs.Growth.{capacity_of}
use Rattle.descriptor.specs.declared.numbers.DescriptorNumbers.{DescriptorNumbers}
use Rattle.descriptor.specs.FirstRecord.{mex_of, growth_in}
use Rattle.descriptor.proofs.Passed.{mex-high}
use Rattle.descriptor.proofs.AreaOrder.{growing}
use Rattle.placing.specs.Placing.{full}
use Rattle.placing.specs.Rules.{extension_refusal}
use Rattle.placing.proofs.rules.extension_refusal.Goals as goal
use Rattle.placing.proofs.rules.extension_refusal.Goals.{After-capacity-entries}

-- where one is needed, and one more has room, the last row decides
last : (d : DescriptorNumbers) → full d ≡ true → d.nex < mex_of d.reclen → {b : Bool} → leb (capacity_of (growth_in d) (d.nex + 1)) 16384 ≡ b → cond b 0 23 ≡ extension_refusal d
unfolding extension_refusal
last d f room t = rw (f, lt-ltb d.nex (mex_of d.reclen) room, t)

-- the capacity of the next extension
entries : (c : After-capacity-entries) → c.capacity-entries.result ≡ capacity_of (growth_in c.args.d) (c.args.d.nex + 1)
entries c = rw c.new.ensures at c.capacity-entries.ensures

pub returns-then-not-extends : goal.returns-then-not-extends
unfolding extension_refusal
returns-then-not-extends c = rw (sym c.requires.1 ∙ c.if-not-extends.true)

pub returns-then-mex-d : goal.returns-then-mex-d
unfolding extension_refusal
returns-then-mex-d c =
    let d = c.args.d in
    let low : mex_of d.reclen ≤ d.nex = omega (arith, c.mex.ensures, c.if-mex-d.true) in
    rw (sym c.requires.1 ∙ c.if-not-extends.false, le-ltb d.nex (mex_of d.reclen) low)

pub capacity-entries-requires : goal.capacity-entries-requires
capacity-entries-requires c =
    let d = c.args.d in
    let q : d.nex + 1 - 1 ≡ d.nex = omega arith in
    (omega arith, omega (arith, c.mex.ensures, c.if-mex-d.false, mex-high d.reclen), rw (q, c.new.ensures) (growing d d.nex c.requires.0 (omega arith)))

pub returns-then-entries-gt-CAPACITY_MAX : goal.returns-then-entries-gt-CAPACITY_MAX
returns-then-entries-gt-CAPACITY_MAX c =
    let d = c.args.d in
    let e = entries (goal.at.returns-then-entries-gt-CAPACITY_MAX c).After-capacity-entries in
    last d (sym c.requires.1 ∙ c.if-not-extends.false) (omega (arith, c.mex.ensures, c.if-mex-d.false)) (lt-leb (capacity_of (growth_in d) (d.nex + 1)) 16384 (omega (arith, e, c.if-entries-gt-CAPACITY_MAX.true)))

pub returns : goal.returns
returns c =
    let d = c.args.d in
    let e = entries (goal.at.returns c).After-capacity-entries in
    last d (sym c.requires.1 ∙ c.if-not-extends.false) (omega (arith, c.mex.ensures, c.if-mex-d.false)) (le-leb (capacity_of (growth_in d) (d.nex + 1)) 16384 (omega (arith, e, c.if-entries-gt-CAPACITY_MAX.false)))
