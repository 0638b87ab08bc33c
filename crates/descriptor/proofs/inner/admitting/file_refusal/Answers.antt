-- Each test that fails gives the refusal of its rule, and the walk leaves the totals. Assumes nothing.
use Rattle.std.proofs.Common.{◌-◌, sym, ap, ◌∙◌, arith}
use Rattle.geometry.specs.declared.units.WordNumber.{WordNumber}
use Rattle.image.specs.Image.{part, all_zero}
use Rattle.geometry.specs.Units.{first_record_offset_of}
use Rattle.descriptor.specs.FirstRecord.{addresses_of}
use Rattle.descriptor.specs.Rules.{no_leftovers}
use Rattle.descriptor.proofs.Refusals.{number_low, row-holds, row-broken, passed-on}
use Rattle.descriptor.proofs.Walks.{walked-none, walked-some}
use Rattle.descriptor.proofs.AreaOrder.{ordered-low}
use Rattle.descriptor.proofs.Entered.{short-refused, limit-refused, walkable, over-refused, left, countable, count-refused, placed, area-refused, leftovers-last}
use Rattle.descriptor.proofs.inner.admitting.file_refusal.Goals as goal

pub returns-in_err-unless-clause-refuses : goal.returns-in_err-unless-clause-refuses
returns-in_err-unless-clause-refuses c =
    let row = row-broken _ 1 c.in_err-unless.field-0.0 c.in_err-unless.ensures in
    passed-on c.in_err-unless.field-0.0 c.from_residual.result c.from_residual.ensures.1 (row.1 ∙ (short-refused c.args.file.now row.0).0)

pub returns-in_err-unless-clause-leaves : goal.returns-in_err-unless-clause-leaves
returns-in_err-unless-clause-leaves c = c.requires ∙ (short-refused c.args.file.now (row-broken _ 1 c.in_err-unless.field-0.0 c.in_err-unless.ensures).0).1

pub returns-in_err-limit_refusal-clause-refuses : goal.returns-in_err-limit_refusal-clause-refuses
returns-in_err-limit_refusal-clause-refuses c =
    let enough = row-holds _ 1 (omega arith) c.in_ok-unless.ensures in
    passed-on c.in_err-limit_refusal.field-0.0 c.from_residual-in_err-limit_refusal.result c.from_residual-in_err-limit_refusal.ensures.1
    (limit-refused c.args.file.now _ c.numbers_of-d.ensures enough _ (number_low c.in_err-limit_refusal.field-0.0) c.in_err-limit_refusal.ensures).0

pub returns-in_err-limit_refusal-clause-leaves : goal.returns-in_err-limit_refusal-clause-leaves
returns-in_err-limit_refusal-clause-leaves c =
    let enough = row-holds _ 1 (omega arith) c.in_ok-unless.ensures in
    c.requires ∙ (limit-refused c.args.file.now _ c.numbers_of-d.ensures enough _ (number_low c.in_err-limit_refusal.field-0.0) c.in_err-limit_refusal.ensures).1

-- behind the limits
pub walk_extensions-requires : goal.walk_extensions-requires
walk_extensions-requires c =
    let w = walkable c.args.file.now _ c.numbers_of-d.ensures (row-holds _ 1 (omega arith) c.in_ok-unless.ensures) c.in_ok-limit_refusal.ensures in
    (w.0, w.1, w.2, c.requires)

pub returns-in_default-clause-refuses : goal.returns-in_default-clause-refuses
returns-in_default-clause-refuses c =
    let over = walked-none c.numbers_of-d.result (addresses_of c.args.file.now c.numbers_of-d.result.nex) (sym c.in_default.is ∙ c.walk_extensions.ensures.0) in
    (over-refused c.args.file.now _ c.numbers_of-d.ensures (row-holds _ 1 (omega arith) c.in_ok-unless.ensures) c.in_ok-limit_refusal.ensures over).0

pub returns-in_default-clause-leaves : goal.returns-in_default-clause-leaves
returns-in_default-clause-leaves c =
    let over = walked-none c.numbers_of-d.result (addresses_of c.args.file.now c.numbers_of-d.result.nex) (sym c.in_default.is ∙ c.walk_extensions.ensures.0) in
    c.walk_extensions.ensures.1 ∙ (over-refused c.args.file.now _ c.numbers_of-d.ensures (row-holds _ 1 (omega arith) c.in_ok-unless.ensures) c.in_ok-limit_refusal.ensures over).1

-- behind the walk
pub count_refusal-requires : goal.count_refusal-requires
count_refusal-requires c =
    let found = walked-some c.numbers_of-d.result (addresses_of c.args.file.now c.numbers_of-d.result.nex) (sym c.in-Some.is ∙ c.walk_extensions.ensures.0) in
    let p = countable c.args.file.now _ c.numbers_of-d.ensures (row-holds _ 1 (omega arith) c.in_ok-unless.ensures) c.in_ok-limit_refusal.ensures found.within in
    (p.0, p.1, found.holding)

pub returns-in_err-count_refusal-clause-refuses : goal.returns-in_err-count_refusal-clause-refuses
returns-in_err-count_refusal-clause-refuses c =
    let found = walked-some c.numbers_of-d.result (addresses_of c.args.file.now c.numbers_of-d.result.nex) (sym c.in-Some.is ∙ c.walk_extensions.ensures.0) in
    passed-on c.in_err-count_refusal.field-0.0 c.from_residual-in_err-count_refusal.result c.from_residual-in_err-count_refusal.ensures.1
    (count-refused c.args.file.now _ c.numbers_of-d.ensures (row-holds _ 1 (omega arith) c.in_ok-unless.ensures) c.in_ok-limit_refusal.ensures found.within
    _ (number_low c.in_err-count_refusal.field-0.0) c.in_err-count_refusal.ensures)

pub returns-in_err-count_refusal-clause-leaves : goal.returns-in_err-count_refusal-clause-leaves
returns-in_err-count_refusal-clause-leaves c =
    let found = walked-some c.numbers_of-d.result (addresses_of c.args.file.now c.numbers_of-d.result.nex) (sym c.in-Some.is ∙ c.walk_extensions.ensures.0) in
    c.walk_extensions.ensures.1 ∙ left c.args.file.now _ c.numbers_of-d.ensures (row-holds _ 1 (omega arith) c.in_ok-unless.ensures) c.in_ok-limit_refusal.ensures found.within

-- behind the counts
pub areas_hold-requires : goal.areas_hold-requires
areas_hold-requires c =
    let found = walked-some c.numbers_of-d.result (addresses_of c.args.file.now c.numbers_of-d.result.nex) (sym c.in-Some.is ∙ c.walk_extensions.ensures.0) in
    let enough = row-holds _ 1 (omega arith) c.in_ok-unless.ensures in
    let p = placed c.args.file.now _ c.numbers_of-d.ensures enough c.in_ok-limit_refusal.ensures found.within c.in_ok-count_refusal.ensures in
    ((walkable c.args.file.now _ c.numbers_of-d.ensures enough c.in_ok-limit_refusal.ensures).0, p.0, p.1, rw found.after (ordered-low _ _ _))

pub returns-in_err-unless-2-clause-refuses : goal.returns-in_err-unless-2-clause-refuses
returns-in_err-unless-2-clause-refuses c =
    let found = walked-some c.numbers_of-d.result (addresses_of c.args.file.now c.numbers_of-d.result.nex) (sym c.in-Some.is ∙ c.walk_extensions.ensures.0) in
    let row = row-broken _ 11 c.in_err-unless-2.field-0.0 c.in_err-unless-2.ensures in
    passed-on c.in_err-unless-2.field-0.0 c.from_residual-in_err-unless-2.result c.from_residual-in_err-unless-2.ensures.1
    (row.1 ∙ area-refused c.args.file.now _ c.numbers_of-d.ensures (row-holds _ 1 (omega arith) c.in_ok-unless.ensures) c.in_ok-limit_refusal.ensures found.within c.in_ok-count_refusal.ensures
    _ found.after (sym row.0 ∙ c.areas_hold.ensures))

pub returns-in_err-unless-2-clause-leaves : goal.returns-in_err-unless-2-clause-leaves
returns-in_err-unless-2-clause-leaves c =
    let found = walked-some c.numbers_of-d.result (addresses_of c.args.file.now c.numbers_of-d.result.nex) (sym c.in-Some.is ∙ c.walk_extensions.ensures.0) in
    c.walk_extensions.ensures.1 ∙ left c.args.file.now _ c.numbers_of-d.ensures (row-holds _ 1 (omega arith) c.in_ok-unless.ensures) c.in_ok-limit_refusal.ensures found.within

-- behind the areas
pub after_aex-requires : goal.after_aex-requires
after_aex-requires c = omega (arith, (walkable c.args.file.now _ c.numbers_of-d.ensures (row-holds _ 1 (omega arith) c.in_ok-unless.ensures) c.in_ok-limit_refusal.ensures).0)

pub first_record_offset-start-requires : goal.first_record_offset-start-requires
first_record_offset-start-requires c =
    omega (arith, (walkable c.args.file.now _ c.numbers_of-d.ensures (row-holds _ 1 (omega arith) c.in_ok-unless.ensures) c.in_ok-limit_refusal.ensures).0, ap (λ (w : WordNumber). w.0) c.after_aex.ensures)

pub byte_offset-end-requires : goal.byte_offset-end-requires
byte_offset-end-requires c = omega (arith, (walkable c.args.file.now _ c.numbers_of-d.ensures (row-holds _ 1 (omega arith) c.in_ok-unless.ensures) c.in_ok-limit_refusal.ensures).0)

pub all_zero-requires : goal.all_zero-requires
all_zero-requires c =
    let found = walked-some c.numbers_of-d.result (addresses_of c.args.file.now c.numbers_of-d.result.nex) (sym c.in-Some.is ∙ c.walk_extensions.ensures.0) in
    let p = countable c.args.file.now _ c.numbers_of-d.ensures (row-holds _ 1 (omega arith) c.in_ok-unless.ensures) c.in_ok-limit_refusal.ensures found.within in
    omega (arith, p.0, p.1, c.byte_offset-end.ensures, c.first_record_offset-start.ensures, ap (λ (w : WordNumber). w.0) c.after_aex.ensures)

pub returns-clause-refuses : goal.returns-clause-refuses
unfolding no_leftovers
returns-clause-refuses c =
    let found = walked-some c.numbers_of-d.result (addresses_of c.args.file.now c.numbers_of-d.result.nex) (sym c.in-Some.is ∙ c.walk_extensions.ensures.0) in
    let hold = row-holds _ 11 (omega arith) c.in_ok-unless-2.ensures in
    let from = c.first_record_offset-start.ensures ∙ ap first_record_offset_of c.after_aex.ensures in
    let clear = c.all_zero.ensures ∙ (λ i. all_zero (part c.args.file.now (from i) (c.byte_offset-end.ensures i - from i))) in
    c.unless-3.ensures
    ∙ leftovers-last c.args.file.now _ c.numbers_of-d.ensures (row-holds _ 1 (omega arith) c.in_ok-unless.ensures) c.in_ok-limit_refusal.ensures found.within c.in_ok-count_refusal.ensures
    _ found.after _ (sym hold ∙ c.areas_hold.ensures) clear

pub returns-clause-leaves : goal.returns-clause-leaves
returns-clause-leaves c =
    let found = walked-some c.numbers_of-d.result (addresses_of c.args.file.now c.numbers_of-d.result.nex) (sym c.in-Some.is ∙ c.walk_extensions.ensures.0) in
    c.walk_extensions.ensures.1 ∙ left c.args.file.now _ c.numbers_of-d.ensures (row-holds _ 1 (omega arith) c.in_ok-unless.ensures) c.in_ok-limit_refusal.ensures found.within
