-- `storing::storing::store` meets its contract: the steps one after the other. Assumes nothing.
use Rattle.std.proofs.Common.{◌+◌, ◌≤◌, ◌^◌, sym, ◌∙◌, arith}
use Rattle.image.specs.Writes.{writes}
use Rattle.image.proofs.Writes.{writes-append}
use Rattle.descriptor.proofs.Admitting.{xnext-small}
use Rattle.fields.specs.FieldWrites.{count_writes}
use Rattle.placing.specs.Placing.{numbers_after}
use Rattle.storing.specs.Writing.{slot_writes}
use Rattle.storing.specs.AsMade.{pieces_writes, rest_writes}
use Rattle.storing.proofs.Stores.{start-placed, extends-placed, nsec-headed, start_small, describing, content-inside, end-placed, slot_placed, slot_same, word_small, word_after}
use Rattle.storing.proofs.storing.store.Goals as goal
use Rattle.storing.proofs.storing.store.Goals.{Start}

-- where the entry ends
end : (s : Start) → s.args.placed.start + s.args.head.nword ≤ 2 ^ 28
end s = let q = s.requires.0 in omega (arith, end-placed _ _ _ _ _ q, start-placed _ _ _ _ _ q, start_small _ _ _ _ _ q)

pub put_descriptor-requires : goal.put_descriptor-requires
put_descriptor-requires c = describing _ _ _ _ _ c.requires.0

pub first_content-requires : goal.first_content-requires
first_content-requires c = let q = c.requires.0 in omega (arith, nsec-headed _ _ _ _ _ q, q.accepted.fitting.few)

pub put_content-requires : goal.put_content-requires
put_content-requires c =
    let inside = content-inside _ _ _ _ _ c.requires.0 c.first_content.result c.first_content.ensures in
    (inside.0, inside.1, rw c.put_descriptor.auto.file inside.2)

pub put_slot-requires : goal.put_slot-requires
put_slot-requires c =
    let q = c.requires.0 in
    let room = slot_placed _ _ _ _ _ q c.new_slot-slot.result c.new_slot-slot.ensures in
    let word = word_small _ _ _ _ _ q in
    (room.0, rw c.place_at.ensures (omega arith), rw (c.put_content.auto.file ∙ c.put_descriptor.auto.file) room.1)

pub overflow_add-placed : goal.overflow_add-placed
overflow_add-placed c = omega (arith, end (goal.at.overflow_add-placed c).Start)

pub numbers_after-requires : goal.numbers_after-requires
numbers_after-requires c =
    let q = c.requires.0 in
    let a = q.accepted.admitted in
    (a.settled, xnext-small _ _ _ a, extends-placed _ _ _ _ _ q, omega (arith, end (goal.at.numbers_after-requires c).Start))

pub put_counts-requires : goal.put_counts-requires
put_counts-requires c =
    let q = c.requires.0 in
    let a = q.accepted.admitted in
    let word = word_after _ _ _ _ _ q (c.args.placed.start + c.args.head.nword) in
    (rw c.numbers_after.ensures (omega arith), omega (arith, a.lent.first, a.settled.reclen-low, c.put_rest.auto.file, c.put_slot.auto.file, c.put_content.auto.file, c.put_descriptor.auto.file))

pub returns : goal.returns
unfolding numbers_after
returns c =
    let a = c.args in
    let d = a.d in
    let p = a.placed in
    let e = a.entry.now in
    let last = p.start + a.head.nword in
    let filled = c.put_content.ensures
    ∙ (λ i. writes (c.put_descriptor.ensures i) (pieces_writes p.start (c.first_content.ensures i) e.sections.now e.values.now)) in
    let slot = c.new_slot-slot.ensures ∙ slot_same _ _ _ _ _ c.requires.0 last in
    let indexed = c.put_slot.ensures ∙ (λ i. writes (filled i) (slot_writes d.order (slot i) (c.place_at.ensures i) e.index.now)) in
    c.put_counts.ensures
    ∙ (λ i. writes ((c.put_rest.ensures ∙ (λ j. writes (indexed j) (rest_writes d))) i) (count_writes (c.numbers_after.ensures i)))
    ∙ sym (writes-append _ (rest_writes d) (count_writes (numbers_after d last)))
