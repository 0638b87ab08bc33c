-- `entry::inner::enter_at` meets its contract: the parts of the table are tested in turn, at the place that the slot names. Assumes nothing.
use Rattle.std.proofs.Common.{◌≡◌, ℕ, ◌≤◌, refl, sym, ap, ◌∙◌, List, length, arith, rules}
use Rattle.std.proofs.lemmas.Result.{err_from_is_err_and}
use borrow.Author.Tests.{le-leb, ne_eqb}
use mir.Syntax.{w32}
use mir.Val.{to_z, of_z}
use Rattle.outcome.proofs.Refusals.{number-positive}
use Rattle.geometry.specs.declared.units.EntryNumber.{EntryNumber}
use Rattle.geometry.specs.declared.units.Place.{Place}
use Rattle.geometry.specs.Units.{entries_before}
use Rattle.descriptor.specs.declared.numbers.DescriptorNumbers.{DescriptorNumbers}
use Rattle.descriptor.specs.Refusal.{refusal_in}
use Rattle.descriptor.specs.FirstRecord.{addresses_of}
use Rattle.descriptor.specs.Bounds.{AdmittedIn}
use Rattle.pieces.specs.EntryDescriptor.{data_of}
use Rattle.pieces.proofs.Pieces.{described-in}
use Rattle.entry.specs.Opening.{place_stored, start_of, number_rules, start_refusal, head_refusal}
use Rattle.entry.proofs.Entering.{Begins, Heads, slot_lent, free-within, start-passed, head_passed, refused-start, refused-head, entry-content}
use Rattle.entry.proofs.inner.enter_at.Goals as goal

-- a place that is stored at the entry's slot
here : (file : List ℕ) {slot at : ℕ} {place : Place} → place ≡ place_stored file slot → slot ≡ at → place ≡ place_stored file at
here file p q = p ∙ ap (place_stored file) q

-- the number is that of an entry
numbered : (d : DescriptorNumbers) (e : EntryNumber) → 1 ≤ e.0 → e.0 ≤ entries_before d.xnext → refusal_in (number_rules d e) ≡ 0
numbered d e low high = rw (le-leb 1 e.0 low, le-leb e.0 (entries_before d.xnext) high)

-- rule 13 is passed
begins : (file : List ℕ) (d : DescriptorNumbers) (place : Place) → AdmittedIn file d (addresses_of file d.nex) → 0 ≡ start_refusal d place → Begins d place
begins file d place a z = start-passed (length file) d (addresses_of file d.nex) place a.admitted (sym z)

-- and so are 14 to 16, at a position that is that of the place
heads : (file : List ℕ) (d : DescriptorNumbers) (place : Place) (e : EntryNumber) → AdmittedIn file d (addresses_of file d.nex) → 0 ≡ start_refusal d place
    → {start : ℕ} → start ≡ start_of d place → 0 ≡ head_refusal file d start e → Heads file d (start_of d place)
heads file d place e a z s h = head_passed file d (addresses_of file d.nex) (start_of d place) e a.admitted (begins file d place a z).ends (sym (rw s at h))

pub place_stored-place-requires : goal.place_stored-place-requires
place_stored-place-requires c =
    let p = c.requires.0 in
    (p.order, omega (arith, c.requires.3, slot_lent (length c.args.file.now) c.args.d _ p.admitted c.args.number c.requires.1 c.requires.2, p.admitted.settled.lind-low))

pub returns-in_err-start_refusal : goal.returns-in_err-start_refusal
returns-in_err-start_refusal c =
    let p = err_from_is_err_and c.from_residual.result c.from_residual.ensures.1 in
    rw (p.1, p.2)
    (sym (refused-start _ _ _ _ (numbered c.args.d c.args.number c.requires.1 c.requires.2) _ (here _ c.place_stored-place.ensures c.requires.3) _ (sym c.in_err-start_refusal.ensures) (ne_eqb _ 0 (number-positive _))))

pub position-start-requires : goal.position-start-requires
position-start-requires c =
    let b = begins _ _ _ c.requires.0 c.in_ok-start_refusal.ensures in
    omega (arith, b, c.requires.0.admitted.settled.reclen-high)

pub head_at-head-requires : goal.head_at-head-requires
head_at-head-requires c =
    let b = begins _ _ _ c.requires.0 c.in_ok-start_refusal.ensures in
    (c.requires.0.order, omega (arith, c.position-start.ensures, b.ends, free-within _ _ _ c.requires.0.admitted))

pub head_refusal-requires : goal.head_refusal-requires
head_refusal-requires c =
    let b = begins _ _ _ c.requires.0 c.in_ok-start_refusal.ensures in
    let a = c.requires.0.admitted in
    (a.settled.reclen-high, a.free, rw c.position-start.ensures b.ends, free-within _ _ _ a, c.head_at-head.ensures)

pub returns-in_err-head_refusal : goal.returns-in_err-head_refusal
returns-in_err-head_refusal c =
    let p = err_from_is_err_and c.from_residual-in_err-head_refusal.result c.from_residual-in_err-head_refusal.ensures.1 in
    let h = rw c.position-start.ensures at c.in_err-head_refusal.ensures in
    rw (p.1, p.2)
    (sym (refused-head _ _ _ _ (numbered c.args.d c.args.number c.requires.1 c.requires.2) _ (here _ c.place_stored-place.ensures c.requires.3) _ (sym c.in_ok-start_refusal.ensures) (sym h) (ne_eqb _ 0 (number-positive _))))

pub invariant_of-entry : goal.invariant_of-entry
invariant_of-entry c =
    let h = heads _ _ _ _ c.requires.0 c.in_ok-start_refusal.ensures c.position-start.ensures c.in_ok-head_refusal.ensures in
    rw (c.head_at-head.ensures, c.position-start.ensures) (record { described = described-in c.requires.0.order h.described })

pub content_refusal-requires : goal.content_refusal-requires
content_refusal-requires c =
    let h = heads _ _ _ _ c.requires.0 c.in_ok-start_refusal.ensures c.position-start.ensures c.in_ok-head_refusal.ensures in
    rw (c.head_at-head.ensures, c.position-start.ensures) h.nword-small

pub returns-in_err-content_refusal : goal.returns-in_err-content_refusal
unfolding data_of
returns-in_err-content_refusal c =
    let p = err_from_is_err_and c.from_residual-in_err-content_refusal.result c.from_residual-in_err-content_refusal.ensures.1 in
    let h = rw c.position-start.ensures at c.in_ok-head_refusal.ensures in
    let k = rw (c.head_at-head.ensures, c.position-start.ensures) at c.in_err-content_refusal.ensures in
    rw (p.1, p.2)
    (sym (entry-content _ _ _ _ (numbered c.args.d c.args.number c.requires.1 c.requires.2) _ (here _ c.place_stored-place.ensures c.requires.3) _ (sym c.in_ok-start_refusal.ensures) (sym h) (sym k)))

pub returns : goal.returns
unfolding data_of
returns c =
    let h = rw c.position-start.ensures at c.in_ok-head_refusal.ensures in
    let k = rw (c.head_at-head.ensures, c.position-start.ensures) at c.in_ok-content_refusal.ensures in
    let version : to_z w32 (of_z w32 c.head_at-head.result.version) ≡ c.head_at-head.result.version = search rules in (
      entry-content _ _ _ _ (numbered c.args.d c.args.number c.requires.1 c.requires.2) _ (here _ c.place_stored-place.ensures c.requires.3) 0 (sym c.in_ok-start_refusal.ensures) (sym h) (sym k),
      rw version (rw (c.head_at-head.ensures, c.position-start.ensures, here _ c.place_stored-place.ensures c.requires.3) refl),
    )
