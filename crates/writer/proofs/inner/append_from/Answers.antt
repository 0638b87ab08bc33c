-- `writer::inner::append_from` meets its contract: it refuses what is handed in, or its place, or stores it. Assumes nothing.
use Rattle.std.proofs.Common.{◌≡◌, ℕ, sym, ap, ◌∙◌, length, arith, rules}
use Rattle.std.proofs.lemmas.Result.{err_from_is_err_and}
use mir.Facts.{to_z-of_z}
use mir.Syntax.{w32}
use Rattle.image.specs.Writes.{writes}
use Rattle.descriptor.specs.FirstRecord.{addresses_of}
use Rattle.descriptor.proofs.Admitting.{free-small}
use Rattle.placing.specs.Rules.{placement_refusal}
use Rattle.pieces.specs.declared.head.Head.{Head}
use Rattle.storing.specs.Handed.{Handed, handed_of, nword_in}
use Rattle.storing.specs.Writing.{head_of}
use Rattle.storing.specs.AsMade.{store_writes}
use Rattle.storing.specs.Bounds.{Fitting}
use Rattle.storing.proofs.Accepting.{head-nword, head-counted, section-words}
use Rattle.storing.proofs.Made.{made-appended}
use Rattle.writer.specs.Rules.{append_refusal}
use Rattle.writer.proofs.HandedIn.{refusal_of, fitting, accepted}
use Rattle.writer.proofs.ByRefusal.{refused-handed, refused-place, refused_none, accepted-from}
use Rattle.writer.proofs.inner.append_from.Goals as goal
use Rattle.writer.proofs.inner.append_from.Goals.{Start, After-head_of-head}

abbrev handed : After-head_of-head → Handed
handed c = handed_of c.args.entry.now

-- what is handed in passed its rules
passed : (c : After-head_of-head) → refusal_of c.args.d (handed c) ≡ 0
passed c = sym c.in_ok-handed_refusal.ensures

fits : (c : After-head_of-head) → Fitting c.args.d (handed c)
fits c = fitting c.args.d (handed c) (passed c)

-- the head
headed : (c : After-head_of-head) → c.head_of-head.result ≡ head_of (handed c) c.args.d.xnext
headed c = (rw (to_z-of_z {w = w32} {z = c.args.entry.now.version} (search rules)) at c.head_of-head.ensures) ∙ head-counted c.args.d (handed c) (fits c) c.args.d.xnext

nword : (c : After-head_of-head) → c.head_of-head.result.nword ≡ nword_in (handed c)
nword c = ap (λ (r : Head). r.nword) (headed c) ∙ head-nword (handed c) c.args.d.xnext

-- and its place: a refusal is that of the rules, and where they are passed there is none
placing : (c : After-head_of-head) {n : ℕ} → n ≡ placement_refusal (length c.args.file.now) c.args.d c.head_of-head.result.nword
    → n ≡ placement_refusal (length c.args.file.now) c.args.d (nword_in (handed c))
placing c e = e ∙ ap (placement_refusal (length c.args.file.now) c.args.d) (nword c)

none : (c : After-head_of-head) → placement_refusal (length c.args.file.now) c.args.d c.head_of-head.result.nword ≡ 0 → append_refusal (length c.args.file.now) c.args.d (handed c) ≡ 0
none c e = refused_none c.args.file.now c.args.d (handed c) (passed c) (sym (placing c (sym e)))

pub returns-in_err-handed_refusal : goal.returns-in_err-handed_refusal
returns-in_err-handed_refusal c =
    let e = refused-handed c.args.file.now c.args.d (handed_of c.args.entry.now) _ c.in_err-handed_refusal.ensures in
    let p = err_from_is_err_and c.from_residual.result c.from_residual.ensures.1 in
    rw (p.1, p.2) e

pub head_of-head-requires : goal.head_of-head-requires
head_of-head-requires c =
    let f = fitting c.args.d (handed_of c.args.entry.now) (sym c.in_ok-handed_refusal.ensures) in
    let few = f.few in
    search rules

pub place-requires : goal.place-requires
place-requires c =
    let p = (goal.at.place-requires c).After-head_of-head in
    let f = fits p in
    let a = c.requires.0.admitted in
    (a.settled, a.free, free-small _ _ _ a, a.counted, c.requires.1, omega (arith, nword p, f.few, section-words _ _ f))

pub returns-in_err-placed : goal.returns-in_err-placed
returns-in_err-placed c =
    let h = (goal.at.returns-in_err-placed c).After-head_of-head in
    let e = refused-place c.args.file.now c.args.d (handed h) _ (passed h) (placing h c.in_err-placed.ensures) in
    let p = err_from_is_err_and c.from_residual-in_err-placed.result c.from_residual-in_err-placed.ensures.1 in
    rw (p.1, p.2) e

pub store-requires : goal.store-requires
store-requires c =
    let p = (goal.at.store-requires c).After-head_of-head in
    let a = c.args in (
      record {
        order = c.requires.0.order;
        accepted = accepted a.d (handed p) (length a.file.now) (addresses_of a.file.now a.d.nex) c.requires.0.admitted (none p c.in_ok-placed.ensures.0);
        stands = c.in_ok-placed.ensures.1;
        headed = headed p;
      },
      c.requires.1,
    )

pub returns : goal.returns
returns c =
    let p = (goal.at.returns c).After-head_of-head in
    let a = c.args in
    let h = handed p in
    let table = addresses_of a.file.now a.d.nex in
    let none = none p c.in_ok-placed.ensures.0 in
    let admits = accepted a.d h (length a.file.now) table c.requires.0.admitted none in
    let done = accepted-from a.file.now a.d h none in (
      done.0,
      c.store.ensures ∙ (λ i. writes a.file.now (store_writes a.d table (c.in_ok-placed.ensures.1 i) (headed p i) h)) ∙ made-appended _ a.d table h admits a.file.now ∙ done.1,
    )
