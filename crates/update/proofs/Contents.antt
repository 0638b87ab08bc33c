-- Laws of an update at a place: content that passes 28, the refusals in turn, and the outcome by them. Assumes nothing.
use Prim.Native.Nat.{ℕ, ◌%◌, ◌≤◌}
use mathlib.Core.Path.{◌≡◌, refl, ap}
use mathlib.Core.Bool.{Bool, cond}
use mathlib.Core.List.{List}
use native.Mathlib.Omega.{arith}
use borrow.Author.Tests.{leb-true, eqb-true, ne_eqb}
use lib.Dec.{eqb}
use lib.ListN.{length}
use Rattle.image.specs.Image.{splice}
use Rattle.descriptor.proofs.Refusals.{all_hold}
use Rattle.handing.specs.declared.place.PartPlace.{PartPlace}
use Rattle.update.specs.Rules.{content_rules, content_refusal}
use Rattle.update.specs.Answers.{space_of, padded, update_at, file_at, UpdatesAt}

-- content that passes is whole words, and no larger than the space
pub content-fits : (bytes space : ℕ) → content_refusal bytes space ≡ 0 → (bytes % 4 ≡ 0) × (bytes ≤ space)
unfolding content_refusal
content-fits bytes space e =
    let rows = all_hold (content_rules bytes space) (omega arith) e in
    (eqb-true (bytes % 4) 0 rows.1.0, leb-true bytes space rows.1.1.0)

module _ (p : PartPlace) (content : List ℕ) where
  -- a place that is refused gives its refusal
  pub place-first : (p.refusal ≡ 0 → ⊥) → update_at p content ≡ p.refusal
  unfolding update_at
  place-first d = ap (λ (b : Bool). cond b (content_refusal (length content) (space_of p)) p.refusal) (ne_eqb p.refusal 0 d)

  -- another gives that of the content
  pub content-next : p.refusal ≡ 0 → update_at p content ≡ content_refusal (length content) (space_of p)
  unfolding update_at
  content-next z = ap (λ (n : ℕ). cond (eqb n 0) (content_refusal (length content) (space_of p)) n) z

  module _ (file : List ℕ) where
    -- a refused update answers the number and leaves the file
    pub refused : {n : ℕ} → n ≡ update_at p content → (n ≡ 0 → ⊥) → UpdatesAt file p content n file
    unfolding file_at
    refused {n} e d = let o = ne_eqb n 0 d in rw (← e, o) (refl, refl)

    -- one that is not answers 0 and rewrites the space
    pub not-refused : update_at p content ≡ 0 → UpdatesAt file p content 0 (splice file p.start (padded content (space_of p)))
    unfolding file_at
    not-refused e = rw e (refl, refl)
