-- Two calls one after the other are a series of two, and an append to a file that was created is a series of one, so demand 3 speaks of them. Assumes nothing.
use Prim.Native.Nat.{ℕ}
use mathlib.Core.Path.{◌≡◌, refl, sym, ap, subst₂, ◌∙◌}
use mathlib.Core.Logic.{inl}
use mathlib.Core.List.{List, [], ◌∷◌}
use borrow.Author.Tests.{eq-eqb, ne_eqb}
use lib.ListN.{length}
use Rattle.descriptor.specs.declared.numbers.Settings.{Settings}
use Rattle.writer.specs.Creation.{creation_refusal, created_file, Creates}
use Rattle.storing.specs.Handed.{Handed, Integers}
use Rattle.writer.specs.Answers.{append_of, file_after, Appends}
use Rattle.update.specs.Answers.{Update, update_of, file_after_update, Updates}
use Rattle.promises.specs.Calls.{Call, append, update, AllFit, Answer, appended, updated, run, answers}
use Rattle.promises.specs.Demand.{Created, Start, Promised}
use Rattle.promises.proofs.RefusedAnswers.{create-kept}
use Rattle.promises.proofs.CreatedSound.{created-empty}
use Rattle.promises.proofs.Demand3.{demand-3}
use Rattle.witness.specs.declared.Begun.{Begun}
use Rattle.witness.specs.declared.Revised.{Revised}
use Rattle.witness.specs.declared.Twice.{Twice}
use Rattle.witness.specs.Begun.{refused_begun, begun_of, begun_file, CreatesAndAppends}
use Rattle.witness.specs.Revised.{AppendsAndUpdates}
use Rattle.witness.specs.Twice.{AppendsTwice}

-- answers and a file that are those of a series of calls: from a file that demand 3 starts from, all that it promises holds of them
promised : (calls : List Call) → AllFit calls → {before after : List ℕ} {given : List Answer} → given ≡ answers calls before → after ≡ run calls before → Start before → Promised calls given before after
promised calls g {before} given bytes start = subst₂ (λ (a : List Answer) (f : List ℕ). Promised calls a before f) (sym given) (sym bytes) (demand-3 calls g before start)

-- two appends are such
pub twice : (before between after : List ℕ) (h k : Handed) (r : Twice) → Integers h → Integers k → Appends before h r.first between → Appends between k r.second after
    → AppendsTwice before after h k r
twice before between after h k r g j p q =
    let second = q.0 ∙ ap (λ (f : List ℕ). append_of f k) p.1 in
    let bytes = q.1 ∙ ap (λ (f : List ℕ). file_after f k) p.1 in
    record {
      first = p.0;
      second = second;
      bytes = bytes;
      promised = promised (append h ∷ append k ∷ []) (g, (j, tt)) (λ i. appended (p.0 i) ∷ appended (second i) ∷ []) bytes;
    }

-- and so are an append and an update
pub revised : (before between after : List ℕ) (h : Handed) (u : Update) (r : Revised) → Integers h → Appends before h r.appended between → Updates between u r.updated after
    → AppendsAndUpdates before after h u r
revised before between after h u r g p q =
    let second = q.0 ∙ ap (λ (f : List ℕ). update_of f u) p.1 in
    let bytes = q.1 ∙ ap (λ (f : List ℕ). file_after_update f u) p.1 in
    record {
      first = p.0;
      second = second;
      bytes = bytes;
      promised = promised (append h ∷ update u ∷ []) (g, (tt, tt)) (λ i. appended (p.0 i) ∷ updated (second i) ∷ []) bytes;
    }

module _ (before between after : List ℕ) (s : Settings) (h : Handed) (r : Begun) where
  -- a creation that is accepted makes a file that demand 3 starts from, and the append to it is a series of one call
  pub begun : Integers h → Creates before s r.created between → r.created ≡ 0 → Appends between h r.appended after → CreatesAndAppends before after s h r
  unfolding begun_of begun_file
  begun g c z p =
      let e = sym c.0 ∙ z in
      let accepted = eq-eqb (creation_refusal (length before) s) 0 e in
      let new = created_file before s in
      let answer = p.0 ∙ ap (λ (f : List ℕ). append_of f h) c.1 in
      let bytes = p.1 ∙ ap (λ (f : List ℕ). file_after f h) c.1 in
      let start : Created new = record { image = before; settings = s; given = e; made = refl } in
      record {
        answered = rw accepted (λ i. record { created = z i; appended = answer i });
        bytes = rw accepted bytes;
        empty = λ _. created-empty before s e;
        promised = λ _. promised (append h ∷ []) (g, tt) (λ i. appended (answer i) ∷ []) bytes (inl start);
      }

-- after one that is refused there is no append
pub not-begun : (before after : List ℕ) (s : Settings) (h : Handed) (n : ℕ) → Creates before s n after → (n ≡ 0 → ⊥) → CreatesAndAppends before after s h (refused_begun n)
unfolding begun_of begun_file
not-begun before after s h n c f =
    let refused : creation_refusal (length before) s ≡ 0 → ⊥ = λ e. f (c.0 ∙ e) in
    let other = ne_eqb (creation_refusal (length before) s) 0 refused in
    record {
      answered = rw other (ap refused_begun c.0);
      bytes = rw other (c.1 ∙ create-kept before s refused);
      empty = λ z. absurd (f z);
      promised = λ z. absurd (f z);
    }
