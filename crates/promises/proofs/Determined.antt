-- What each contract determines: two outcomes of a call that both meet its contract are equal, the answer, a lent record and each lent byte. Every contract of a public
-- function is one of the relations here, or is an answer alone or bytes alone as a definition has them (`one_answer` and `one-file` of `outcome`). Assumes nothing.
use Rattle.std.specs.Prelude.{Result}
use Prim.Native.Nat.{ℕ}
use mathlib.Core.Path.{◌≡◌, sym, ◌∙◌}
use mathlib.Core.List.{List}
use lib.ListN.{length}
use denote.Ref.{Bor}
use Rattle.outcome.specs.declared.refusal.Refusal.{Refusal}
use Rattle.outcome.proofs.Determined.{one_answer, one-file, one-outcome}
use Rattle.outcome.proofs.Refusals.{one-given}
use Rattle.geometry.specs.declared.units.EntryNumber.{EntryNumber}
use Rattle.descriptor.specs.declared.numbers.Settings.{Settings}
use Rattle.descriptor.specs.declared.numbers.DescriptorNumbers.{DescriptorNumbers}
use Rattle.handing.specs.declared.place.PartPlace.{PartPlace}
use Rattle.handing.specs.Parts.{IsPart}
use Rattle.writer.specs.declared.answers.Appended.{Appended}
use Rattle.writer.specs.Creation.{Creates}
use Rattle.storing.specs.Handed.{Handed}
use Rattle.writer.specs.Rules.{append_refusal}
use Rattle.writer.specs.Answers.{Appends, AppendsFrom}
use Rattle.batch.specs.declared.answers.Batched.{Batched}
use Rattle.batch.specs.Batch.{Batch}
use Rattle.batch.specs.Answers.{AppendsInTurn, AppendsBatch}
use Rattle.update.specs.Answers.{Update, UpdatesAt, Updates}
use Rattle.held.specs.declared.answers.OpenFile.{OpenFile}
use Rattle.through.specs.declared.appending.AppendedThrough.{AppendedThrough}
use Rattle.through.specs.declared.batching.BatchedThrough.{BatchedThrough}
use Rattle.through.specs.declared.updating.UpdatedThrough.{UpdatedThrough}
use Rattle.through.specs.Answers.{Outcome, Gives, AppendsThrough, AppendsTo, AppendsBatchThrough, AppendsBatchTo, UpdatesThrough, UpdatesTo}
use Rattle.listing.specs.Listing.{Lists, Prints}

-- a creation has one outcome
pub create-determined : (file : List ℕ) (s : Settings) (p q : ℕ) (f g : List ℕ) → Creates file s p f → Creates file s q g → (p ≡ q) × (f ≡ g)
create-determined file s p q f g a b = one-outcome a b

-- so has an append
pub append-determined : (file : List ℕ) (h : Handed) (p q : Appended) (f g : List ℕ) → Appends file h p f → Appends file h q g → (p ≡ q) × (f ≡ g)
append-determined file h p q f g a b = one-outcome a b

-- and one to admitted numbers
pub append-from-determined : (file : List ℕ) (d : DescriptorNumbers) (h : Handed) (p q : Result EntryNumber Refusal) (f g : List ℕ)
    → AppendsFrom file d h p f → AppendsFrom file d h q g → (p ≡ q) × (f ≡ g)
append-from-determined file d h p q f g a b = (one-given (append_refusal (length file) d h) d.xnext p q a.0 b.0, one-file a.1 b.1)

-- and appends in turn
pub in-turn-determined : (file : List ℕ) (hs : List Handed) (p q : Batched) (f g : List ℕ) → AppendsInTurn file hs p f → AppendsInTurn file hs q g → (p ≡ q) × (f ≡ g)
in-turn-determined file hs p q f g a b = one-outcome a b

-- and a batch of them
pub batch-determined : (file : List ℕ) (b : Batch) (p q : Batched) (f g : List ℕ) → AppendsBatch file b p f → AppendsBatch file b q g → (p ≡ q) × (f ≡ g)
batch-determined file b p q f g x y = one-outcome x y

-- and an update
pub update-determined : (file : List ℕ) (u : Update) (p q : ℕ) (f g : List ℕ) → Updates file u p f → Updates file u q g → (p ≡ q) × (f ≡ g)
update-determined file u p q f g a b = one-outcome a b

-- and one at the place of its section
pub update-at-determined : (file : List ℕ) (place : PartPlace) (content : List ℕ) (p q : ℕ) (f g : List ℕ)
    → UpdatesAt file place content p f → UpdatesAt file place content q g → (p ≡ q) × (f ≡ g)
update-at-determined file place content p q f g a b = one-outcome a b

-- a call through a record has one outcome: the answer, the record and the file
one-through : {A : Type 0} {x : Outcome A} {p q : A} {l m : OpenFile} {f g : List ℕ} → Gives x p l f → Gives x q m g → (p ≡ q) × (l ≡ m) × (f ≡ g)
one-through a b = (one_answer a.0 b.0, one_answer a.1 b.1, one-file a.2 b.2)

module _ (file : List ℕ) (held : OpenFile) where
  -- an append, with the record by value
  pub append-through-determined : (h : Handed) (p q : AppendedThrough) (f g : List ℕ) → AppendsThrough file held h p f → AppendsThrough file held h q g → (p ≡ q) × (f ≡ g)
  append-through-determined h p q f g a b = let o = one-through a b in (λ i. record { held = o.1 i; answer = o.0 i }, o.2)

  -- and lent
  pub append-to-determined : (h : Handed) (p q : Appended) (l m : OpenFile) (f g : List ℕ) → AppendsTo file held h p l f → AppendsTo file held h q m g
      → (p ≡ q) × (l ≡ m) × (f ≡ g)
  append-to-determined h p q l m f g a b = one-through a b

  -- a batch, with the record by value
  pub batch-through-determined : (b : Batch) (p q : BatchedThrough) (f g : List ℕ) → AppendsBatchThrough file held b p f → AppendsBatchThrough file held b q g
      → (p ≡ q) × (f ≡ g)
  batch-through-determined b p q f g x y = let o = one-through x y in (λ i. record { held = o.1 i; answer = o.0 i }, o.2)

  -- and lent
  pub batch-to-determined : (b : Batch) (p q : Batched) (l m : OpenFile) (f g : List ℕ) → AppendsBatchTo file held b p l f → AppendsBatchTo file held b q m g
      → (p ≡ q) × (l ≡ m) × (f ≡ g)
  batch-to-determined b p q l m f g x y = one-through x y

  -- an update, with the record by value
  pub update-through-determined : (u : Update) (p q : UpdatedThrough) (f g : List ℕ) → UpdatesThrough file held u p f → UpdatesThrough file held u q g → (p ≡ q) × (f ≡ g)
  update-through-determined u p q f g a b = let o = one-through a b in (λ i. record { held = o.1 i; answer = o.0 i }, o.2)

  -- and lent
  pub update-to-determined : (u : Update) (p q : ℕ) (l m : OpenFile) (f g : List ℕ) → UpdatesTo file held u p l f → UpdatesTo file held u q m g
      → (p ≡ q) × (l ≡ m) × (f ≡ g)
  update-to-determined u p q l m f g a b = one-through a b

-- a listing has one outcome, whatever the buffer held
pub list-determined : (file out : List ℕ) (p q : ℕ) (f g : List ℕ) → Lists file out p f → Lists file out q g → (p ≡ q) × (f ≡ g)
list-determined file out p q f g a b = one-outcome a b

-- so has what the program prints of an input
pub print-determined : (input out : List ℕ) (p q : ℕ) (f g : List ℕ) → Prints input out p f → Prints input out q g → (p ≡ q) × (f ≡ g)
print-determined input out p q f g a b = one-outcome a b

-- a part that is handed out has its bytes and its place in the lent slice. Its ghost name alone is open, which no program can see
pub part-determined : (file : Bor (List ℕ)) (p : PartPlace) (r s : Bor (List ℕ)) → IsPart file p r → IsPart file p s → (r.now ≡ s.now) × (r.ref_ptr ≡ s.ref_ptr)
part-determined file p r s a b = (a.bytes ∙ sym b.bytes, a.pointer ∙ sym b.pointer)
