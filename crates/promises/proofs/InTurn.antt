-- Appends in turn, up to the first refusal, and so a batch: what every append keeps they keep; and to a sound file they add those that are accepted. Assumes nothing.
use Prim.Native.Nat.{ℕ, suc, ◌+◌}
use mathlib.Core.Path.{◌≡◌}
use mathlib.Core.List.{List, [], ◌∷◌, map}
use native.Mathlib.Numerals.{add-one}
use native.Mathlib.Omega.{arith}
use lib.Dec.{eqb}
use lib.IntN.{ℤ, pos}
use lib.ListN.{take, length-take, length-drop}
use lib.Seq.{get_or-take, get_or-drop}
use Rattle.outcome.proofs.Either.{either}
use Rattle.storing.specs.Handed.{Handed, Integers}
use Rattle.writer.specs.Answers.{append_of, file_after}
use Rattle.batch.specs.Batch.{Laid, Batch, IntegersIn, count_in, id_count, entry_of, left_by, entries_of, entries_in, batch_in}
use Rattle.batch.specs.Rules.{batch_refusal}
use Rattle.batch.specs.Answers.{answer_in_turn, file_in_turn, batch_of, file_after_batch}
use Rattle.promises.specs.Contents.{holds}
use Rattle.promises.specs.Calls.{batch, batched, handed_content, added}
use Rattle.promises.specs.Regions.{Sound}
use Rattle.promises.proofs.Making.{Makes, makes_none, makes-on, append-makes}

-- ---- the entries of a batch

-- the integers of all of these are ones that their words can hold
abbrev pub AllIntegers : List Handed → Type 0
AllIntegers [] = Unit
AllIntegers (h ∷ hs) = Integers h × AllIntegers hs

-- so are those of entries made up of such
entries-made : (versions : List ℤ) (rows : List (List ℕ)) (x : Laid) → IntegersIn (batch_in versions rows x) → AllIntegers (entries_of versions rows x)
entries-made [] rows x g = tt
entries-made (version ∷ versions) [] x g = tt
entries-made (version ∷ versions) (counts ∷ rows) x g =
    let n = count_in counts id_count in
    let first : Integers (entry_of version counts x) = record {
      version = g.versions 0 (omega arith);
      ids = λ i l. rw (get_or-take n x.ids i (pos 0) (omega (arith, length-take n x.ids))) (g.ids i (omega (arith, length-take n x.ids)));
    } in
    let others : IntegersIn (batch_in versions rows (left_by counts x)) = record {
      versions = λ i l. g.versions (suc i) (omega arith);
      ids = λ i l. rw get_or-drop (g.ids (n + i) (omega (arith, length-drop n x.ids)));
    } in
    (first, entries-made versions rows (left_by counts x) others)

-- and those of the entries of a batch
pub entries_fit : (b : Batch) → IntegersIn b → AllIntegers (entries_in b)
entries_fit b g = entries-made b.versions b.counts b.laid g

-- ---- what every append keeps

module _ (P : List ℕ → Type 0) (keep : (file : List ℕ) (h : Handed) → Integers h → P file → P (file_after file h)) where
  -- appends in turn keep it
  pub through : (hs : List Handed) → AllIntegers hs → (file : List ℕ) → P file → P (file_in_turn file hs)
  through [] g file p = p
  through (h ∷ hs) g file p = either (eqb (append_of file h).refusal 0) (λ q. rw q (through hs g.1 (file_after file h) (keep file h g.0 p))) (λ q. rw q p)

  -- and so does a batch
  pub through-batch : (b : Batch) → IntegersIn b → (file : List ℕ) → P file → P (file_after_batch file b)
  unfolding file_after_batch
  through-batch b g file p = either (eqb (batch_refusal b) 0) (λ q. rw q (through (entries_in b) (entries_fit b g) file p)) (λ q. rw q p)

-- ---- what they add

-- appends in turn answer one more where one more was accepted before them
pub one_more : (hs : List Handed) (n : ℕ) (file : List ℕ)
    → answer_in_turn (n + 1) file hs ≡ record { refusal = (answer_in_turn n file hs).refusal; accepted = suc (answer_in_turn n file hs).accepted }
one_more [] n file = rw add-one
one_more (h ∷ hs) n file = either (eqb (append_of file h).refusal 0) (λ q. rw q (one_more hs (n + 1) (file_after file h))) (λ q. rw (q, add-one))

-- they add the first entries, as many as the answer says
turns-make : (hs : List Handed) → AllIntegers hs → (file : List ℕ) → Sound file
    → Makes file (file_in_turn file hs) (λ k r. r) (λ e words. words) (map (λ h. holds (handed_content h)) (take (answer_in_turn 0 file hs).accepted hs))
turns-make [] g file s = makes_none file s
turns-make (h ∷ hs) g file s =
    let next = file_after file h in
    let first = append-makes file s h g.0 in
    either (eqb (append_of file h).refusal 0)
    (λ q. rw (q, one_more hs 0 next) (makes-on (rw q at first) (turns-make hs g.1 next first.sound)))
    (λ q. rw q (makes_none file s))

-- and so does a batch
pub batch-makes : (file : List ℕ) → Sound file → (b : Batch) → IntegersIn b
    → Makes file (file_after_batch file b) (λ k r. r) (λ e words. words) (added (batch b) (batched (batch_of file b)))
unfolding batch_of file_after_batch
batch-makes file s b g = either (eqb (batch_refusal b) 0) (λ q. rw q (turns-make (entries_in b) (entries_fit b g) file s)) (λ q. rw q (makes_none file s))
