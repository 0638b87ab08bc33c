-- A section reads as it was last updated, padded with zeros: whatever calls come before the update, and whatever calls behind it that are no accepted update of that
-- section (Q-3 of 02). Assumes nothing.
use Prim.Native.Nat.{ℕ, ◌≤◌}
use mathlib.Core.Path.{◌≡◌, refl, sym, ap, ◌∙◌}
use mathlib.Core.List.{List, [], ◌∷◌}
use native.Mathlib.Omega.{arith}
use borrow.Author.Tests.{eqb-true}
use lib.Dec.{eqb}
use lib.IntN.{ℤ}
use Rattle.outcome.proofs.Either.{either}
use Rattle.update.specs.Answers.{Update, space_of, padded, place_named, update_of, file_after_update}
use Rattle.promises.specs.Contents.{entries_of, Reading, holds, refused, reading_of, Search, found, missing, first_with, section_found}
use Rattle.promises.specs.Calls.{Call, append, batch, update, AllFit, Answer, refusal_of, run, answers, reading_updated, reading_after, reading_after_all}
use Rattle.promises.specs.Regions.{Sound}
use Rattle.promises.specs.Demand.{Start}
use Rattle.promises.specs.Updates.{Spares, AllSpare}
use Rattle.promises.proofs.OpenEntries.{open-shown}
use Rattle.promises.proofs.SectionFirst.{section-first}
use Rattle.promises.proofs.UpdatedEntries.{update-number, update-entries, update-sound}
use Rattle.promises.proofs.Updates.{first-other, update-rewrites}
use Rattle.promises.proofs.Making.{sound-open}
use Rattle.promises.proofs.Series.{run_sound, run-count, run-reads}
use Rattle.promises.proofs.OrderSound.{order-sound}
use Rattle.promises.proofs.Demand3.{start-ordered}

-- ---- what is found under a number

-- the first section with an identifier in what a reader finds
abbrev found_in : ℤ → Reading → Search
found_in z (refused n) = missing
found_in z (holds c) = first_with z c.sections

-- is what the call `section` finds
found-reading : (file : List ℕ) → Sound file → (e : ℕ) → 1 ≤ e → e ≤ entries_of file → (z : ℤ) → section_found file (record { 0 = e }) z ≡ found_in z (reading_of file (record { 0 = e }))
unfolding reading_of
found-reading file s e l h z = let o = sound-open file s e l h in section-first o z ∙ rw (open-shown o)

-- ---- calls that spare a section

module _ (u : Update) where
  -- another update leaves it, of this entry or of another
  updated-spared : (v : Update) → (v.identifier ≡ u.identifier → ⊥) → (r : Reading) → found_in u.identifier (reading_updated v r) ≡ found_in u.identifier r
  updated-spared v o (refused n) = refl
  updated-spared v o (holds c) = first-other u.identifier v.identifier v.content (λ e. o (sym e)) c.sections

  -- so does every call that spares it
  call-spared : (c : Call) (a : Answer) → Spares u c a → (r : Reading) → found_in u.identifier (reading_after c a u.number.0 r) ≡ found_in u.identifier r
  call-spared (append h) a t r = refl
  call-spared (batch b) a t r = refl
  call-spared (update v) a t r =
      either (eqb (refusal_of a) 0)
      (λ p. either (eqb v.number.0 u.number.0)
      (λ q. rw (p, q) (updated-spared v (t (eqb-true (refusal_of a) 0 p) (eqb-true v.number.0 u.number.0 q)) r))
      (λ q. rw (p, q)))
      (λ p. rw p)

  -- and a series of such
  all-spared : (calls : List Call) (given : List Answer) → AllSpare u calls given → (r : Reading) → found_in u.identifier (reading_after_all calls given u.number.0 r) ≡ found_in u.identifier r
  all-spared [] given t r = refl
  all-spared (c ∷ cs) [] t r = refl
  all-spared (c ∷ cs) (a ∷ given) t r = all-spared cs given t.1 (reading_after c a u.number.0 r) ∙ call-spared c a t.0 r

  -- so after them the section is found as before them
  found-spared : (file : List ℕ) → Sound file → (calls : List Call) → AllFit calls → 1 ≤ u.number.0 → u.number.0 ≤ entries_of file → AllSpare u calls (answers calls file)
      → section_found (run calls file) u.number u.identifier ≡ section_found file u.number u.identifier
  found-spared file s calls g l h t =
      let e = u.number.0 in
      found-reading (run calls file) (run_sound calls g file s) e l (omega (arith, run-count calls g file s)) u.identifier
      ∙ ap (found_in u.identifier) (run-reads calls g file s e l h)
      ∙ all-spared calls (answers calls file) t (reading_of file u.number)
      ∙ sym (found-reading file s e l h u.identifier)

-- ---- the last update

-- from a file that demand 3 starts from, after any series with an accepted update, and then any that spares its section, the section hands out the update's content and zeros
pub last-updated : (earlier later : List Call) → AllFit earlier → AllFit later → (file : List ℕ) → Start file → (u : Update) → let before = run earlier file in let after = file_after_update before u in
    update_of before u ≡ 0 → AllSpare u later (answers later after)
    → section_found (run later after) u.number u.identifier ≡ found (padded u.content (space_of (place_named before u)))
last-updated earlier later f g file start u z t =
    let before = run earlier file in
    let s = run_sound earlier f file (order-sound file (start-ordered file start)) in
    let n = update-number before u z in
    found-spared u (file_after_update before u) (update-sound before u s z) later g n.0 (omega (arith, n.1, update-entries before u)) t ∙ (update-rewrites before u s z).section
