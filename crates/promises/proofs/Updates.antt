-- What is handed out after an accepted update of a sound file (Q-3 of 02): one section is rewritten, and nothing else. Assumes nothing.
use Prim.Native.Nat.{ℕ}
use mathlib.Core.Path.{◌≡◌, refl, sym, ap, ◌∙◌}
use mathlib.Core.Bool.{false≢true}
use mathlib.Core.List.{List, [], ◌∷◌}
use lib.IntN.{ℤ}
use Rattle.outcome.proofs.Either.{either}
use Rattle.pieces.specs.Tables.{same_integer}
use Rattle.pieces.proofs.SectionTables.{same-other}
use Rattle.handing.specs.Parts.{section_part}
use Rattle.alike.proofs.Described.{section-place}
use Rattle.update.specs.Answers.{Update, update_of, file_after_update}
use Rattle.updated.proofs.Rewritten.{place-given, beside-stays, space-holds}
use Rattle.updated.proofs.EntryAfter.{update-validates}
use Rattle.promises.specs.Contents.{Section, Content, content_read, first_with}
use Rattle.promises.specs.Calls.{first_rewritten}
use Rattle.promises.specs.Regions.{Sound}
use Rattle.promises.specs.Updates.{OneRewritten}
use Rattle.promises.proofs.SectionFirst.{section-first}
use Rattle.promises.proofs.HandedAlike.{place-alike, hands-there, found-there, hands_none, found_none}
use Rattle.promises.proofs.UpdatedEntries.{shown-before, shown-after, own-described, by_number}
use Rattle.promises.proofs.UpdatedReadings.{open-before, open_after, hands-own, content-after}

-- the first section with another identifier is the one that it was
pub first-other : (z w : ℤ) (content : List ℕ) → (z ≡ w → ⊥) → (sections : List Section) → first_with z (first_rewritten w content sections) ≡ first_with z sections
first-other z w content o [] = refl
first-other z w content o (s ∷ sections) =
    either (same_integer s.identifier w)
    (λ q.
    let other = same-other s.identifier z (λ e. false≢true (sym (same-other z w o) ∙ ap (λ (x : ℤ). same_integer x w) (sym e) ∙ q)) in
    rw (q, other))
    (λ q. rw (q, first-other z w content o sections))

-- one section of one entry is rewritten, and nothing else
pub update-rewrites : (file : List ℕ) (u : Update) → Sound file → update_of file u ≡ 0 → OneRewritten file (file_after_update file u) u
update-rewrites file u s a =
    let after = file_after_update file u in
    let p = shown-before file u s a in
    let q = shown-after file u s a in
    let place = place-alike file after p q (λ f n l. section_part f n l u.number u.identifier) (section-place file after _ _ _ _ u.number (own-described file u s a) u.identifier) in
    record {
      section = rw (place, space-holds file u a, place-given file u a);
      others = λ z o.
          section-first (open_after file u s a) z
          ∙ ap (λ (c : Content). first_with z c.sections) (content-after file u s a)
          ∙ first-other z u.identifier u.content o (content_read file u.number).sections
          ∙ sym (section-first (open-before file u s a) z);
      elsewhere = λ e o z. by_number file u s a e (λ same. absurd (o (sym same))) (λ t. found-there p q t z) (λ r t. found_none r t z);
      entries = λ e. by_number file u s a e (λ same. rw (← same) (hands-own file u s a)) (hands-there p q) hands_none;
      validated = update-validates file u;
      bytes = beside-stays file u a;
    }
