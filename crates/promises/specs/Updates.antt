-- What is handed out after an accepted update of a section, and which calls behind it leave that section alone (Q-3 of 02).
use Rattle.std.specs.Prelude.{ℕ, ◌+◌, ◌≤◌, ◌≡◌, ◌⊎◌, List, [], ◌∷◌, ℤ}
use Rattle.image.specs.Image.{part}
use Rattle.geometry.specs.declared.units.EntryNumber.{EntryNumber}
use Rattle.descriptor.specs.Answers.{validation_of}
use Rattle.entry.specs.Answers.{open_of}
use Rattle.handing.specs.Parts.{bytes_of, index_words_of, data_words_of}
use Rattle.update.specs.Answers.{Update, space_of, padded, place_named}
use Rattle.promises.specs.Contents.{found, section_found}
use Rattle.promises.specs.Calls.{Call, append, batch, update, Answer, refusal_of}

-- an entry opens as it did, its version and its tables among the answer, and hands out the index words and the data that it did
pub record HandsOut (before after : List ℕ) (e : EntryNumber) : Type 0 where
  pub opened : open_of after e ≡ open_of before e
  pub index : bytes_of after (index_words_of after e) ≡ bytes_of before (index_words_of before e)
  pub values : bytes_of after (data_words_of after e) ≡ bytes_of before (data_words_of before e)

-- one section of one entry is rewritten, and nothing else
pub record OneRewritten (before after : List ℕ) (u : Update) : Type 0 where
  -- the section hands out the new content, and zeros in the rest of its space
  pub section : section_found after u.number u.identifier ≡ found (padded u.content (space_of (place_named before u)))
  -- every other section of the entry what it did
  pub others : (z : ℤ) → (z ≡ u.identifier → ⊥) → section_found after u.number z ≡ section_found before u.number z
  -- and so every section of every other entry
  pub elsewhere : (e : EntryNumber) → (e ≡ u.number → ⊥) → (z : ℤ) → section_found after e z ≡ section_found before e z
  -- every entry opens as it did, and hands out the index words and the data that it did
  pub entries : (e : EntryNumber) → HandsOut before after e
  -- the file validates as it did
  pub validated : validation_of after ≡ validation_of before
  -- and no byte that is not in the section's space has changed
  pub bytes : (at n : ℕ) → let p = place_named before u in (at + n ≤ p.start) ⊎ (p.start + space_of p ≤ at) → part after at n ≡ part before at n

-- ---- the last update of a section

-- a call with an answer is no accepted update of the section that u names
abbrev pub Spares : Update → Call → Answer → Type 0
Spares u (append h) a = Unit
Spares u (batch b) a = Unit
Spares u (update v) a = refusal_of a ≡ 0 → v.number.0 ≡ u.number.0 → v.identifier ≡ u.identifier → ⊥

-- nor is any of a series
abbrev pub AllSpare : Update → List Call → List Answer → Type 0
AllSpare u [] given = Unit
AllSpare u (c ∷ cs) [] = Unit
AllSpare u (c ∷ cs) (a ∷ given) = Spares u c a × AllSpare u cs given
