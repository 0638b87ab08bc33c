-- What an update of a section answers, and what it leaves in the file.
use Rattle.std.specs.Prelude.{ℕ, ◌-◌, cond, List, ◌++◌, eqb, ℤ, length}
use Rattle.outcome.specs.Outcome.{AnswersAndLeaves}
use Rattle.image.specs.Image.{splice, zeros}
use Rattle.geometry.specs.declared.units.EntryNumber.{EntryNumber}
use Rattle.handing.specs.declared.place.PartPlace.{PartPlace}
use Rattle.handing.specs.Parts.{section_words_of}
use Rattle.update.specs.Rules.{content_refusal}

-- an update, as it is handed in: the number of an entry, the identifier of a section, and its new content
pub record Update : Type 0 where
  pub number : EntryNumber
  pub identifier : ℤ
  pub content : List ℕ

-- as the arguments of `update_section`
abbrev pub update_in : EntryNumber → ℤ → List ℕ → Update
update_in number identifier content = record { number = number; identifier = identifier; content = content }

-- ---- a section at its place

-- the bytes of its space, which are as many as its length field says
abbrev pub space_of : PartPlace → ℕ
space_of p = p.end - p.start

-- what a space holds after an update: the new content, and zeros in the rest
abbrev pub padded : List ℕ → ℕ → List ℕ
padded content space = content ++ zeros (space - length content)

-- the refusal: that of the place, then 28
unfoldable pub update_at : PartPlace → List ℕ → ℕ
update_at p content = cond (eqb p.refusal 0) (content_refusal (length content) (space_of p)) p.refusal

-- the file after it: the space is rewritten. A refused update changes nothing
unfoldable pub file_at : List ℕ → PartPlace → List ℕ → List ℕ
file_at file p content = cond (eqb (update_at p content) 0) (splice file p.start (padded content (space_of p))) file

-- ---- a section by its identifier

-- the place of the section that an update names: the first with the identifier, as `section` hands it out
abbrev pub place_named : List ℕ → Update → PartPlace
place_named file u = section_words_of file u.number u.identifier

-- what an update answers
abbrev pub update_of : List ℕ → Update → ℕ
update_of file u = update_at (place_named file u) u.content

-- and the file that it leaves
abbrev pub file_after_update : List ℕ → Update → List ℕ
file_after_update file u = file_at file (place_named file u) u.content

-- ---- what the functions promise

-- what `update_at` promises: the refusal, and the file after it
abbrev pub UpdatesAt : List ℕ → PartPlace → List ℕ → ℕ → List ℕ → Type 0
UpdatesAt file p content answer after = AnswersAndLeaves (update_at p content) (file_at file p content) answer after

-- and `update_section`
abbrev pub Updates : List ℕ → Update → ℕ → List ℕ → Type 0
Updates file u answer after = AnswersAndLeaves (update_of file u) (file_after_update file u) answer after
