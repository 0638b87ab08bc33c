-- What the code of an update may assume of a place.
use Rattle.std.specs.Prelude.{ℕ, ◌%◌, ◌^◌, ◌≤◌, ◌<◌, ◌≡◌}
use Rattle.handing.specs.declared.place.PartPlace.{PartPlace}
use Rattle.update.specs.Answers.{space_of}

-- a place of whole words within so many bytes, at most those of a file
pub record Writable (bytes : ℕ) (p : PartPlace) : Type 0 where
  pub ordered : p.start ≤ p.end
  pub ends : p.end ≤ bytes
  pub whole : space_of p % 4 ≡ 0
  pub small : space_of p < 2 ^ 32
