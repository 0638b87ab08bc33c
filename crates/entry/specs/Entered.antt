-- What opening an entry of validated numbers finds.
use Rattle.std.specs.Prelude.{ℕ, ℤ}
use Rattle.geometry.specs.declared.units.Place.{Place}
use Rattle.pieces.specs.declared.contents.Piece.{Piece}
use Rattle.entry.specs.declared.entered.Entered.{Entered as Numbers}

-- the numbers of an entry with refusal 0, or a refusal with zeros
pub record Entered : Type 0 where
  pub refusal : ℕ
  pub place : Place
  pub start : ℕ
  pub version : ℤ
  pub nsec : ℕ
  pub nword : ℕ
  pub array : Piece

-- an entry that is given
abbrev pub given : Numbers → Entered
given x = record { refusal = 0; place = x.place; start = x.start; version = x.version; nsec = x.nsec; nword = x.nword; array = x.array }
