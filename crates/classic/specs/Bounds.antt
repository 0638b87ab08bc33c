-- What the functions of this crate ask of each other and promise each other: which numbers C has in 32 bits, and how a table is filled.
use Rattle.std.specs.Prelude.{ℕ, ◌≡◌, ◌^◌, ◌<◌, List, replicate}
use Rattle.words.specs.Table.{places}
use Rattle.entry.specs.Entered.{Entered}

-- the numbers of an entry that was entered
pub record Slim (x : Entered) : Type 0 where
  pub word : x.place.word.0 < 2 ^ 32
  pub nsec : x.nsec < 2 ^ 32

-- a table of 64 blanks, filled with the first values of any function that gives each value that is put
abbrev pub Fills : {A : Type 0} → ℕ → (ℕ → A → Type 0) → List A → List A → Type 0
Fills {A} count put old new =
    (f : ℕ → A) (blank : A) → old ≡ replicate 64 blank → ((i : ℕ) (x : A) → i < count → put i x → x ≡ f i) → new ≡ places 64 count f blank
