-- The writes of an append to a file, and how often a list of writes writes to a word of it (Q-6 of 02).
use Rattle.std.specs.Prelude.{ℕ, ◌+◌, Bool, cond, ◌&&◌, List, [], ◌∷◌, ltb, length}
use Rattle.image.specs.Writes.{Write, put}
use Rattle.geometry.specs.Units.{offset_of}
use Rattle.descriptor.specs.FirstRecord.{numbers_of, addresses_of}
use Rattle.storing.specs.Handed.{Handed}
use Rattle.storing.specs.AsMade.{append_writes}

-- the writes of an accepted append to a file, in the order in which they are made
abbrev pub writes_of : List ℕ → Handed → List Write
writes_of file h = append_writes (numbers_of file) (addresses_of file (numbers_of file).nex) h

-- a write of n bytes from offset at on reaches into the word at a position
abbrev pub reaches : ℕ → ℕ → ℕ → Bool
reaches word at n = ltb at (offset_of (word + 1)) && ltb (offset_of word) (at + n)

-- how many of the writes do
abbrev pub times_written : ℕ → List Write → ℕ
times_written word [] = 0
times_written word (put at ys ∷ ws) = cond (reaches word at (length ys)) 1 0 + times_written word ws
