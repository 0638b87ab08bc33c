-- The rules of new content, all numbered 28, as one table in the order of 02, tested after every other.
use Rattle.std.specs.Prelude.{ℕ, ◌%◌, List, [], ◌∷◌, leb, eqb}
use Rattle.descriptor.specs.Refusal.{Rule, row, refusal_in}

-- content of so many bytes is not empty, is whole words, and is no larger than a space of so many
abbrev pub content_rules : ℕ → ℕ → List Rule
content_rules bytes space =
    row 28 (leb 1 bytes) ∷
    row 28 (eqb (bytes % 4) 0) ∷
    row 28 (leb bytes space) ∷
    []

-- the refusal by them, 0 where they hold
unfoldable pub content_refusal : ℕ → ℕ → ℕ
content_refusal bytes space = refusal_in (content_rules bytes space)
