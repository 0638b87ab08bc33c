-- `words::code::code_at` meets its contract: as many bytes are the same where their numbers are. Assumes nothing.
use Prim.Native.Nat.{ℕ, ◌<◌}
use mathlib.Core.Path.{◌≡◌, sym, ap₂, ◌∙◌}
use borrow.Author.Rules.{rules}
use lib.Dec.{eqb}
use lib.ListN.{length, get_or}
use Rattle.image.specs.Image.{part}
use Rattle.image.proofs.Part.{length_part}
use Rattle.words.specs.Word.{integer4, arranged, number, bits_at}
use Rattle.words.proofs.Codes.{same_number}
use Rattle.words.proofs.Number.{bytes-each, bytes-part}
use Rattle.words.proofs.StdBytes.{from-little}
use Rattle.words.proofs.code.code_at.Goals as goal

pub returns : goal.returns
unfolding arranged number bits_at
returns c =
    let a = c.args in
    let image = a.image.now in
    let four : length a.code ≡ 4 = search rules in
    let bytes : (i : ℕ) → get_or a.code i 0 < 256 = search rules in
    ap₂ eqb c.read.ensures (c.from_le_bytes.ensures ∙ from-little integer4 a.code four)
    ∙ same_number (part image a.at 4) a.code (bytes-part image a.at 4 (λ i. (c.type_inv.image i).fits)) (bytes-each a.code bytes) (length_part image a.at 4 c.requires ∙ sym four)
