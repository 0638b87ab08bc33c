-- The code that a file begins with: it says in which order the bytes of the file's integers stand.
use Rattle.std.specs.Prelude.{ℕ, cond, List, [], ◌∷◌, eqb}
use Rattle.image.specs.Image.{part}
use Rattle.words.specs.declared.byte_order.ByteOrder.{ByteOrder}
use Rattle.words.specs.Code.{same_numbers}
use Rattle.geometry.specs.Units.{first_record_offset_of}
use Rattle.layout.specs.FirstRecordWords.{file_code_word}

-- the code of the little order: 32 41 20 20
abbrev pub little_code : List ℕ
little_code = 0x32 ∷ 0x41 ∷ 0x20 ∷ 0x20 ∷ []

-- the code of the big order: 32 42 20 20
abbrev pub big_code : List ℕ
big_code = 0x32 ∷ 0x42 ∷ 0x20 ∷ 0x20 ∷ []

-- the code of an order
unfoldable pub file_code : ByteOrder → List ℕ
file_code o = cond (eqb o.0 0) little_code big_code

-- the order that a code says: 0 for the little code, 1 for the big one; any other code says 2, which rule 2 refuses
unfoldable pub order_said : List ℕ → ByteOrder
order_said code = record { 0 = cond (same_numbers code little_code) 0 (cond (same_numbers code big_code) 1 2) }

-- a file's code, as four bytes
unfoldable pub file_code_of : List ℕ → List ℕ
file_code_of file = part file (first_record_offset_of file_code_word) 4

-- the order of a file's integers
abbrev pub byte_order_of : List ℕ → ByteOrder
byte_order_of file = order_said (file_code_of file)
