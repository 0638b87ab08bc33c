-- What a listing is made of: texts and decimal numbers as bytes of ASCII, and pieces set end to end.
use Rattle.std.specs.Prelude.{ℕ, zero, suc, ◌+◌, ◌/◌, ◌%◌, cond, List, [], ◌∷◌, ◌++◌, ltb}
use Prim.Native.Char.{code}
use Prim.Native.String.{String, [] as none, ◌∷◌ as ◌then◌}

-- a text: the codes of its characters, which here are all of ASCII
abbrev pub text : String → List ℕ
text none = []
text (c then s) = code c ∷ text s

-- the space between two fields
abbrev pub space : ℕ
space = 32

-- the newline that ends a line
abbrev pub newline : ℕ
newline = 10

-- the decimal digits of a number that has k of them at most, with no zeros in front
unfoldable pub decimal_in : ℕ → ℕ → List ℕ
decimal_in zero n = []
decimal_in (suc k) n = cond (ltb n 10) ((48 + n) ∷ []) (decimal_in k (n / 10) ++ ((48 + n % 10) ∷ []))

-- those of any number of 64 bits: none has more than 20
unfoldable pub decimal_of : ℕ → List ℕ
decimal_of n = decimal_in 20 n

-- a field of a line: a number, and the space or the newline after it
unfoldable pub field_of : ℕ → ℕ → List ℕ
field_of n end = decimal_of n ++ (end ∷ [])

-- pieces end to end
abbrev pub joined : List (List ℕ) → List ℕ
joined [] = []
joined (x ∷ xs) = x ++ joined xs
