-- Tests on a signed value, for rules such as "16 to 4,096" and "2 or more".
use Rattle.std.specs.Prelude.{ℕ, Bool, ◌&&◌, ℤ, pos}
use Rattle.std.specs.Int.Signed.{le_z}

-- low to high
unfoldable pub within : ℕ → ℕ → ℤ → Bool
within low high z = le_z (pos low) z && le_z z (pos high)

-- low or more
unfoldable pub at_least : ℕ → ℤ → Bool
at_least low z = le_z (pos low) z
