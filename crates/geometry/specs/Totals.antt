-- The running totals of the capacities, as a table.
use Rattle.std.specs.Prelude.{ℕ, zero, suc, ◌+◌, List, get_or}
use Rattle.words.specs.Table.{places}
use Rattle.geometry.specs.declared.growth.Growth.{Growth}
use Rattle.geometry.specs.Growth.{total_of}

-- the running totals: place k, counted from 1, holds the first k capacities together. 16 places, those past nex zero
unfoldable pub totals_of : Growth → ℕ → List ℕ
totals_of g nex = places 16 nex (λ i. total_of g (i + 1)) 0

-- what a table of totals says of the extensions before extension k together: 0 before the first
unfoldable pub total_before : List ℕ → ℕ → ℕ
total_before totals zero = 0
total_before totals (suc zero) = 0
total_before totals (suc (suc k)) = get_or totals k 0
