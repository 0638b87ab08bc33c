-- What rules 23 and 24 leave once they are passed, as the functions behind them ask for it.
use Rattle.std.specs.Prelude.{ℕ, ◌+◌, ◌/◌, ◌≤◌, ◌<◌, ◌≡◌, true}
use Rattle.geometry.specs.Growth.{capacity_of}
use Rattle.descriptor.specs.declared.numbers.DescriptorNumbers.{DescriptorNumbers}
use Rattle.descriptor.specs.FirstRecord.{mex_of, growth_in}
use Rattle.placing.specs.Placing.{full, entry_start}

-- rule 23: where the extensions in use are full, another may be made
pub record Extensible (d : DescriptorNumbers) : Type 0 where
  pub room : full d ≡ true → d.nex < mex_of d.reclen
  pub within : full d ≡ true → capacity_of (growth_in d) (d.nex + 1) ≤ 16384

-- and rule 24: the entry ends within the buffer
pub record Placed (bytes : ℕ) (d : DescriptorNumbers) (nword : ℕ) : Type 0 where
  pub extensible : Extensible d
  pub inside : entry_start d + nword ≤ bytes / 4
