-- What Q-7 of 02 asks of a first record, word by word.
use Rattle.std.specs.Prelude.{ℕ, ◌+◌, ◌*◌, ◌≤◌, ◌≡◌, List}
use Rattle.descriptor.specs.declared.numbers.DescriptorNumbers.{DescriptorNumbers}
use Rattle.descriptor.specs.FirstRecord.{field4}

-- every word of the first record after the addresses in use, words 15 + 2 × nex to reclen, is zero
abbrev pub RestZero : List ℕ → DescriptorNumbers → Type 0
RestZero file d = (w : ℕ) → 15 + 2 * d.nex ≤ w → w ≤ d.reclen → field4 file (record { 0 = w }) ≡ 0
