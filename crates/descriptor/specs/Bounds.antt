-- What the rules leave once they are passed, as the functions behind them ask for it.
use Rattle.std.specs.Prelude.{ℕ, ◌+◌, ◌*◌, ◌-◌, ◌/◌, ◌%◌, ◌^◌, ◌≤◌, ◌<◌, ◌≡◌, true, false, List, length}
use Rattle.geometry.specs.declared.units.RecordNumber.{RecordNumber}
use Rattle.geometry.specs.Units.{entries_before}
use Rattle.geometry.specs.Growth.{total_of, over_of}
use Rattle.geometry.specs.Totals.{totals_of}
use Rattle.layout.specs.FileCode.{byte_order_of}
use Rattle.descriptor.specs.declared.numbers.DescriptorNumbers.{DescriptorNumbers}
use Rattle.descriptor.specs.FirstRecord.{growth_in, free_of}
use Rattle.descriptor.specs.Areas.{areas_start, areas_end}
use Rattle.descriptor.specs.Rules.{entries_fit}

-- rules 3 to 8 but for the capacities: the settings and nex are within their limits
pub record Limited (d : DescriptorNumbers) : Type 0 where
  pub reclen-low : 16 ≤ d.reclen
  pub reclen-high : d.reclen ≤ 4096
  pub lind-low : 3 ≤ d.lind
  pub lind-high : d.lind ≤ 256
  pub lex1-low : 1 ≤ d.lex1
  pub lex1-high : d.lex1 ≤ 4096
  pub gex-low : 10 ≤ d.gex
  pub gex-high : d.gex ≤ 20
  pub nex-high : d.nex ≤ 16
  pub nex-room : 14 + 2 * d.nex ≤ d.reclen

-- rules 3 to 8: so they are, and so is each capacity
pub record Settled (d : DescriptorNumbers) : Type 0 where
  pub reclen-low : 16 ≤ d.reclen
  pub reclen-high : d.reclen ≤ 4096
  pub lind-low : 3 ≤ d.lind
  pub lind-high : d.lind ≤ 256
  pub lex1-low : 1 ≤ d.lex1
  pub lex1-high : d.lex1 ≤ 4096
  pub gex-low : 10 ≤ d.gex
  pub gex-high : d.gex ≤ 20
  pub nex-high : d.nex ≤ 16
  pub nex-room : 14 + 2 * d.nex ≤ d.reclen
  pub within : over_of (growth_in d) d.nex ≡ false

-- the order, and the numbers of an Integer*4, have 32 bits
pub record Narrow (d : DescriptorNumbers) : Type 0 where
  pub order : d.order.0 < 2 ^ 32
  pub reclen : d.reclen < 2 ^ 32
  pub kind : d.kind < 2 ^ 32
  pub vind : d.vind < 2 ^ 32
  pub lind : d.lind < 2 ^ 32
  pub flags : d.flags < 2 ^ 32
  pub nextword : d.nextword.0 < 2 ^ 32
  pub lex1 : d.lex1 < 2 ^ 32
  pub nex : d.nex < 2 ^ 32
  pub gex : d.gex < 2 ^ 32

-- rules 1 and 4: the bytes lent are whole records, one at least
pub record Lent (bytes : ℕ) (d : DescriptorNumbers) : Type 0 where
  pub high : bytes ≤ 2 ^ 30
  pub whole : bytes % (4 * d.reclen) ≡ 0
  pub first : 4 * d.reclen ≤ bytes

-- rule 10: the next free record and word
pub record Free (d : DescriptorNumbers) : Type 0 where
  pub record-low : 2 ≤ d.nextrec.0
  pub record-high : d.nextrec.0 ≤ 2 ^ 32
  pub word_low : 1 ≤ d.nextword.0
  pub word-high : d.nextword.0 ≤ d.reclen

-- all of them: what `validate` shows of the numbers and addresses of a file of so many bytes
pub record Admitted (bytes : ℕ) (d : DescriptorNumbers) (addresses : List RecordNumber) : Type 0 where
  pub settled : Settled d
  pub lent : Lent bytes d
  pub counted : 1 ≤ d.xnext.0
  pub fit : entries_fit (growth_in d) d.nex (entries_before d.xnext) ≡ true
  pub free : Free d
  pub room : free_of d ≤ bytes / 4
  pub started : areas_start d addresses d.nex ≡ true
  pub ended : areas_end d addresses ≡ true
  pub table : length addresses ≡ 16

-- what the extensions in use hold together, without the last and with it
pub record Holding (d : DescriptorNumbers) (before total : ℕ) : Type 0 where
  pub without : before ≡ total_of (growth_in d) (d.nex - 1)
  pub with : total ≡ total_of (growth_in d) d.nex

-- a table has the totals of the extensions in use
abbrev pub TotalsOf : DescriptorNumbers → List ℕ → Type 0
TotalsOf d totals = totals ≡ totals_of (growth_in d) d.nex

-- and of a file that holds them: its code says their order
pub record AdmittedIn (file : List ℕ) (d : DescriptorNumbers) (addresses : List RecordNumber) : Type 0 where
  pub admitted : Admitted (length file) d addresses
  pub order : d.order ≡ byte_order_of file
