-- What the rules of an append leave once they are passed, as the steps of storing ask for it.
use Rattle.std.specs.Prelude.{ℕ, ◌+◌, ◌*◌, ◌-◌, ◌/◌, ◌%◌, ◌^◌, ◌≤◌, ◌<◌, ◌≡◌, true, List, ℤ, length}
use Rattle.geometry.specs.declared.units.RecordNumber.{RecordNumber}
use Rattle.layout.specs.FileCode.{byte_order_of}
use Rattle.layout.specs.EntryWords.{sections_max, descriptor_words}
use Rattle.descriptor.specs.declared.numbers.DescriptorNumbers.{DescriptorNumbers}
use Rattle.descriptor.specs.FirstRecord.{addresses_of}
use Rattle.descriptor.specs.Bounds.{Admitted}
use Rattle.placing.specs.declared.placement.Placement.{Placement}
use Rattle.placing.specs.Placing.{entry_start}
use Rattle.placing.specs.Placement.{placed_at}
use Rattle.placing.specs.Bounds.{Extensible}
use Rattle.pieces.specs.declared.head.Head.{Head}
use Rattle.storing.specs.Handed.{Handed, sum_of, positive, nword_in}
use Rattle.storing.specs.Writing.{head_of}

-- rules 21 and 22: what is handed in fits together
pub record Fitting (d : DescriptorNumbers) (h : Handed) : Type 0 where
  pub index : length h.index ≡ 4 * (d.lind - 3)
  pub few : length h.ids ≤ sections_max
  pub pairs : length h.lengths ≡ length h.ids
  pub counted : positive h.lengths (length h.lengths) ≡ true
  pub sections : length h.sections ≡ 4 * sum_of h.lengths
  pub whole : length h.values % 4 ≡ 0

-- all of them, with rule 24: an append that is accepted
pub record Accepted (bytes : ℕ) (d : DescriptorNumbers) (addresses : List RecordNumber) (h : Handed) : Type 0 where
  pub admitted : Admitted bytes d addresses
  pub fitting : Fitting d h
  pub extensible : Extensible d
  pub inside : entry_start d + nword_in h ≤ bytes / 4

-- an accepted append to a file at its place, with its head: all that storing asks for
pub record Storing (file : List ℕ) (d : DescriptorNumbers) (placed : Placement) (head : Head) (h : Handed) : Type 0 where
  pub order : d.order ≡ byte_order_of file
  pub accepted : Accepted (length file) d (addresses_of file d.nex) h
  pub stands : placed ≡ placed_at d
  pub headed : head ≡ head_of h d.xnext

-- a descriptor of sections that are counted has its words in the file
pub record Describing (bytes start : ℕ) (head : Head) (ids lengths : List ℤ) : Type 0 where
  pub low : start < 2 ^ 31
  pub few : length ids ≤ sections_max
  pub pairs : length lengths ≡ length ids
  pub nsec : head.nsec ≡ length ids
  pub counted : positive lengths (length lengths) ≡ true
  pub small : sum_of lengths < 2 ^ 62
  pub inside : 4 * (start + descriptor_words (length ids)) ≤ bytes
