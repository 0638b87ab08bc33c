-- How the code takes the entries of a batch, one after the other, from what is laid end to end.
use Rattle.std.specs.Prelude.{ℕ, ◌-◌, ◌≤◌, ◌&&◌, Bool, List, ℤ, Result, length, take, drop, eqb}
use Rattle.outcome.specs.declared.refusal.Refusal.{Refusal}
use Rattle.outcome.specs.Outcome.{Leaves}
use Rattle.outcome.specs.Refusal.{Gives}
use Rattle.descriptor.specs.declared.numbers.DescriptorNumbers.{DescriptorNumbers}
use Rattle.descriptor.specs.FirstRecord.{numbers_of, addresses_of}
use Rattle.storing.specs.Handed.{Handed, handed_in}
use Rattle.writer.specs.Rules.{append_refusal}
use Rattle.writer.specs.Answers.{file_from}
use Rattle.batch.specs.declared.counts.Counts.{Counts}
use Rattle.batch.specs.Batch.{Laid, count_in, index_bytes, id_count, length_count, section_bytes, data_bytes, together, laid_in}

-- how much an entry takes, by its row
abbrev pub counts_of : List ℕ → Counts
counts_of row = record {
  index = count_in row index_bytes;
  ids = count_in row id_count;
  lengths = count_in row length_count;
  sections = count_in row section_bytes;
  values = count_in row data_bytes;
}

-- how much is laid
abbrev pub counts_laid : Laid → Counts
counts_laid x = record { index = length x.index; ids = length x.ids; lengths = length x.lengths; sections = length x.sections; values = length x.values }

-- no more of any is taken than there is
pub record Within (taken there : Counts) : Type 0 where
  pub index : taken.index ≤ there.index
  pub ids : taken.ids ≤ there.ids
  pub lengths : taken.lengths ≤ there.lengths
  pub sections : taken.sections ≤ there.sections
  pub values : taken.values ≤ there.values

-- what is left once it is taken
abbrev pub less : Counts → Counts → Counts
less there taken = record {
  index = there.index - taken.index;
  ids = there.ids - taken.ids;
  lengths = there.lengths - taken.lengths;
  sections = there.sections - taken.sections;
  values = there.values - taken.values;
}

-- the entry that takes so much
abbrev pub entry_taken : ℤ → Counts → Laid → Handed
entry_taken version c x = handed_in version (take c.index x.index) (take c.ids x.ids) (take c.lengths x.lengths) (take c.sections x.sections) (take c.values x.values)

-- what it leaves of what is laid
abbrev pub left_behind : Counts → Laid → Laid
left_behind c x = laid_in (drop c.index x.index) (drop c.ids x.ids) (drop c.lengths x.lengths) (drop c.sections x.sections) (drop c.values x.values)

-- the rows use up each of what is laid
abbrev pub used_up : List (List ℕ) → Laid → Bool
used_up rows x =
    eqb (together index_bytes rows) (length x.index) &&
    (eqb (together id_count rows) (length x.ids) &&
    (eqb (together length_count rows) (length x.lengths) &&
    (eqb (together section_bytes rows) (length x.sections) &&
    eqb (together data_bytes rows) (length x.values))))

-- what `append_next` promises: the numbers of the file after the append, or the refusal, and that file
abbrev pub AppendsNext : List ℕ → DescriptorNumbers → Handed → Result DescriptorNumbers Refusal → List ℕ → Type 0
AppendsNext file d h outcome after = Gives (append_refusal (length file) d h) (numbers_of after) outcome × Leaves (file_from file d (addresses_of file d.nex) h) after
