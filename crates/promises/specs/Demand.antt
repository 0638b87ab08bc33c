-- Demand 3: the files that it starts from, and what it promises after a series of calls.
use Rattle.std.specs.Prelude.{ℕ, ◌+◌, ◌≤◌, ◌<◌, ◌≡◌, ◌⊎◌, List, length, get_or}
use Rattle.descriptor.specs.declared.numbers.Settings.{Settings}
use Rattle.descriptor.specs.FirstRecord.{numbers_of, addresses_of}
use Rattle.order.specs.Order.{all_pass, check_of}
use Rattle.writer.specs.Creation.{creation_refusal, created_file}
use Rattle.promises.specs.Contents.{entries_of, opened_in, refused, reading_of, contents, entry_bytes, InPlace}
use Rattle.promises.specs.Calls.{Call, Answer, accepted, reading_after_all, words_after_all, contents_after_all, AllNumbered}
use Rattle.promises.specs.Regions.{NoneShared}

-- a file that an accepted creation made
pub record Created (file : List ℕ) : Type 0 where
  pub image : List ℕ
  pub settings : Settings
  pub given : creation_refusal (length image) settings ≡ 0
  pub made : file ≡ created_file image settings

-- or one that passes the order check
abbrev pub Start : List ℕ → Type 0
Start file = Created file ⊎ (check_of file ≡ all_pass)

-- what holds of the file after a series of calls with their answers
pub record Promised (calls : List Call) (given : List Answer) (before after : List ℕ) : Type 0 where
  -- going through the numbers gives the starting entries and then every accepted one, once, in order, each section as last updated, and else unchanged
  pub kept : contents after ≡ contents_after_all calls given (contents before)
  -- a starting entry reads as before, with the accepted updates of it
  pub reads : (e : ℕ) → 1 ≤ e → e ≤ entries_of before → reading_of after (record { 0 = e }) ≡ reading_after_all calls given e (reading_of before (record { 0 = e }))
  -- it opens as it did, and it, its sections and its slot stand where they stood
  pub stands : (e : ℕ) → 1 ≤ e → e ≤ entries_of before → InPlace before after (record { 0 = e })
  -- and all its words are as they were, but for the sections that accepted updates of it rewrote
  pub stays : (e : ℕ) → 1 ≤ e → e ≤ entries_of before → entry_bytes after (record { 0 = e }) ≡ words_after_all before calls given e (entry_bytes before (record { 0 = e }))
  -- the k-th accepted entry has number n + k, and reads as handed in, with the accepted updates of it
  pub found : (k : ℕ) → k < length (accepted calls given) → let e = entries_of before + k + 1 in
      reading_of after (record { 0 = e }) ≡ reading_after_all calls given e (get_or (accepted calls given) k (refused 0))
  -- which is what its append answered
  pub numbered : AllNumbered (entries_of before) calls given
  -- every entry opens
  pub opened : (e : ℕ) → 1 ≤ e → e ≤ entries_of after → (opened_in after (record { 0 = e })).refusal ≡ 0
  -- no two of the first record, the index areas and the entries share a word
  pub apart : NoneShared after (numbers_of after) (addresses_of after (numbers_of after).nex)
  -- and the order check passes
  pub ordered : check_of after ≡ all_pass
