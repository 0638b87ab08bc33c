-- A refusal by its number, and what a contract says of an answer that may be a refusal.
use Rattle.std.specs.Prelude.{ℕ, ◌≡◌, cond, Bool, Result, Ok, Err}
use Rattle.outcome.specs.declared.refusal.Refusal.{Refusal}
use Rattle.outcome.specs.declared.refusal.Refusal.TheVariants.{LentShort, FileCode, Reclen, LentLength, Kind, IndexForm, Flags, Growth, EntryCount, NextFree, IndexArea, Number, EntryPlace, EntryCode, EntryLength, EntryXnum, DataPlace, SectionPlace, SharedWord, NoSection, AppendIndex, AppendParts, AppendGrowth, AppendRoom, Order, BatchCounts, OpenFile, UpdateContent, Leftovers}

-- the numbers of the list
abbrev pub number_of : Refusal → ℕ
number_of LentShort = 1
number_of FileCode = 2
number_of Reclen = 3
number_of LentLength = 4
number_of Kind = 5
number_of IndexForm = 6
number_of Flags = 7
number_of Growth = 8
number_of EntryCount = 9
number_of NextFree = 10
number_of IndexArea = 11
number_of Number = 12
number_of EntryPlace = 13
number_of EntryCode = 14
number_of EntryLength = 15
number_of EntryXnum = 16
number_of DataPlace = 17
number_of SectionPlace = 18
number_of SharedWord = 19
number_of NoSection = 20
number_of AppendIndex = 21
number_of AppendParts = 22
number_of AppendGrowth = 23
number_of AppendRoom = 24
number_of Order = 25
number_of BatchCounts = 26
number_of OpenFile = 27
number_of UpdateContent = 28
number_of Leftovers = 29

-- the number of an answer: 0 for one that is given, and that of a refusal
abbrev pub refusal_in : {A : Type 0} → Result A Refusal → ℕ
refusal_in (Ok x) = 0
refusal_in (Err r) = number_of r

-- a test refuses by the number that a definition gives, and passes where it gives 0
abbrev pub Refuses : ℕ → Result Unit Refusal → Type 0
Refuses n answer = refusal_in answer ≡ n

-- a value is given, or refused: the value that a definition gives where its number is 0, else the refusal that has the number
abbrev pub Gives : {A : Type 0} → ℕ → A → Result A Refusal → Type 0
Gives n value (Ok x) = (n ≡ 0) × (x ≡ value)
Gives n value (Err r) = number_of r ≡ n

-- a row of a table of rules: 0 where the rule holds, else its number
abbrev pub row_refusal : ℕ → Bool → ℕ
row_refusal n holds = cond holds 0 n
