-- The whole table of tests of each call, in the order of 01's refusal numbers; what it is to answer by a table; and what a check answers.
use Rattle.std.specs.Prelude.{ℕ, ◌≤◌, ◌<◌, ◌≡◌, List, [], ◌∷◌, ◌++◌, leb, ltb, ℤ, length}
use Rattle.geometry.specs.declared.units.EntryNumber.{EntryNumber}
use Rattle.geometry.specs.declared.units.ExtensionNumber.{ExtensionNumber}
use Rattle.descriptor.specs.declared.numbers.Settings.{Settings}
use Rattle.descriptor.specs.FirstRecord.{numbers_of, addresses_of, created_of}
use Rattle.descriptor.specs.Refusal.{Rule, row, Given, AllHold}
use Rattle.descriptor.specs.Rules.{file_rules, creation_rules}
use Rattle.pieces.specs.Tables.{section_named}
use Rattle.entry.specs.Opening.{place_stored, slot_position_of, entry_rules, entered_of}
use Rattle.order.specs.declared.answers.Checked.{Checked}
use Rattle.order.specs.Order.{order_rules, all_pass}
use Rattle.storing.specs.Handed.{Handed}
use Rattle.writer.specs.Rules.{append_rules}
use Rattle.writer.specs.Answers.{file_after}
use Rattle.batch.specs.Batch.{Batch, entries_in}
use Rattle.batch.specs.Rules.{batch_rules}
use Rattle.update.specs.Rules.{content_rules}
use Rattle.update.specs.Answers.{Update, space_of, place_named}
use Rattle.held.specs.declared.answers.OpenFile.{OpenFile}
use Rattle.held.specs.Rules.{held_rules}

-- ---- the tables

-- every call but creation, a batch and those through a record tests 1 to 11 and 29 first; validating tests no more
abbrev pub validate_tests : List ℕ → List Rule
validate_tests file = file_rules file (numbers_of file) (addresses_of file (numbers_of file).nex)

-- creation tests 1 to 8 on its settings, with nex 0
abbrev pub create_tests : ℕ → Settings → List Rule
create_tests bytes settings = creation_rules bytes (created_of settings)

-- 12 for an extension: number 0 or above nex
abbrev pub extension_rows : List ℕ → ExtensionNumber → List Rule
extension_rows file k = row 12 (leb 1 k.0) ∷ row 12 (leb k.0 (numbers_of file).nex) ∷ []

-- 12 to 19 for the entry whose index stands in the slot of number e
abbrev pub entry_rows : List ℕ → EntryNumber → List Rule
entry_rows file e =
    let d = numbers_of file in
    entry_rules file d e (place_stored file (slot_position_of d (addresses_of file d.nex) e))

-- 20: no section with the identifier. What section_named finds is said by `named` of entry, in proofs/SectionTables.antt
abbrev pub section_rows : List ℕ → EntryNumber → ℤ → List Rule
section_rows file e identifier =
    let x = entered_of file (numbers_of file) (addresses_of file (numbers_of file).nex) e in
    row 20 (ltb (section_named file x.start identifier 0 x.nsec) x.nsec) ∷ []

-- 25 for entry e
abbrev pub order_rows : List ℕ → EntryNumber → List Rule
order_rows file e = order_rules file (numbers_of file) (addresses_of file (numbers_of file).nex) e

-- an extension adds 12 only
abbrev pub extension_tests : List ℕ → ExtensionNumber → List Rule
extension_tests file k = validate_tests file ++ extension_rows file k

-- opening adds 12 to 19, and so do the calls for index words and for data
abbrev pub open_tests : List ℕ → EntryNumber → List Rule
open_tests file e = validate_tests file ++ entry_rows file e

-- a section adds 20 after them
abbrev pub section_tests : List ℕ → EntryNumber → ℤ → List Rule
section_tests file e identifier = open_tests file e ++ section_rows file e identifier

-- an update of that section adds 28
abbrev pub update_tests : List ℕ → Update → List Rule
update_tests file u = section_tests file u.number u.identifier ++ content_rules (length u.content) (space_of (place_named file u))

-- append adds 21 to 24
abbrev pub append_tests : List ℕ → Handed → List Rule
append_tests file h = validate_tests file ++ append_rules (length file) (numbers_of file) h

-- appends in turn test as each does, on the file that the one before it left
abbrev pub in_turn_tests : List ℕ → List Handed → List Rule
in_turn_tests file [] = []
in_turn_tests file (h ∷ hs) = append_tests file h ++ in_turn_tests (file_after file h) hs

-- a batch tests 26 before them
abbrev pub batch_tests : List ℕ → Batch → List Rule
batch_tests file b = batch_rules b ++ in_turn_tests file (entries_in b)

-- through a record: an append tests 27, and then 21 to 24 on the numbers of the file
abbrev pub append_to_tests : List ℕ → OpenFile → Handed → List Rule
append_to_tests file held h = held_rules file held ++ append_rules (length file) (numbers_of file) h

-- appends in turn to a file that is admitted test 21 to 24 for each, on the numbers of the file that the one before it left
abbrev pub turn_rows : List ℕ → List Handed → List Rule
turn_rows file [] = []
turn_rows file (h ∷ hs) = append_rules (length file) (numbers_of file) h ++ turn_rows (file_after file h) hs

-- a batch tests 26, and then 27, before them
abbrev pub batch_to_tests : List ℕ → OpenFile → Batch → List Rule
batch_to_tests file held b = batch_rules b ++ held_rules file held ++ turn_rows file (entries_in b)

-- an update tests 27, and then 12 to 20 and 28
abbrev pub update_to_tests : List ℕ → OpenFile → Update → List Rule
update_to_tests file held u =
    held_rules file held ++ entry_rows file u.number ++ section_rows file u.number u.identifier ++ content_rules (length u.content) (space_of (place_named file u))

-- the order check opens entry e, and adds 25
abbrev pub order_tests : List ℕ → EntryNumber → List Rule
order_tests file e = open_tests file e ++ order_rows file e

-- ---- what a number says

-- k is given exactly when a row numbered k is broken and every row before it holds; 0 exactly when all hold
pub record Exactly (n : ℕ) (rules : List Rule) : Type 0 where
  pub given : (k : ℕ) → 0 < k → n ≡ k → Given k rules
  pub is : (k : ℕ) → Given k rules → n ≡ k
  pub none : n ≡ 0 → AllHold rules
  pub accepted : AllHold rules → n ≡ 0

-- ---- what a check says

-- the answer of a check: an entry and a number
abbrev pub reported : ℕ → ℕ → Checked
reported e k = record { entry = record { 0 = e }; refusal = k }

-- entries 1 to k - 1 pass every test
abbrev pub PassBelow : List ℕ → ℕ → Type 0
PassBelow file k = (e : ℕ) → 1 ≤ e → e < k → AllHold (order_tests file (record { 0 = e }))

-- the descriptor is admitted, and none of the entries 1 to xnext - 1 fails
pub record NoneFails (file : List ℕ) : Type 0 where
  pub admitted : AllHold (validate_tests file)
  pub entries : PassBelow file (numbers_of file).xnext.0

-- the descriptor is admitted, and e is the first entry that fails, with refusal k
pub record FirstToFail (file : List ℕ) (e k : ℕ) : Type 0 where
  pub admitted : AllHold (validate_tests file)
  pub counted : 1 ≤ e
  pub used : e < (numbers_of file).xnext.0
  pub before : PassBelow file e
  pub broken : Given k (order_tests file (record { 0 = e }))

-- a check gives entry 0 and the number of a refused descriptor, the first entry that fails and its refusal, or 0 and 0, each exactly then
pub record ChecksExactly (file : List ℕ) (answer : Checked) : Type 0 where
  pub refused : (k : ℕ) → 0 < k → answer ≡ reported 0 k → Given k (validate_tests file)
  pub refuses : (k : ℕ) → Given k (validate_tests file) → answer ≡ reported 0 k
  pub failing : (e k : ℕ) → 1 ≤ e → answer ≡ reported e k → FirstToFail file e k
  pub fails : (e k : ℕ) → FirstToFail file e k → answer ≡ reported e k
  pub passed : answer ≡ all_pass → NoneFails file
  pub passes : NoneFails file → answer ≡ all_pass
