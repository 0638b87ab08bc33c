-- A refusal is known by its number, and two answers that a contract admits are equal. Assumes nothing.
use mathlib.Core.Path.{◌≡◌, refl, sym, ap, ◌∙◌}
use native.Mathlib.Omega.{arith}
use Rattle.std.specs.Prelude.{ℕ, List, [], ◌∷◌, get_or, Result, Ok, Err}
use Rattle.outcome.specs.declared.refusal.Refusal.{Refusal}
use Rattle.outcome.specs.declared.refusal.Refusal.TheVariants.{LentShort, FileCode, Reclen, LentLength, Kind, IndexForm, Flags, Growth, EntryCount, NextFree, IndexArea, Number, EntryPlace, EntryCode, EntryLength, EntryXnum, DataPlace, SectionPlace, SharedWord, NoSection, AppendIndex, AppendParts, AppendGrowth, AppendRoom, Order, BatchCounts, OpenFile, UpdateContent, Leftovers}
use Rattle.outcome.specs.Refusal.{number_of, Refuses, Gives}

-- the refusals in the order of their numbers, from 0 on
listed : List Refusal
listed = LentShort ∷ LentShort ∷ FileCode ∷ Reclen ∷ LentLength ∷ Kind ∷ IndexForm ∷ Flags ∷ Growth ∷ EntryCount ∷ NextFree ∷ IndexArea ∷ Number ∷ EntryPlace ∷ EntryCode ∷ EntryLength ∷ EntryXnum ∷ DataPlace ∷ SectionPlace ∷ SharedWord ∷ NoSection ∷ AppendIndex ∷ AppendParts ∷ AppendGrowth ∷ AppendRoom ∷ Order ∷ BatchCounts ∷ OpenFile ∷ UpdateContent ∷ Leftovers ∷ []

-- the refusal that has a number of the list
named : ℕ → Refusal
named n = get_or listed n Leftovers

-- and that of a refusal's number is the refusal
named-number : (r : Refusal) → named (number_of r) ≡ r
unfolding named listed
named-number LentShort = refl
named-number FileCode = refl
named-number Reclen = refl
named-number LentLength = refl
named-number Kind = refl
named-number IndexForm = refl
named-number Flags = refl
named-number Growth = refl
named-number EntryCount = refl
named-number NextFree = refl
named-number IndexArea = refl
named-number Number = refl
named-number EntryPlace = refl
named-number EntryCode = refl
named-number EntryLength = refl
named-number EntryXnum = refl
named-number DataPlace = refl
named-number SectionPlace = refl
named-number SharedWord = refl
named-number NoSection = refl
named-number AppendIndex = refl
named-number AppendParts = refl
named-number AppendGrowth = refl
named-number AppendRoom = refl
named-number Order = refl
named-number BatchCounts = refl
named-number OpenFile = refl
named-number UpdateContent = refl
named-number Leftovers = refl

-- two refusals of one number are one refusal
pub same_number-same : {r s : Refusal} → number_of r ≡ number_of s → r ≡ s
same_number-same {r} {s} e = sym (named-number r) ∙ ap named e ∙ named-number s

-- no refusal has the number 0
pub number-positive : (r : Refusal) → number_of r ≡ 0 → ⊥
number-positive LentShort e = omega arith
number-positive FileCode e = omega arith
number-positive Reclen e = omega arith
number-positive LentLength e = omega arith
number-positive Kind e = omega arith
number-positive IndexForm e = omega arith
number-positive Flags e = omega arith
number-positive Growth e = omega arith
number-positive EntryCount e = omega arith
number-positive NextFree e = omega arith
number-positive IndexArea e = omega arith
number-positive Number e = omega arith
number-positive EntryPlace e = omega arith
number-positive EntryCode e = omega arith
number-positive EntryLength e = omega arith
number-positive EntryXnum e = omega arith
number-positive DataPlace e = omega arith
number-positive SectionPlace e = omega arith
number-positive SharedWord e = omega arith
number-positive NoSection e = omega arith
number-positive AppendIndex e = omega arith
number-positive AppendParts e = omega arith
number-positive AppendGrowth e = omega arith
number-positive AppendRoom e = omega arith
number-positive Order e = omega arith
number-positive BatchCounts e = omega arith
number-positive OpenFile e = omega arith
number-positive UpdateContent e = omega arith
number-positive Leftovers e = omega arith

-- two answers of a test that a contract admits
pub one-test : {n : ℕ} (p q : Result Unit Refusal) → Refuses n p → Refuses n q → p ≡ q
one-test (Ok x) (Ok y) e f = refl
one-test (Ok x) (Err s) e f = absurd (number-positive s (f ∙ sym e))
one-test (Err r) (Ok y) e f = absurd (number-positive r (e ∙ sym f))
one-test (Err r) (Err s) e f = ap Err (same_number-same (e ∙ sym f))

-- two answers that give or refuse a value
pub one-given : {A : Type 0} (n : ℕ) (value : A) (p q : Result A Refusal) → Gives n value p → Gives n value q → p ≡ q
one-given n value (Ok x) (Ok y) e f = ap Ok (e.1 ∙ sym f.1)
one-given n value (Ok x) (Err s) e f = absurd (number-positive s (f ∙ e.0))
one-given n value (Err r) (Ok y) e f = absurd (number-positive r (e ∙ f.0))
one-given n value (Err r) (Err s) e f = ap Err (same_number-same (e ∙ sym f))
