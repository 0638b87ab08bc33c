-- An entry as C has it, from what was entered and its tables. Assumes nothing.
use Prim.Native.Nat.{ℕ}
use mathlib.Core.Path.{◌≡◌, refl, sym, ◌∙◌}
use mathlib.Core.List.{List}
use borrow.Author.Tests.{eq-eqb}
use lib.IntN.{pos}
use lib.ListN.{replicate}
use Rattle.words.specs.Table.{places}
use Rattle.geometry.specs.declared.units.EntryAddress.{EntryAddress}
use Rattle.pieces.specs.EntryDescriptor.{section_of}
use Rattle.pieces.specs.Tables.{section_identifiers, section_lengths, section_addresses, sections_of}
use Rattle.entry.specs.Entered.{Entered}
use Rattle.entry.specs.Answers.{opened_as}
use Rattle.classic.specs.Answers.{entry_addresses, entry_having, entry_for}
use Rattle.classic.proofs.Filled.{map-places}

-- the addresses of sections as numbers, place by place
pub addresses-numbers : (file : List ℕ) (start nsec : ℕ) → places 64 nsec (λ i. (section_of file start nsec i).address.0) 0 ≡ entry_addresses (section_addresses file start nsec)
unfolding entry_addresses section_addresses
addresses-numbers file start nsec = sym (map-places (λ (a : EntryAddress). a.0) 64 nsec (λ i. (section_of file start nsec i).address) (record { 0 = 0 }))

module _ (file : List ℕ) (x : Entered) (z : x.refusal ≡ 0) where
  -- what was entered with no refusal, with its tables, is the entry opened
  pub having-tables : entry_having x (section_identifiers file x.start x.nsec) (section_lengths file x.start x.nsec) (entry_addresses (section_addresses file x.start x.nsec))
      ≡ entry_for (opened_as file x)
  unfolding opened_as sections_of
  having-tables = rw (eq-eqb x.refusal 0 z) refl

  -- without sections, the tables are empty
  pub having-none : x.nsec ≡ 0 → entry_having x (replicate 64 (pos 0)) (replicate 64 0) (replicate 64 0) ≡ entry_for (opened_as file x)
  unfolding section_identifiers section_lengths section_addresses entry_addresses
  having-none e =
      (λ i. entry_having x (empty-ids i) (empty-lengths i) (empty-addresses i)) ∙ having-tables
    where
      empty-ids : replicate 64 (pos 0) ≡ section_identifiers file x.start x.nsec
      empty-ids = rw e refl

      empty-lengths : replicate 64 0 ≡ section_lengths file x.start x.nsec
      empty-lengths = rw e refl

      empty-addresses : replicate 64 0 ≡ entry_addresses (section_addresses file x.start x.nsec)
      empty-addresses = rw e refl
