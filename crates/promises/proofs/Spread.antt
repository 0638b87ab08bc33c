-- That no two regions of admitted numbers share a word comes to two facts of the entries that open: each stands beside every index area, and beside every other. Assumes nothing.
use Prim.Native.Nat.{ℕ, ◌-◌, ◌≤◌, ◌<◌}
use mathlib.Core.Path.{◌≡◌, refl, sym, ap, subst₂}
use mathlib.Core.Logic.{◌⊎◌, inl, inr}
use mathlib.Core.List.{List}
use native.Mathlib.Omega.{arith}
use native.Mathlib.Nat.{mul-le-mul_right}
use lib.ListN.{length}
use Rattle.geometry.specs.declared.units.RecordNumber.{RecordNumber}
use Rattle.geometry.specs.declared.units.EntryNumber.{EntryNumber}
use Rattle.geometry.specs.Units.{position_of, entries_before}
use Rattle.descriptor.specs.declared.numbers.DescriptorNumbers.{DescriptorNumbers}
use Rattle.descriptor.specs.FirstRecord.{free_of}
use Rattle.descriptor.specs.Bounds.{Admitted}
use Rattle.entry.specs.Entered.{Entered}
use Rattle.entry.specs.Opening.{slot_position_of, place_stored, entry_refusal, entered_of, end_of}
use Rattle.entry.proofs.Entering.{entry-opens, entered-numbers}
use Rattle.descriptor.specs.Areas.{area_start_of, area_end_of}
use Rattle.written.proofs.Cases.{by_order}
use Rattle.descriptor.specs.Answers.{Validates}
use Rattle.written.proofs.ReadBack.{shows}
use Rattle.promises.specs.Regions.{first_record, area, entry, from_of, to_of, NoneShared, SoundIn, Sound}
use Rattle.promises.proofs.Areas.{area-behind, areas-order}

-- the words a to b and c to d: one run ends before the other starts
abbrev pub Clear : ℕ → ℕ → ℕ → ℕ → Type 0
Clear a b c d = (b ≤ c) ⊎ (d ≤ a)

swap : {a b c d : ℕ} → Clear a b c d → Clear c d a b
swap (inl l) = inr l
swap (inr l) = inl l

-- so do runs within them
pub clear_in : {a b c d a' b' c' d' : ℕ} → a' ≤ a → b ≤ b' → c' ≤ c → d ≤ d' → Clear a' b' c' d' → Clear a b c d
clear_in p q r s (inl l) = inl (omega arith)
clear_in p q r s (inr l) = inr (omega arith)

-- entry e of validated numbers
abbrev pub entry_at : List ℕ → DescriptorNumbers → List RecordNumber → ℕ → Entered
entry_at file d addresses e = entered_of file d addresses (record { 0 = e })

-- the entries stand beside the areas in use, and beside one another
pub record Spread (file : List ℕ) (d : DescriptorNumbers) (addresses : List RecordNumber) : Type 0 where
  pub areas : (e k : ℕ) → 1 ≤ e → e ≤ entries_before d.xnext → 1 ≤ k → k ≤ d.nex
      → Clear (entry_at file d addresses e).start (end_of (entry_at file d addresses e)) (area_start_of d addresses k) (area_end_of d addresses k)
  pub entries : (e f : ℕ) → 1 ≤ e → e < f → f ≤ entries_before d.xnext
      → Clear (entry_at file d addresses e).start (end_of (entry_at file d addresses e)) (entry_at file d addresses f).start (end_of (entry_at file d addresses f))

-- an entry that opens
module _ (file : List ℕ) (d : DescriptorNumbers) (addresses : List RecordNumber) (a : Admitted (length file) d addresses) (e : EntryNumber) (opens : entry_refusal file d addresses e ≡ 0) where
  -- stands behind the first record
  pub opened-behind : d.reclen ≤ (entered_of file d addresses e).start
  unfolding position_of
  opened-behind =
      let o = entry-opens file d addresses e a opens in
      let some : 1 ≤ (place_stored file (slot_position_of d addresses e)).«record».0 - 1 = omega (arith, o.record-low) in
      omega (arith, ap (λ (y : Entered). y.start) (entered-numbers file d addresses e opens), mul-le-mul_right d.reclen some)

  -- and ends before the next free position
  pub opened-free : end_of (entered_of file d addresses e) ≤ free_of d
  opened-free = omega (arith, ap end_of (entered-numbers file d addresses e opens), (entry-opens file d addresses e a opens).ends)

-- all entries of validated numbers open
abbrev pub AllOpen : List ℕ → DescriptorNumbers → List RecordNumber → Type 0
AllOpen file d addresses = (e : ℕ) → 1 ≤ e → e ≤ entries_before d.xnext → entry_refusal file d addresses (record { 0 = e }) ≡ 0

module _ {file : List ℕ} {d : DescriptorNumbers} {addresses : List RecordNumber} where
  -- where they stand so, no two regions share a word
  spread-apart : Admitted (length file) d addresses → AllOpen file d addresses → Spread file d addresses → NoneShared file d addresses
  unfolding from_of to_of
  spread-apart a o s first_record first_record p q n = absurd (n refl)
  spread-apart a o s first_record (area k) p q n = inl (area-behind (length file) d addresses a k q.0 q.1)
  spread-apart a o s first_record (entry e) p q n = inl (opened-behind file d addresses a (record { 0 = e }) (o e q.0 q.1))
  spread-apart a o s (area k) first_record p q n = inr (area-behind (length file) d addresses a k p.0 p.1)
  spread-apart a o s (area j) (area k) p q n =
      let order = areas-order (length file) d addresses a in
      by_order j k (λ e. absurd (n (ap area e))) (λ l. inl (order j k p.0 l q.1)) (λ l. inr (order k j q.0 l p.1))
  spread-apart a o s (area k) (entry e) p q n = swap (s.areas e k q.0 q.1 p.0 p.1)
  spread-apart a o s (entry e) first_record p q n = inr (opened-behind file d addresses a (record { 0 = e }) (o e p.0 p.1))
  spread-apart a o s (entry e) (area k) p q n = s.areas e k p.0 p.1 q.0 q.1
  spread-apart a o s (entry e) (entry f) p q n =
      by_order e f (λ m. absurd (n (ap entry m))) (λ l. s.entries e f p.0 l q.1) (λ l. swap (s.entries f e q.0 l p.1))

  -- and back
  pub apart-spread : NoneShared file d addresses → Spread file d addresses
  unfolding from_of to_of
  apart-spread n = record {
    areas = λ e k l h m o. n (entry e) (area k) (l, h) (m, o) (λ q. let z : ◌≡◌ {A = ℕ} 0 1 = cc in omega arith);
    entries = λ e f l h m. n (entry e) (entry f) (l, omega arith) (omega arith, m) (λ q. let same : e ≡ f = cc in omega arith);
  }

  -- a file that validates with such numbers is sound
  pub sound-shown : Validates file d addresses → AllOpen file d addresses → Spread file d addresses → Sound file
  sound-shown shown o s =
      let t = shows file d addresses shown in
      record { admitted = t.admitted; inside = subst₂ (SoundIn file) (sym t.numbers) (sym t.table) (record { opens = o; apart = spread-apart t.bounds o s }) }
