-- Admitted numbers break no rule, so a file that holds them validates with them. Assumes nothing.
use Prim.Native.Nat.{ℕ, ◌+◌, ◌*◌, ◌/◌, ◌%◌, ◌^◌, ◌≤◌, ◌<◌}
use mathlib.Core.Path.{◌≡◌, ◌∙◌}
use mathlib.Core.Bool.{true}
use mathlib.Core.List.{List}
use native.Mathlib.Omega.{arith}
use borrow.Author.Rules.{rules}
use borrow.Author.Tests.{le-leb, eq-eqb}
use lib.ListN.{length}
use mir.Syntax.{w32}
use Rattle.words.specs.Word.{signed_of}
use Rattle.words.specs.Range.{within, at_least}
use Rattle.words.proofs.Ranges.{within-bounds, within-row, at_least-row}
use Rattle.geometry.specs.declared.units.RecordNumber.{RecordNumber}
use Rattle.geometry.specs.Units.{entries_before}
use Rattle.geometry.proofs.Capacities.{total-limit}
use Rattle.descriptor.specs.declared.numbers.DescriptorNumbers.{DescriptorNumbers}
use Rattle.descriptor.specs.declared.validating.Validated.TheVariants.{Numbers}
use Rattle.descriptor.specs.FirstRecord.{numbers_of, addresses_of, mex_of, growth_in, free_of}
use Rattle.descriptor.specs.Rules.{setting_refusal, filling_refusal, no_leftovers}
use Rattle.descriptor.specs.Bounds.{Admitted}
use Rattle.descriptor.specs.Answers.{validation_of}
use Rattle.descriptor.proofs.Fitting.{fit-reach}
use Rattle.descriptor.proofs.Passed.{limit-rows, setting-passed, place-behind}
use Rattle.descriptor.proofs.Answered.{file-rest, answer-numbers}

mex-reach : (reclen nex : ℕ) → nex ≤ 16 → 14 + 2 * nex ≤ reclen → (nex ≤ mex_of reclen) × (mex_of reclen < 2 ^ 31)
unfolding mex_of
mex-reach reclen nex h l = omega arith

-- the four settings that nothing else depends on
pub record Apt (d : DescriptorNumbers) : Type 0 where
  pub order : within 0 1 (signed_of w32 d.order.0) ≡ true
  pub kind : within 1 3 (signed_of w32 d.kind) ≡ true
  pub vind : at_least 2 (signed_of w32 d.vind) ≡ true
  pub flags : within 0 1 (signed_of w32 d.flags) ≡ true

module _ (bytes : ℕ) (d : DescriptorNumbers) (addresses : List RecordNumber) (a : Admitted bytes d addresses) where
  -- its next free position is small
  pub free-small : free_of d ≤ 2 ^ 28
  free-small = omega (arith, a.room, a.lent.high)

  -- and so is the number of the next entry
  pub xnext-small : d.xnext.0 < 2 ^ 63
  xnext-small =
      omega (
        arith,
        a.counted,
        a.settled.nex-high,
        fit-reach (growth_in d) (entries_before d.xnext) d.nex a.fit,
        total-limit (growth_in d) d.nex d.nex (omega arith) a.settled.within,
      )

  -- rules 2 to 8 hold, and rules 9 to 11
  pub setting-none : Apt d → setting_refusal bytes d ≡ 0
  unfolding setting_refusal
  setting-none t =
      let s = a.settled in
      let mex = mex-reach d.reclen d.nex s.nex-high s.nex-room in
      rw (
        t.order,
        within-row 16 4096 d.reclen (omega arith) s.reclen-low s.reclen-high,
        le-leb bytes (2 ^ 30) a.lent.high,
        eq-eqb (bytes % (4 * d.reclen)) 0 a.lent.whole,
        t.kind,
        t.vind,
        within-row 3 256 d.lind (omega arith) s.lind-low s.lind-high,
        t.flags,
        within-row 1 4096 d.lex1 (omega arith) s.lex1-low s.lex1-high,
        within-row 10 20 d.gex (omega arith) s.gex-low s.gex-high,
        within-row 0 (mex_of d.reclen) d.nex mex.1 (omega arith) mex.0,
        s.within,
      )

  -- and none of its filling
  pub filling-none : filling_refusal bytes d addresses ≡ 0
  unfolding filling_refusal
  filling-none =
      rw (
        at_least-row 1 d.xnext.0 a.counted xnext-small,
        a.fit,
        at_least-row 2 d.nextrec.0 a.free.record-low (omega (arith, a.free.record-high)),
        within-row 1 d.reclen d.nextword.0 (omega (arith, a.settled.reclen-high)) a.free.word_low a.free.word-high,
        le-leb (free_of d) (bytes / 4) a.room,
        a.started,
        a.ended,
      )

  -- the next free position stands behind the first record
  pub first-free : d.reclen ≤ free_of d
  first-free = place-behind d.reclen d.nextrec d.nextword a.free.record-low

-- the settings that rules 2, 5, 6 and 7 ask for, from a file that passed them
pub apt : (bytes : ℕ) (d : DescriptorNumbers) → setting_refusal bytes d ≡ 0 → Apt d
apt bytes d e = let a = limit-rows bytes d (setting-passed bytes d e).0 in search rules

-- the order is one of the two
pub order-known : (d : DescriptorNumbers) → Apt d → d.order.0 ≤ 1
order-known d t = (within-bounds w32 0 1 d.order.0 (omega arith) t.order).1

-- so validating gives them, where a file has them
pub validated : (file : List ℕ) (d : DescriptorNumbers) (addresses : List RecordNumber) → numbers_of file ≡ d → addresses_of file d.nex ≡ addresses
    → 64 ≤ length file → Apt d → Admitted (length file) d addresses → no_leftovers file d ≡ true
    → validation_of file ≡ record { refusal = 0; numbers = Numbers d; addresses = addresses }
validated file d addresses e f l t a clear =
    let none = rw (e, f, setting-none (length file) d addresses a t, filling-none (length file) d addresses a, clear) at (file-rest file (le-leb 64 (length file) l)) in
    answer-numbers file none ∙ rw (e, f)
