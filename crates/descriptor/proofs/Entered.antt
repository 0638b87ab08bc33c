-- What each test of a file leads to, with the numbers that were read from it: the refusal that the table of rules gives, and the totals that are left. Assumes nothing.
use Prim.Native.Nat.{ℕ, ◌+◌, ◌*◌, ◌/◌, ◌^◌, ◌≤◌, ◌<◌}
use mathlib.Core.Path.{◌≡◌, refl, sym, ap, ◌∙◌}
use mathlib.Core.Bool.{Bool, true, false, cond, ◌&&◌}
use mathlib.Core.List.{List}
use native.Mathlib.Omega.{arith}
use borrow.Author.Tests.{leb-true, ne_eqb}
use lib.Dec.{leb, eqb}
use lib.ListN.{length, replicate}
use Rattle.std.specs.Prelude.{Option}
use Rattle.geometry.specs.declared.units.RecordNumber.{RecordNumber}
use Rattle.geometry.specs.Growth.{over_of}
use Rattle.geometry.specs.Totals.{totals_of}
use Rattle.layout.specs.FileCode.{byte_order_of}
use Rattle.descriptor.specs.declared.numbers.DescriptorNumbers.{DescriptorNumbers}
use Rattle.descriptor.specs.FirstRecord.{numbers_of, addresses_of, growth_in, free_of}
use Rattle.descriptor.specs.Areas.{areas_start, areas_end}
use Rattle.descriptor.specs.Rules.{count_rules, limit_refusal, setting_refusal, count_refusal, file_refusal, no_leftovers}
use Rattle.descriptor.specs.Walking.{ordered_after, areas_hold, walked_totals, totals_in}
use Rattle.descriptor.specs.Bounds.{Limited, Settled, Lent, Free}
use Rattle.descriptor.proofs.Refusals.{all_hold}
use Rattle.descriptor.proofs.Passed.{limited, lent, settled, setting-parts, place-bounds}
use Rattle.descriptor.proofs.Answered.{settings-refused, filling-refused, leftovers-refused, filling-parts, totals-settled, totals-unsettled, file-order, file-short}
use Rattle.descriptor.proofs.AreaOrder.{hold-is}
use Rattle.descriptor.proofs.Walks.{walked-totals}

module _ (file : List ℕ) where
  -- too short
  pub short-refused : leb 64 (length file) ≡ false → (1 ≡ file_refusal file) × (replicate 16 0 ≡ totals_in file)
  short-refused e = (sym (file-short file e), sym (totals-unsettled file false e refl))

  module _ (d : DescriptorNumbers) (read : d ≡ numbers_of file) (enough : leb 64 (length file) ≡ true) where
    some : 64 ≤ length file
    some = leb-true 64 (length file) enough

    -- refused by its limits
    pub limit-refused : (r : ℕ) → 1 ≤ r → r ≡ limit_refusal (length file) d → (r ≡ file_refusal file) × (replicate 16 0 ≡ totals_in file)
    limit-refused r low e =
        let q : limit_refusal (length file) (numbers_of file) ≡ r = sym (rw read at e) in
        let other : eqb r 0 ≡ false = ne_eqb r 0 (λ (z : r ≡ 0). omega arith) in
        let p = settings-refused file enough r (setting-parts (length file) (numbers_of file) ∙ rw (q, other)) other in
        (sym p.0, sym p.1)

    module _ (limit : 0 ≡ limit_refusal (length file) d) where
      kept : limit_refusal (length file) (numbers_of file) ≡ 0
      kept = sym (rw read at limit)

      -- fit for the walk
      pub walkable : Limited d × (d.order ≡ byte_order_of file) × (4 * (14 + 2 * d.nex) ≤ length file)
      walkable =
          let l = limited (length file) d (sym limit) in
          let w = lent (length file) d (sym limit) some in
          (l, ap (λ (x : DescriptorNumbers). x.order) read ∙ file-order file, omega (arith, l.nex-room, w.first))

      -- refused by a capacity
      pub over-refused : over_of (growth_in d) d.nex ≡ true → (8 ≡ file_refusal file) × (walked_totals d ≡ totals_in file)
      over-refused over =
          let p = settings-refused file enough 8 (setting-parts (length file) (numbers_of file) ∙ rw (kept, rw read at over)) refl in
          (sym p.0, walked-totals d true over ∙ sym p.1)

      module _ (within : over_of (growth_in d) d.nex ≡ false) where
        none : setting_refusal (length file) (numbers_of file) ≡ 0
        none = setting-parts (length file) (numbers_of file) ∙ rw (kept, rw read at within)

        -- the totals that are left
        pub left : walked_totals d ≡ totals_in file
        left = walked-totals d false within ∙ ap (λ (x : DescriptorNumbers). totals_of (growth_in x) x.nex) read ∙ sym (totals-settled file enough none)

        -- fit for the counts
        pub countable : Settled d × Lent (length file) d
        countable = rw read (settled (length file) (numbers_of file) none, lent (length file) (numbers_of file) kept some)

        -- refused by its counts
        pub count-refused : (r : ℕ) → 1 ≤ r → r ≡ count_refusal (length file) d → r ≡ file_refusal file
        count-refused r low e =
            let q : count_refusal (length file) (numbers_of file) ≡ r = sym (rw read at e) in
            let other : eqb r 0 ≡ false = ne_eqb r 0 (λ (z : r ≡ 0). omega arith) in
            sym (filling-refused file enough none r (filling-parts file _ ∙ rw (q, other)) other)

        module _ (count : 0 ≡ count_refusal (length file) d) where
          counted : count_refusal (length file) (numbers_of file) ≡ 0
          counted = sym (rw read at count)

          -- fit for the areas
          pub placed : Free d × (free_of d < 2 ^ 32)
          unfolding count_refusal
          placed =
              let (_, (_, (nextrec, (nextword, (within, _))))) = all_hold (count_rules (length file) d) (omega arith) (sym count) in
              let room = leb-true (free_of d) (length file / 4) within in
              let high = countable.1.high in
              let place : Free d = omega (arith, place-bounds d d.nextrec d.nextword countable.0 nextrec nextword (omega arith)) in
              (place, omega arith)

          module _ (after : Option RecordNumber) (e : after ≡ ordered_after d (addresses_of file d.nex) d.nex) where
            hold : (b : Bool) → b ≡ areas_hold d after → b ≡ areas_start (numbers_of file) (addresses_of file (numbers_of file).nex) (numbers_of file).nex && areas_end (numbers_of file) (addresses_of file (numbers_of file).nex)
            hold b q = rw read at (q ∙ ap (areas_hold d) e ∙ hold-is d (addresses_of file d.nex))

            -- refused by its areas
            pub area-refused : false ≡ areas_hold d after → 11 ≡ file_refusal file
            area-refused q = sym (filling-refused file enough none 11 (filling-parts file _ ∙ rw (counted, ← (hold false q))) refl)

            -- refused by its leftovers, or not refused
            pub leftovers-last : (b : Bool) → true ≡ areas_hold d after → b ≡ no_leftovers file d → cond b 0 29 ≡ file_refusal file
            leftovers-last b q l = sym (leftovers-refused file enough none (filling-parts file _ ∙ rw (counted, ← (hold true q))) (sym (rw read at l)))
