-- What the walk over the extensions in use finds, field by field. Assumes nothing.
use mathlib.Core.Path.{◌≡◌, refl, ap}
use mathlib.Core.Bool.{Bool, true, false, cond}
use Rattle.std.specs.Prelude.{Some, None}
use mathlib.Core.List.{List}
use lib.ListN.{replicate}
use Rattle.outcome.proofs.Either.{either}
use Rattle.geometry.specs.declared.units.RecordNumber.{RecordNumber}
use Prim.Native.Nat.{◌-◌}
use Rattle.geometry.specs.Growth.{total_of, over_of}
use Rattle.geometry.specs.Totals.{totals_of}
use Rattle.descriptor.specs.declared.numbers.DescriptorNumbers.{DescriptorNumbers}
use Rattle.descriptor.specs.declared.walking.Walked.{Walked}
use Rattle.descriptor.specs.FirstRecord.{growth_in}
use Rattle.descriptor.specs.Walking.{ordered_after, walked_of, walked_totals}
use Rattle.descriptor.specs.Bounds.{Holding}

module _ (d : DescriptorNumbers) where
  -- nothing where a capacity is over the limit
  pub walked-none : (addresses : List RecordNumber) → None ≡ walked_of d addresses → over_of (growth_in d) d.nex ≡ true
  unfolding walked_of
  walked-none addresses e = either (over_of (growth_in d) d.nex) (λ b. b) (λ b. absurd (never (rw b at e)))
    where
      never : {w : Walked} → None ≡ Some w → ⊥
      never q = cc

  -- what is found where none is: the record after the last area, and what the extensions hold together, without the last and with it
  pub record Found (addresses : List RecordNumber) (w : Walked) : Type 0 where
    pub within : over_of (growth_in d) d.nex ≡ false
    pub after : w.after ≡ ordered_after d addresses d.nex
    pub holding : Holding d w.before w.total

  pub walked-some : {w : Walked} (addresses : List RecordNumber) → Some w ≡ walked_of d addresses → Found addresses w
  unfolding walked_of
  walked-some {w} addresses e = either (over_of (growth_in d) d.nex) (λ b. absurd (never (rw b at e))) (λ b. found b (rw b at e))
    where
      never : Some w ≡ None → ⊥
      never q = cc

      found : over_of (growth_in d) d.nex ≡ false
          → Some w ≡ Some (record { after = ordered_after d addresses d.nex; before = total_of (growth_in d) (d.nex - 1); total = total_of (growth_in d) d.nex }) → Found addresses w
      found b q =
          let same : w ≡ record { after = ordered_after d addresses d.nex; before = total_of (growth_in d) (d.nex - 1); total = total_of (growth_in d) d.nex } = cc in
          record {
            within = b;
            after = ap (λ (x : Walked). x.after) same;
            holding = record { without = ap (λ (x : Walked). x.before) same; with = ap (λ (x : Walked). x.total) same };
          }

  -- and the totals
  pub walked-totals : (b : Bool) → over_of (growth_in d) d.nex ≡ b → walked_totals d ≡ cond b (replicate 16 0) (totals_of (growth_in d) d.nex)
  unfolding walked_totals
  walked-totals b q = rw q refl
