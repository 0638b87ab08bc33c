-- What rules 23 and 24 leave once they are passed, and the place of an entry by their refusal. Assumes nothing.
use Prim.Native.Nat.{ℕ, ◌+◌, ◌/◌, ◌≤◌, ◌<◌}
use mathlib.Core.Path.{◌≡◌, sym, ◌∙◌}
use mathlib.Core.Bool.{cond}
use native.Mathlib.Omega.{arith}
use borrow.Author.Tests.{leb-true, ltb-true, le-leb, lt-leb, ne_eqb}
use lib.Dec.{leb, eqb}
use Rattle.geometry.specs.Growth.{capacity_of}
use Rattle.descriptor.specs.declared.numbers.DescriptorNumbers.{DescriptorNumbers}
use Rattle.descriptor.specs.FirstRecord.{mex_of, growth_in}
use Rattle.descriptor.specs.Refusal.{AllHold}
use Rattle.descriptor.proofs.Refusals.{all_hold, hold-split, refusal-append}
use Rattle.placing.specs.Placing.{entry_start}
use Rattle.placing.specs.Rules.{extension_rules, space_rules, placement_rules, extension_refusal, placement_refusal}
use Rattle.placing.specs.Bounds.{Extensible, Placed}

module _ (d : DescriptorNumbers) where
  -- the rows of rule 23 hold
  rows-extensible : AllHold (extension_rules d) → Extensible d
  rows-extensible a = record {
    room = λ f. ltb-true d.nex (mex_of d.reclen) (rw f at a.0);
    within = λ f. leb-true (capacity_of (growth_in d) (d.nex + 1)) 16384 (rw f at a.1.0);
  }

  -- rule 23 passed
  pub extensible : extension_refusal d ≡ 0 → Extensible d
  unfolding extension_refusal
  extensible e = rows-extensible (all_hold (extension_rules d) (omega arith) e)

  module _ (bytes nword : ℕ) where
    -- rule 24 counts where rule 23 gives no refusal
    refusal-parts : placement_refusal bytes d nword ≡ cond (eqb (extension_refusal d) 0) (cond (leb (entry_start d + nword) (bytes / 4)) 0 24) (extension_refusal d)
    unfolding placement_refusal extension_refusal
    refusal-parts = refusal-append (extension_rules d) (space_rules bytes d nword) (omega arith)

    -- both passed
    pub placed : placement_refusal bytes d nword ≡ 0 → Placed bytes d nword
    unfolding placement_refusal
    placed e =
        let a = hold-split (extension_rules d) (space_rules bytes d nword) (all_hold (placement_rules bytes d nword) (omega arith) e) in
        record { extensible = rows-extensible a.0; inside = leb-true (entry_start d + nword) (bytes / 4) a.1.0 }

    -- refused by 23
    pub place-unextended : {n : ℕ} → n ≡ extension_refusal d → (n ≡ 0 → ⊥) → n ≡ placement_refusal bytes d nword
    place-unextended {n} e z = let o = ne_eqb n 0 z in e ∙ sym (refusal-parts ∙ rw (← e, o))

    -- refused by 24
    pub place-outside : extension_refusal d ≡ 0 → bytes / 4 < entry_start d + nword → placement_refusal bytes d nword ≡ 24
    place-outside e l = rw (refusal-parts, e, lt-leb (entry_start d + nword) (bytes / 4) l)

    -- accepted
    pub place-given : extension_refusal d ≡ 0 → entry_start d + nword ≤ bytes / 4 → placement_refusal bytes d nword ≡ 0
    place-given e l = rw (refusal-parts, e, le-leb (entry_start d + nword) (bytes / 4) l)
