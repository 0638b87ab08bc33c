-- A walk within the limit has few parts, and comes to the parts and the total of the next extension. Assumes nothing.
use Rattle.std.proofs.Common.{◌≡◌, ℕ, ◌+◌, ◌-◌, ◌*◌, ◌/◌, ◌^◌, ◌≤◌, ◌<◌, sym, ap, ◌∙◌, arith}
use mathlib.Core.Path.{ap₂}
use Rattle.geometry.specs.declared.growth.Growth.{Growth}
use Rattle.geometry.specs.declared.walk.Walk.{Walk}
use Rattle.geometry.specs.Walk.{grown_of, parts_of, Walking}
use Rattle.geometry.proofs.Capacities.{capacity-limit, total-limit}
use Rattle.geometry.proofs.Parts.{parts-few, parts_next, walk-capacity, walk-total}
use Rattle.geometry.proofs.walk.Walk.next.Goals as goal

-- what is known of the walk before the step
module _ (g : Growth) (w : Walk) (p : Walking g w) where
  -- its parts
  parts : w.parts ≡ parts_of g w.extension.0
  parts = ap (λ (x : Walk). x.parts) p.stands

  -- they are few, and so are its entries
  few : (w.parts < 2 ^ 61) × (w.before ≤ 15 * 16384) × (w.capacity ≤ 16384)
  few =
      let k = w.extension.0 in
      let own = capacity-limit g k k p.counted (omega arith) p.growing.within in
      let others = total-limit g (k - 1) k (omega arith) p.growing.within in
      let before = ap (λ (x : Walk). x.before) p.stands in
      (rw parts (parts-few g k p.few own), omega (arith, p.few), omega (arith, walk-capacity g k p.few p.stands))

pub grown-parts-requires : goal.grown-parts-requires
grown-parts-requires c = (c.requires.growing.gex-high, (few _ _ c.requires).0)

pub overflow_add-result-2 : goal.overflow_add-result-2
overflow_add-result-2 c = omega (arith, few _ _ c.requires)

pub returns : goal.returns
returns c =
    let g = c.args.growth in
    let w = c.args.self in
    let k = w.extension.0 in
    let next = c.grown-parts.ensures ∙ ap (grown_of g) (parts g w c.requires) ∙ sym (parts_next g k c.requires.counted) in
    ap₂ {C = Walk} (λ (b n : ℕ). record { extension = record { 0 = k + 1 }; before = b; capacity = n / 10 ^ 14; parts = n })
    (let q : k + 1 - 1 ≡ k = omega arith in rw q (walk-total g k c.requires.counted c.requires.few c.requires.stands)) next
