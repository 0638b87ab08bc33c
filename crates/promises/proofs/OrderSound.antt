-- A file that passes the order check is sound: no entry meets an index area or another entry. Assumes nothing.
use Prim.Native.Nat.{ℕ, zero, suc, ◌+◌, ◌-◌, ◌≤◌, ◌<◌}
use mathlib.Core.Path.{◌≡◌, ap}
use mathlib.Core.Logic.{inl, inr}
use mathlib.Core.List.{List}
use native.Mathlib.Omega.{arith}
use lib.ListN.{length}
use Rattle.geometry.specs.declared.units.RecordNumber.{RecordNumber}
use Rattle.geometry.specs.Units.{entries_before}
use Rattle.geometry.specs.Growth.{capacity_of, total_of}
use Rattle.geometry.proofs.Capacities.{total-le, total-last}
use Rattle.geometry.proofs.Slots.{holder-only, Stands}
use Rattle.descriptor.specs.declared.numbers.DescriptorNumbers.{DescriptorNumbers}
use Rattle.descriptor.specs.FirstRecord.{growth_in}
use Rattle.descriptor.specs.Bounds.{Admitted}
use Rattle.descriptor.proofs.Fitting.{fit-full}
use Rattle.descriptor.proofs.Answered.{file-admitted, answer-numbers}
use Rattle.entry.proofs.Entering.{slot-in-use}
use Rattle.descriptor.specs.Areas.{area_start_of, area_end_of}
use Rattle.entry.specs.Opening.{end_of}
use Rattle.order.specs.Order.{all_pass, check_of}
use Rattle.written.proofs.Cases.{split}
use Rattle.promises.specs.Regions.{Sound}
use Rattle.promises.proofs.Areas.{area-end-le, areas-order, area-holds}
use Rattle.promises.proofs.Spread.{Clear, entry_at, Spread, sound-shown}
use Rattle.promises.proofs.OrderPassed.{slot_at, Passed, check-passed}

module _ (file : List ℕ) (d : DescriptorNumbers) (addresses : List RecordNumber) (a : Admitted (length file) d addresses)
    (all : (e : ℕ) → 1 ≤ e → e ≤ entries_before d.xnext → Passed file d addresses e) where
  abbrev n : ℕ
  n = entries_before d.xnext

  -- the extension and the place of entry e, where it starts and where it ends
  abbrev extension : ℕ → ℕ
  extension e = (slot_at d e).extension.0

  abbrev place : ℕ → ℕ
  place e = (slot_at d e).place

  abbrev start : ℕ → ℕ
  start e = (entry_at file d addresses e).start

  abbrev end : ℕ → ℕ
  end e = end_of (entry_at file d addresses e)

  stands : (e : ℕ) → 1 ≤ e → e ≤ n → Stands (growth_in d) d.nex d.lind e (slot_at d e)
  stands e l h = slot-in-use (length file) d addresses a (record { 0 = e }) l h

  -- an entry that is not its extension's first starts behind the one before it
  in-turn : (e : ℕ) → suc e ≤ n → (place (suc e) ≡ 1 → ⊥) → end e ≤ start (suc e)
  in-turn e h f = let q : suc e - 1 ≡ e = omega arith in rw q at ((all (suc e) (omega arith) h).next f)

  -- two entries of which the extension of one holds the other stand in one extension, as far apart as their numbers
  same-extension : (e f : ℕ) → 1 ≤ e → e ≤ n → 1 ≤ f → f ≤ n → total_of (growth_in d) (extension f - 1) < e → e ≤ total_of (growth_in d) (extension f) → extension e ≡ extension f
  same-extension e f l h m o p q =
      holder-only (growth_in d) e (extension e) (extension f) (stands e l h).held (record { counted = (stands f m o).held.counted; behind = p; reached = q })

  place-next : (e f : ℕ) → 1 ≤ e → e ≤ n → 1 ≤ f → f ≤ n → extension e ≡ extension f → place e + f ≡ place f + e
  place-next e f l h m o x = omega (arith, (stands e l h).number, (stands f m o).number, ap (λ (k : ℕ). total_of (growth_in d) (k - 1)) x)

  -- ---- an entry and the areas

  -- an entry starts behind its own extension's area
  after-area : (e : ℕ) → 1 ≤ e → e ≤ n → area_end_of d addresses (extension e) ≤ start e
  after-area zero l h = absurd (omega arith)
  after-area (suc e) l h =
      split (place (suc e)) 1
      (λ p. (all (suc e) l h).first (omega (arith, (stands (suc e) l h).counted)))
      (λ p.
      let r = stands (suc e) l h in
      let low : 1 ≤ e = omega (arith, r.number) in
      let high : e ≤ n = omega arith in
      let x = same-extension e (suc e) low high l h (omega (arith, r.number)) (omega (arith, r.held.reached)) in
      omega (arith, ap (area_end_of d addresses) x, after-area e low high, in-turn e h (λ (z : place (suc e) ≡ 1). omega arith)))

  -- an area starts before a later one
  start-le : (j k : ℕ) → 1 ≤ j → j ≤ k → k ≤ d.nex → area_start_of d addresses j ≤ area_start_of d addresses k
  start-le j k l m o =
      split k j
      (λ p. let q : j ≡ k = omega arith in omega (arith, ap (area_start_of d addresses) q))
      (λ p. omega (arith, area-holds (length file) d addresses a j l (omega arith), areas-order (length file) d addresses a j k l p o))

  -- an entry with so many places behind it in its extension ends before every later area
  before-area : (left e k : ℕ) → 1 ≤ e → e ≤ n → place e + left ≡ capacity_of (growth_in d) (extension e) → extension e < k → k ≤ d.nex
      → end e ≤ area_start_of d addresses k
  before-area zero e k l h p x m =
      omega (arith, (all e l h).last (omega arith) (omega arith), start-le (extension e + 1) k (omega arith) (omega arith) m)
  before-area (suc left) e k l h p x m =
      let r = stands e l h in
      let g = growth_in d in
      let total = total-last g (extension e) r.held.counted in
      let fit = fit-full g n d.nex (omega arith) a.fit in
      let high : suc e ≤ n = omega (arith, r.number, total-le g (extension e) (d.nex - 1) (omega arith)) in
      let same = same-extension (suc e) e (omega arith) high l h (omega (arith, r.held.behind)) (omega (arith, r.number)) in
      let places = place-next (suc e) e (omega arith) high l h same in
      let next = in-turn e high (λ (z : place (suc e) ≡ 1). omega (arith, r.counted)) in
      omega (arith, next, before-area left (suc e) k (omega arith) high (omega (arith, ap (capacity_of g) same)) (omega arith) m)

  before-later : (e k : ℕ) → 1 ≤ e → e ≤ n → extension e < k → k ≤ d.nex → end e ≤ area_start_of d addresses k
  before-later e k l h x m = before-area (capacity_of (growth_in d) (extension e) - place e) e k l h (omega (arith, (stands e l h).room)) x m

  -- so it meets no area
  entry-area : (e k : ℕ) → 1 ≤ e → e ≤ n → 1 ≤ k → k ≤ d.nex → Clear (start e) (end e) (area_start_of d addresses k) (area_end_of d addresses k)
  entry-area e k l h m o =
      split k (extension e)
      (λ p. inr (omega (arith, after-area e l h, area-end-le (length file) d addresses a k (extension e) p (stands e l h).used)))
      (λ p. inl (before-later e k l h p o))

  -- ---- two entries

  entry_next : (e : ℕ) → 1 ≤ e → suc e ≤ n → end e ≤ start (suc e)
  entry_next e l h =
      let r = stands (suc e) (omega arith) h in
      let s = stands e l (omega arith) in
      split (place (suc e)) 1
      (λ p.
      split (extension (suc e)) (extension e)
      (λ x. absurd (omega (arith, r.number, r.held.reached, s.held.behind, s.number, s.room, total-last (growth_in d) (extension e) s.held.counted, total-le (growth_in d) (extension (suc e) - 1) (extension e - 1) (omega arith))))
      (λ x. omega (
        arith,
        before-later e (extension (suc e)) l (omega arith) x r.used,
        area-holds (length file) d addresses a (extension (suc e)) r.held.counted r.used,
        after-area (suc e) (omega arith) h,
      )))
      (λ p. in-turn e h (λ (z : place (suc e) ≡ 1). omega arith))

  entries-apart : (e f : ℕ) → 1 ≤ e → e < f → f ≤ n → end e ≤ start f
  entries-apart e zero l h m = absurd (omega arith)
  entries-apart e (suc f) l h m =
      split f e
      (λ p. let q : f ≡ e = omega arith in rw q (entry_next e l (omega arith)))
      (λ p. omega (arith, entries-apart e f l p (omega arith), entry_next f (omega arith) m))

  order-spread : Spread file d addresses
  order-spread = record { areas = entry-area; entries = λ e f l h m. inl (entries-apart e f l h m) }

-- a file that passes the check is sound
pub order-sound : (file : List ℕ) → check_of file ≡ all_pass → Sound file
order-sound file c =
    let p = check-passed file c in
    sound-shown (answer-numbers file p.0) (λ e l h. (p.1 e l h).opens) (order-spread file _ _ (file-admitted file p.0) p.1)
