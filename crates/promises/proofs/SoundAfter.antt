-- An accepted append to numbers whose regions share no word: every entry opens, and the new entry and its area stand beside all others. Assumes nothing.
use Prim.Native.Nat.{ℕ, ◌+◌, ◌≤◌}
use mathlib.Core.Path.{◌≡◌, ap}
use mathlib.Core.Logic.{inl, inr}
use mathlib.Core.List.{List}
use native.Mathlib.Omega.{arith}
use lib.ListN.{length}
use mir.Val.{SFits}
use Rattle.image.proofs.Writes.{Beside}
use Rattle.words.specs.Word.{integer4}
use Rattle.geometry.specs.declared.units.RecordNumber.{RecordNumber}
use Rattle.geometry.specs.Units.{entries_before}
use Rattle.geometry.specs.Area.{slot_of}
use Rattle.layout.specs.FileCode.{byte_order_of}
use Rattle.descriptor.specs.declared.numbers.DescriptorNumbers.{DescriptorNumbers}
use Rattle.descriptor.specs.FirstRecord.{growth_in, free_of}
use Rattle.entry.specs.Entered.{Entered}
use Rattle.entry.specs.Opening.{end_of}
use Rattle.alike.proofs.Described.{opens-there, entered-there}
use Rattle.alike.proofs.Agreeing.{Agrees}
use Rattle.descriptor.specs.Areas.{area_start_of, area_end_of}
use Rattle.storing.specs.Handed.{Handed}
use Rattle.placing.specs.Placing.{entry_start}
use Rattle.storing.specs.Bounds.{Accepted}
use Rattle.written.proofs.Cases.{by_last}
use Rattle.written.proofs.AppendLeaves.{new, then, areas_then, slot, left, area-from, area-to, area-new, by-area, area-last}
use Rattle.written.proofs.Reopened.{not-refused, entered-new}
use Rattle.promises.specs.Regions.{SoundIn}
use Rattle.promises.proofs.Areas.{area-end-le}
use Rattle.promises.proofs.SlotAreas.{slot_in_area}
use Rattle.promises.proofs.Spread.{Clear, clear_in, entry_at, Spread, AllOpen, opened-free, apart-spread}
use Rattle.promises.proofs.EntriesStay.{agrees}

module _ (file : List ℕ) {d : DescriptorNumbers} {addresses : List RecordNumber} {h : Handed} (x : Accepted (length file) d addresses h) (order : d.order ≡ byte_order_of file) (s : SoundIn file d addresses) where
  abbrev n : ℕ
  n = entries_before d.xnext

  -- entry e after the append
  abbrev pub entry_then : ℕ → Entered
  entry_then e = entry_at (new file x) (then file x) (areas_then file x) e

  spread : Spread file d addresses
  spread = apart-spread s.apart

  -- ---- the new slot

  abbrev extension : ℕ
  extension = (slot_of (growth_in (then file x)) (then file x).nex (then file x).lind d.xnext).extension.0

  -- ---- the entries that were there

  module _ (e : ℕ) (low : 1 ≤ e) (high : e ≤ n) where
    abbrev old : Entered
    old = entry_at file d addresses e

    ends : end_of old ≤ free_of d
    ends = opened-free file d addresses x.admitted (record { 0 = e }) (s.opens e low high)

    -- the new slot meets none of them
    slot-clear : Beside old.start old.nword (slot file x) d.lind
    slot-clear =
        let l = left file x in
        let i = slot_in_area (length file) (then file x) (areas_then file x) l.admitted d.xnext x.admitted.counted (omega arith) in
        by-area file x extension i.1
        (λ m. clear_in (omega arith) (omega arith) (omega (arith, area-from file x extension i.0 m)) (omega (arith, area-to file x extension i.0 m))
        (spread.areas e extension low high i.0 m))
        (λ q m. inl (omega (arith, ends, area-new file x q, ap (area_start_of (then file x) (areas_then file x)) m)))

    -- so each stays as it was
    pub entry-agrees : Agrees file (new file x) d (then file x) addresses (areas_then file x) (record { 0 = e })
    entry-agrees = agrees file x (record { 0 = e }) (s.opens e low high) slot-clear

    -- it has the same numbers
    pub entry-same : entry_then e ≡ old
    entry-same = entered-there file (new file x) d (then file x) addresses (areas_then file x) (record { 0 = e }) entry-agrees.described

    -- and ends where the new entry or its area may start
    pub old-end : end_of (entry_then e) ≤ free_of d
    old-end = rw entry-same ends

  -- ---- the new entry

  -- every area ends before it starts
  pub areas-before : (k : ℕ) → k ≤ (then file x).nex → area_end_of (then file x) (areas_then file x) k ≤ entry_start d
  areas-before k m = omega (arith, area-last file x, area-end-le (length file) (then file x) (areas_then file x) (left file x).admitted k (then file x).nex m (omega arith))

  -- it starts where it was put
  pub start-last : SFits integer4 h.version → (e : ℕ) → e ≡ n + 1 → (entry_then e).start ≡ entry_start d
  start-last version e o = let q : e ≡ d.xnext.0 = omega (arith, left file x) in rw (q, entered-new file x order version)

  -- ---- all of them

  -- each opens
  pub opens-then : AllOpen (new file x) (then file x) (areas_then file x)
  opens-then e l m =
      by_last n e (omega (arith, left file x))
      (λ o. opens-there file (new file x) d (then file x) addresses (areas_then file x) (record { 0 = e }) (entry-agrees e l o).described)
      (λ o. let q : e ≡ d.xnext.0 = omega (arith, left file x) in rw q (not-refused file x order))

  module _ (version : SFits integer4 h.version) where
    old-area : (e k : ℕ) → 1 ≤ e → e ≤ n → 1 ≤ k → k ≤ (then file x).nex
        → Clear (entry_then e).start (end_of (entry_then e)) (area_start_of (then file x) (areas_then file x) k) (area_end_of (then file x) (areas_then file x) k)
    old-area e k l o p q =
        by-area file x k q
        (λ m. rw (entry-same e l o, area-from file x k p m, area-to file x k p m) (spread.areas e k l o p m))
        (λ t m. inl (omega (arith, old-end e l o, area-new file x t, ap (area_start_of (then file x) (areas_then file x)) m)))

    -- they stand beside the areas and beside one another
    pub spread-then : Spread (new file x) (then file x) (areas_then file x)
    spread-then =
        let l = left file x in
        record {
          areas = λ e k i m p q.
              by_last n e (omega arith)
              (λ o. old-area e k i o p q)
              (λ o. inr (omega (arith, start-last version e o, areas-before k q)));
          entries = λ e f i m o.
              by_last n f (omega arith)
              (λ p. rw (entry-same e i (omega arith), entry-same f (omega arith) p) (spread.entries e f i m p))
              (λ p. inl (omega (arith, old-end e i (omega arith), start-last version f p)));
        }
