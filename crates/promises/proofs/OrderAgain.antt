-- A file that passes the order check passes it again after any series of calls. Assumes nothing.
use Prim.Native.Nat.{ℕ, ◌+◌, ◌-◌, ◌≤◌}
use mathlib.Core.Path.{◌≡◌, ap}
use mathlib.Core.List.{List, [], ◌∷◌}
use native.Mathlib.Omega.{arith}
use lib.ListN.{length}
use mir.Val.{SFits}
use Rattle.words.specs.Word.{integer4}
use Rattle.geometry.specs.declared.units.RecordNumber.{RecordNumber}
use Rattle.geometry.specs.declared.growth.Growth.{Growth}
use Rattle.geometry.specs.declared.area.Slot.{Slot}
use Rattle.geometry.specs.Units.{entries_before}
use Rattle.geometry.proofs.Slots.{Stands, holder-only}
use Rattle.layout.specs.FileCode.{byte_order_of}
use Rattle.descriptor.specs.declared.numbers.DescriptorNumbers.{DescriptorNumbers}
use Rattle.descriptor.specs.FirstRecord.{growth_in}
use Rattle.descriptor.proofs.Fitting.{fit-reach, fit-full}
use Rattle.entry.proofs.Entering.{slot-in-use}
use Rattle.descriptor.specs.Areas.{area_start_of}
use Rattle.order.specs.Order.{all_pass, check_of}
use Rattle.storing.specs.Handed.{Handed, Integers}
use Rattle.writer.specs.Answers.{file_after}
use Rattle.storing.specs.Bounds.{Accepted}
use Rattle.written.proofs.Cases.{split, by_last}
use Rattle.written.proofs.AppendLeaves.{new, then, areas_then, left, slot_same, area-from, area-to, area-new, by-area}
use Rattle.descriptor.proofs.Answered.{file-order}
use Rattle.written.proofs.ReadBack.{admits, file-written, validated-after}
use Rattle.promises.specs.Calls.{Call, append, batch, update, Fits, AllFit, after_call, run}
use Rattle.promises.specs.Regions.{SoundIn}
use Rattle.promises.proofs.SoundAfter.{entry-same, start-last, old-end, areas-before, opens-then}
use Rattle.promises.proofs.OrderPassed.{slot_at, Passed, check-passes, check-passed}
use Rattle.promises.proofs.OrderSound.{order-sound}
use Rattle.promises.proofs.AppendNumbers.{by_answer}
use Rattle.updated.proofs.Rewritten.{by-update}
use Rattle.promises.proofs.UpdatedEntries.{update-again}
use Rattle.promises.proofs.InTurn.{through-batch}

-- ---- one accepted append

-- an entry that is not its extension's first has one before it
later : {e nex lind : ℕ} {g : Growth} {t : Slot} → Stands g nex lind e t → (t.place ≡ 1 → ⊥) → 2 ≤ e
later {e} {nex} {lind} {g} {t} u f = split t.place 1 (λ l. absurd (f (omega (arith, u.counted)))) (λ l. omega (arith, u.number))

module _ (file : List ℕ) {d : DescriptorNumbers} {addresses : List RecordNumber} {h : Handed} (x : Accepted (length file) d addresses h) (order : d.order ≡ byte_order_of file) (s : SoundIn file d addresses)
    (version : SFits integer4 h.version) (all : (e : ℕ) → 1 ≤ e → e ≤ entries_before d.xnext → Passed file d addresses e) where
  abbrev n : ℕ
  n = entries_before d.xnext

  -- an entry that was there is passed as before, also where the next area is new
  old-passed : (e : ℕ) → 1 ≤ e → e ≤ n → Passed (new file x) (then file x) (areas_then file x) e
  old-passed e l o =
      let p = all e l o in
      let u = slot-in-use (length file) d addresses x.admitted (record { 0 = e }) l o in
      let q = slot_same file x (record { 0 = e }) l o in
      let k = (slot_at d e).extension.0 in
      let this = entry-same file x order s e l o in
      record {
        opens = opens-then file x order s e l (omega (arith, left file x));
        first = rw (q, area-to file x k u.held.counted u.used, this) p.first;
        next = rw q (λ f.
            let two = later u f in
            rw (this, entry-same file x order s (e - 1) (omega arith) (omega arith)) (p.next f));
        last = rw (q, (left file x).growth) (λ f g.
            by-area file x (k + 1) (omega arith)
            (λ m. rw (this, area-from file x (k + 1) (omega arith) m) (p.last f (omega arith)))
            (λ t m. omega (arith, old-end file x order s e l o, area-new file x t, ap (area_start_of (then file x) (areas_then file x)) m)));
      }

  -- so is the new one, the last of the last extension
  new-passed : (e : ℕ) → e ≡ n + 1 → Passed (new file x) (then file x) (areas_then file x) e
  new-passed e o =
      let t = then file x in
      let i = left file x in
      let u = slot-in-use (length file) t (areas_then file x) i.admitted (record { 0 = e }) (omega arith) (omega arith) in
      let begin = start-last file x order s version e o in
      record {
        opens = opens-then file x order s e (omega arith) (omega arith);
        first = λ f. omega (arith, begin, areas-before file x order s (slot_at t e).extension.0 u.used);
        next = λ f. let two = later u f in omega (arith, begin, old-end file x order s (e - 1) (omega arith) (omega arith));
        last = λ f g.
            let some : 1 ≤ t.nex = omega (arith, u.held.counted, u.used) in
            let fit = fit-full (growth_in t) (entries_before t.xnext) t.nex some i.admitted.fit in
            let reach = fit-reach (growth_in t) (entries_before t.xnext) t.nex i.admitted.fit in
            let same = holder-only (growth_in t) e (slot_at t e).extension.0 t.nex u.held (record { counted = some; behind = omega arith; reached = omega arith }) in
            absurd (omega arith);
      }

  all-passed : (e : ℕ) → 1 ≤ e → e ≤ entries_before (then file x).xnext → Passed (new file x) (then file x) (areas_then file x) e
  all-passed e l m = by_last n e (omega (arith, left file x)) (λ o. old-passed e l o) (λ o. new-passed e o)

-- ---- any call, and any series

append-again : (file : List ℕ) (h : Handed) → Integers h → check_of file ≡ all_pass → check_of (file_after file h) ≡ all_pass
append-again file h g c =
    let p = check-passed file c in
    by_answer file h p.0
    (λ a q.
    let x = admits file h p.0 a in
    rw (file-written file h p.0 a)
    (check-passes _ _ _ (validated-after file p.0 x) (all-passed file x (file-order file) (order-sound file c).inside g.version p.1)))
    (λ same q. rw same c)

call-again : (file : List ℕ) (c : Call) → Fits c → check_of file ≡ all_pass → check_of (after_call file c) ≡ all_pass
call-again file (append h) g p = append-again file h g p
call-again file (batch b) g p = through-batch (λ f. check_of f ≡ all_pass) append-again b g file p
call-again file (update u) g p = by-update file u (λ z. update-again file u p z) (λ same. rw same p)

-- the order check passes again
pub run-ordered : (calls : List Call) → AllFit calls → (file : List ℕ) → check_of file ≡ all_pass → check_of (run calls file) ≡ all_pass
run-ordered [] g file p = p
run-ordered (c ∷ cs) g file p = run-ordered cs g.1 (after_call file c) (call-again file c g.0 p)
