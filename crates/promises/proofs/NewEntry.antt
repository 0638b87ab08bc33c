-- The new entry of an accepted append, as a reader finds it: number n + 1 holds what was handed in. Assumes nothing.
use Prim.Native.Nat.{ℕ, ◌+◌, ◌*◌, ◌-◌, ◌≤◌, ◌<◌}
use mathlib.Core.Path.{◌≡◌, sym, ap, ◌∙◌}
use mathlib.Core.Bool.{cond}
use mathlib.Core.List.{List}
use native.Mathlib.Omega.{arith}
use lib.Dec.{eqb}
use lib.IntN.{pos}
use lib.ListN.{length, get_or, take}
use Rattle.geometry.specs.Units.{place_of}
use Rattle.descriptor.specs.declared.numbers.DescriptorNumbers.{DescriptorNumbers}
use Rattle.descriptor.specs.FirstRecord.{numbers_of, addresses_of}
use Rattle.layout.specs.FileCode.{byte_order_of}
use Rattle.descriptor.specs.Rules.{file_refusal}
use Rattle.descriptor.proofs.Answered.{file-order}
use Rattle.entry.specs.declared.answers.Opened.{Opened}
use Rattle.entry.specs.Entered.{Entered}
use Rattle.layout.specs.EntryWords.{first_content}
use Rattle.entry.specs.Answers.{open_case}
use Rattle.entry.proofs.Entering.{entered-numbers}
use Rattle.storing.specs.Handed.{Handed, Integers, words_of, sum_of, nsec_in, nword_in}
use Rattle.placing.specs.Placing.{entry_start}
use Rattle.writer.specs.Rules.{append_refusal}
use Rattle.writer.specs.Answers.{file_after}
use Rattle.storing.specs.Bounds.{Accepted}
use Rattle.written.proofs.AppendLeaves.{new, then, areas_then, left}
use Rattle.written.proofs.ReadBack.{admits, file-written, validated-after}
use Rattle.written.proofs.EntryRead.{identifier-new, section-read}
use Rattle.written.proofs.EntryPieces.{array, section-new}
use Rattle.written.proofs.Reopened.{not-refused, entered-new}
use Rattle.written.proofs.Returned.{opened-again, index-again, data-again}
use Rattle.promises.specs.Contents.{in_order, section_read, content_read, holds, refused, reading_of}
use Rattle.promises.specs.Calls.{handed_content}
use Rattle.promises.proofs.Readings.{section_at, cut-read}
use Rattle.promises.proofs.OpenEntries.{section_in, OpenEntry, stored, section-shown}

module _ (file : List ℕ) (h : Handed) (g : Integers h) (z : file_refusal file ≡ 0) (a : append_refusal (length file) (numbers_of file) h ≡ 0) where
  abbrev d : DescriptorNumbers
  d = numbers_of file

  abbrev x : Accepted (length file) d (addresses_of file d.nex) h
  x = admits file h z a

  abbrev order : d.order ≡ byte_order_of file
  order = file-order file

  here : OpenEntry (new file x) (then file x) (areas_then file x) d.xnext
  here = record { shown = validated-after file z x; admitted = rw (left file x).size (left file x).admitted; opens = not-refused file x order }

  here-is : stored here ≡ record { refusal = 0; place = place_of d.reclen (entry_start d); start = entry_start d; version = h.version; nsec = nsec_in h; nword = nword_in h; array = array file x order }
  here-is = sym (entered-numbers (new file x) (then file x) (areas_then file x) d.xnext here.opens) ∙ entered-new file x order g.version

  -- its section at place k is the k-th that was handed in
  section-new-read : (k : ℕ) → 1 ≤ k → k ≤ nsec_in h → section_read (new file x) d.xnext k ≡ section_at h.ids h.lengths h.sections (k - 1)
  section-new-read k l m =
      let i : ℕ = k - 1 in
      let low : i < nsec_in h = omega arith in
      let at = 4 * (entry_start d + ((first_content (nsec_in h)).0 + sum_of (take i h.lengths) - 1)) in
      let n = 4 * words_of (get_or h.lengths i (pos 0)) in
      let q : at + n - at ≡ n = omega arith in
      section-shown here k l (omega (arith, ap (λ (y : Entered). y.nsec) here-is))
      ∙ ap (λ (y : Entered). section_in (new file x) y i) here-is
      ∙ rw (identifier-new file x order i low (g.ids i low), section-new file x order i low, q, section-read file x order i low)

  content-new : content_read (file_after file h) d.xnext ≡ handed_content h
  unfolding content_read handed_content
  content-new =
      let opened = opened-again file h g z a in
      let sections =
      ap (λ (o : Opened). in_order (section_read (file_after file h) d.xnext) (open_case o.answer).nsec) opened
      ∙ ap (λ (f : List ℕ). in_order (section_read f d.xnext) (nsec_in h)) (file-written file h z a)
      ∙ cut-read (section_read (new file x) d.xnext) h.ids h.lengths h.sections x.fitting.pairs section-new-read in
      λ i. record {
        version = (open_case (opened i).answer).version;
        index = index-again file h g z a i;
        sections = sections i;
        values = data-again file h g z a i;
      }

  -- number n + 1 finds what was handed in
  pub reading-new : reading_of (file_after file h) d.xnext ≡ holds (handed_content h)
  unfolding reading_of
  reading-new =
      ap (λ (o : Opened). cond (eqb (open_case o.answer).refusal 0) (holds (content_read (file_after file h) d.xnext)) (refused (open_case o.answer).refusal)) (opened-again file h g z a)
      ∙ ap holds content-new
