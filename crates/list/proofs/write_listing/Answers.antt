-- The buffer holds what is printed of any input, and that is what is written.
use Rattle.std.proofs.Common.{◌≡◌, ◌≤◌, ◌+◌, ℕ, List, ◌++◌, length, take, drop, replicate, ap, ◌∙◌, arith}
use Rattle.std.proofs.lemmas.List.{length-replicate}
use Rattle.std.proofs.Math.Seq.{take-append_seam}
use Rattle.image.specs.Image.{splice}
use Rattle.image.proofs.Splice.{splice_cut}
use Rattle.listing.specs.Listing.{output_of}
use Rattle.listing.proofs.Room.{room, counted}
use Rattle.list.proofs.write_listing.Goals as goal

-- what `list_input` leaves in a buffer of zeros
module _ (input after : List ℕ) (n : ℕ) (e : n ≡ length (output_of input)) (x : after ≡ splice (replicate 196608 0) 0 (output_of input)) where
  whole : length {A = ℕ} (replicate 196608 0) ≡ 196608
  whole = length-replicate {A = ℕ} 196608 0

  held : (n ≤ length after) × (n ≡ length (take n after))
  held = counted input (replicate 196608 0) after n whole e x

  printed : take n after ≡ output_of input
  printed =
      let out = output_of input in
      let fits : 0 + length out ≤ length {A = ℕ} (replicate 196608 0) = omega (arith, room input, whole) in
      ap (take n) (x ∙ splice_cut (replicate 196608 0) 0 out fits) ∙ ap (λ k. take k (out ++ drop (0 + length out) (replicate 196608 0))) e ∙ take-append_seam out _

pub slice_bounds-output-end : goal.slice_bounds-output-end
slice_bounds-output-end g c = (held _ _ _ c.list_input-count.ensures.0 c.list_input-count.ensures.1).0

pub slice_bounds-write_all-end : goal.slice_bounds-write_all-end
slice_bounds-write_all-end g c = (held _ _ _ c.list_input-count.ensures.0 c.list_input-count.ensures.1).1

pub returns : goal.returns
returns g c = rw (printed _ _ _ c.list_input-count.ensures.0 c.list_input-count.ensures.1) at c.write_all.ensures.bytes
