-- A file that `create` made is a sound start: it is admitted, has no entries, and passes the order check. Assumes nothing.
use Prim.Native.Nat.{ℕ}
use mathlib.Core.Path.{◌≡◌}
use mathlib.Core.List.{List, []}
use lib.ListN.{length}
use Rattle.descriptor.specs.declared.numbers.Settings.{Settings}
use Rattle.descriptor.specs.declared.numbers.DescriptorNumbers.{DescriptorNumbers}
use Rattle.descriptor.specs.FirstRecord.{created_of}
use Rattle.order.specs.Order.{all_pass, checked_from, checked_in, check_of}
use Rattle.writer.specs.Creation.{creation_refusal, created_file}
use Rattle.descriptor.specs.Answers.{Validates}
use Rattle.written.proofs.CreatedBack.{no_addresses, created-validated}
use Rattle.promises.specs.Contents.{contents}
use Rattle.promises.specs.Regions.{Sound}
use Rattle.promises.proofs.Readings.{numbers-shown}
use Rattle.promises.proofs.OrderSound.{order-sound}

module _ (file : List ℕ) (s : Settings) (e : creation_refusal (length file) s ≡ 0) where
  abbrev new : List ℕ
  new = created_file file s

  abbrev d : DescriptorNumbers
  d = created_of s

  shown : Validates new d no_addresses
  shown = created-validated file s e

  -- it has no entries, so the order check finds nothing
  pub created-check : check_of new ≡ all_pass
  unfolding check_of checked_in checked_from created_of
  created-check = rw shown

  -- it is sound
  pub created-sound : Sound new
  created-sound = order-sound new created-check

  -- and a reader finds no entry
  pub created-empty : contents new ≡ []
  unfolding contents created_of
  created-empty = rw (numbers-shown new shown)
