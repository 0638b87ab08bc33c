-- The answer of an append and the file after it, by the case of the validation. Assumes nothing.
use Prim.Native.Nat.{ℕ}
use mathlib.Core.Path.{◌≡◌}
use mathlib.Core.List.{List}
use Rattle.descriptor.specs.declared.validating.Validation.{Validation}
use Rattle.descriptor.specs.declared.validating.Validated.{Validated}
use Rattle.descriptor.specs.Answers.{validation_of}
use Rattle.storing.specs.Handed.{Handed}
use Rattle.writer.specs.Answers.{append_in, file_in, append_of, file_after}

module _ (file : List ℕ) (v : Validation) (case : Validated) (e : v ≡ validation_of file) (q : v.numbers ≡ case) (h : Handed) where
  -- what the append answers
  pub append-by : append_of file h ≡ append_in file case h
  append-by = rw (← e, ← q)

  -- the file that it leaves
  pub file-by : file_after file h ≡ file_in file case v.addresses h
  file-by = rw (← e, ← q)
