-- Laws of a file's code: the code of an order says it, and files that begin alike have one order. Assumes nothing.
use Prim.Native.Nat.{ℕ, zero, suc, ◌≤◌}
use mathlib.Core.Path.{◌≡◌, refl, ap}
use mathlib.Core.List.{List}
use native.Mathlib.Omega.{arith}
use lib.Dec.{eqb}
use lib.ListN.{length}
use Rattle.outcome.proofs.Either.{either}
use Rattle.image.specs.Image.{part}
use Rattle.words.specs.declared.byte_order.ByteOrder.{ByteOrder}
use Rattle.words.specs.Code.{same_numbers}
use Rattle.layout.specs.FileCode.{file_code, order_said, file_code_of, byte_order_of}

numbered : (n : ℕ) → n ≤ 1 → order_said (file_code (record { 0 = n })) ≡ record { 0 = n }
unfolding order_said file_code same_numbers
numbered zero h = refl
numbered (suc zero) h = refl
numbered (suc (suc n)) h = absurd (omega arith)

-- the code of each of the two orders says it
pub order-coded : (o : ByteOrder) → o.0 ≤ 1 → order_said (file_code o) ≡ o
order-coded o h = numbered o.0 h

-- each has four bytes
pub length-code : (o : ByteOrder) → length (file_code o) ≡ 4
unfolding file_code
length-code o = either (eqb o.0 0) (λ e. rw e) (λ e. rw e)

-- files with the same first word have one order
pub order_alike : (f g : List ℕ) → part f 0 4 ≡ part g 0 4 → byte_order_of f ≡ byte_order_of g
unfolding file_code_of
order_alike f g e = ap order_said e
