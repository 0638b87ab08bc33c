-- A test on a signed reading is a test on the bits without a sign: a negative value's bits are above every bound. Assumes nothing.
use Prim.Native.Nat.{ℕ, ◌^◌, ◌≤◌, ◌<◌}
use mathlib.Core.Path.{◌≡◌, sym, ◌∙◌}
use mathlib.Core.Bool.{true, ◌&&◌, and-eq-true_iff, and-true, and-false}
use native.Mathlib.Omega.{arith}
use borrow.Author.Tests.{lt-leb, le-leb, lt-ltb, leb-true, ltb-true, ltb-false}
use lib.Dec.{ltb, leb}
use mir.Syntax.{Width}
use mir.Val.{hbits}
use Rattle.outcome.proofs.Either.{either}
use Rattle.words.specs.Word.{integer4, integer8, signed_of}
use Rattle.words.specs.Range.{within, at_least}
use Rattle.words.proofs.Signed.{signed_low}

-- a value is within bounds where its bits are
pub within-bits : (w : Width) (low high u : ℕ) → high < 2 ^ hbits w → within low high (signed_of w u) ≡ leb low u && leb u high
unfolding within
within-bits w low high u h =
    either (ltb u (2 ^ hbits w)) (λ e. rw (signed_low w u (ltb-true u (2 ^ hbits w) e)))
    (λ e. let k = ltb-false u (2 ^ hbits w) e in rw (e, lt-leb u high (omega arith)) (sym (and-false (leb low u))))

-- a value reaches a bound where its bits do and are below half the range
pub at_least-bits : (w : Width) (low u : ℕ) → at_least low (signed_of w u) ≡ leb low u && ltb u (2 ^ hbits w)
unfolding at_least
at_least-bits w low u =
    either (ltb u (2 ^ hbits w)) (λ e. rw (signed_low w u (ltb-true u (2 ^ hbits w) e), e) (sym (and-true (leb low u))))
    (λ e. rw e (sym (and-false (leb low u))))

-- what holds of the bits where a test passed
pub within-bounds : (w : Width) (low high u : ℕ) → high < 2 ^ hbits w → within low high (signed_of w u) ≡ true → (low ≤ u) × (u ≤ high)
within-bounds w low high u h t =
    let both = (and-eq-true_iff (leb low u) (leb u high)).0 (sym (within-bits w low high u h) ∙ t) in
    (leb-true low u both.0, leb-true u high both.1)

-- what such a test leaves of the bits
pub at_least-bounds : (w : Width) (low u : ℕ) → at_least low (signed_of w u) ≡ true → (low ≤ u) × (u < 2 ^ hbits w)
at_least-bounds w low u t =
    let both = (and-eq-true_iff (leb low u) (ltb u (2 ^ hbits w))).0 (sym (at_least-bits w low u) ∙ t) in
    (leb-true low u both.0, ltb-true u (2 ^ hbits w) both.1)

-- and the tests pass where the bits are within the bounds
pub within-row : (low high u : ℕ) → high < 2 ^ 31 → low ≤ u → u ≤ high → within low high (signed_of integer4 u) ≡ true
within-row low high u k l h = rw (within-bits integer4 low high u k, le-leb low u l, le-leb u high h)

-- a number of eight bytes below half the range passes the test
pub at_least-row : (low u : ℕ) → low ≤ u → u < 2 ^ 63 → at_least low (signed_of integer8 u) ≡ true
at_least-row low u l h = rw (at_least-bits integer8 low u, le-leb low u l, lt-ltb u (2 ^ 63) h)
