-- The lines of a listing: the header, each row and what is said of an input over the limit are one line each. So a buffer that holds a listing has a line for the
-- header and one for each entry. Assumes nothing.
use Prim.Native.Nat.{ℕ, zero, suc, ◌+◌, ◌/◌, ◌%◌, ◌≤◌}
use mathlib.Core.Path.{◌≡◌, refl, sym, ap, subst, ◌∙◌}
use mathlib.Core.List.{List, [], ◌∷◌, ◌++◌, append_assoc, append-nil}
use native.Mathlib.Omega.{arith}
use native.Mathlib.Nat.{zero-add}
use borrow.Author.Tests.{ne_eqb}
use lib.Dec.{ltb, eqb}
use lib.ListN.{length, take, drop}
use lib.Seq.{take-append_seam, drop-append_seam}
use Rattle.image.specs.Image.{splice}
use Rattle.image.proofs.Splice.{splice_cut}
use Rattle.geometry.specs.declared.units.RecordNumber.{RecordNumber}
use Rattle.descriptor.specs.declared.numbers.DescriptorNumbers.{DescriptorNumbers}
use Rattle.descriptor.specs.Rules.{file_refusal}
use Rattle.descriptor.proofs.Answered.{answer-numbers}
use Rattle.entry.specs.Entered.{Entered}
use Rattle.entry.specs.Opening.{entered_of}
use Rattle.outcome.proofs.Either.{either}
use Rattle.listing.specs.Text.{text, space, newline, decimal_in, decimal_of, field_of, joined}
use Rattle.listing.specs.Listing.{header, refused_of, opened_row, refused_row, row_of, rows_from, entries_listing, listing_in, listing_of, over_limit}
use Rattle.listing.specs.Lines.{lines_in, OneLine, AllLines, listing_lines, LeavesLines}

-- ---- lines end to end

lines-append : (xs ys : List ℕ) → lines_in (xs ++ ys) ≡ lines_in xs + lines_in ys
lines-append [] ys = omega arith
lines-append (x ∷ xs) ys =
    let rest = lines-append xs ys in
    either (eqb x newline) (λ q. rw q (omega arith)) (λ q. rw q rest)

-- text with no newline before a line belongs to the line
line-behind : (xs ys : List ℕ) → lines_in xs ≡ 0 → OneLine ys → OneLine (xs ++ ys)
line-behind xs ys none line = record {
  text = xs ++ line.text;
  ended = ap (λ (l : List ℕ). xs ++ l) line.ended ∙ sym (append_assoc xs line.text (newline ∷ []));
  plain = lines-append xs line.text ∙ omega (arith, none, line.plain);
}

lines-joined : (lines : List (List ℕ)) → AllLines lines → lines_in (joined lines) ≡ length lines
lines-joined [] all = refl
lines-joined (line ∷ lines) all =
    let one : lines_in line ≡ 1 =
    ap lines_in all.0.ended ∙ lines-append all.0.text (newline ∷ []) ∙ omega (arith, all.0.plain) in
    lines-append line (joined lines) ∙ omega (arith, one, lines-joined lines all.1)

-- ---- what a line is made of

plain-digit : (m : ℕ) → lines_in ((48 + m) ∷ []) ≡ 0
plain-digit m = rw (ne_eqb (48 + m) newline (λ (e : 48 + m ≡ 10). omega arith))

plain-decimal : (k n : ℕ) → lines_in (decimal_in k n) ≡ 0
unfolding decimal_in
plain-decimal zero n = refl
plain-decimal (suc k) n =
    either (ltb n 10)
    (λ q. rw q (plain-digit n))
    (λ q. rw q (lines-append (decimal_in k (n / 10)) ((48 + n % 10) ∷ []) ∙ omega (arith, plain-decimal k (n / 10), plain-digit (n % 10))))

-- so does a field with a space behind it
field-behind : (n : ℕ) {ys : List ℕ} → OneLine ys → OneLine (field_of n space ++ ys)
unfolding field_of decimal_of
field-behind n {ys} line = line-behind (field_of n space) ys (lines-append (decimal_of n) (space ∷ []) ∙ omega (arith, plain-decimal 20 n)) line

last-field : (n : ℕ) → OneLine (field_of n newline)
unfolding field_of decimal_of
last-field n = record { text = decimal_of n; ended = refl; plain = plain-decimal 20 n }

refused-line : (n : ℕ) → OneLine (refused_of n)
unfolding refused_of
refused-line n = line-behind (text " refused ") (field_of n newline) refl (last-field n)

-- ---- the lines of a listing

-- the header is a line
header-line : OneLine header
unfolding header
header-line = record { text = text "entry record word words sections data"; ended = refl; plain = refl }

-- so is what is said of an input over the limit
pub over-line : OneLine over_limit
unfolding over_limit
over-line = record { text = text "input over 65536 bytes"; ended = refl; plain = refl }

opened-line : (e : ℕ) (x : Entered) → OneLine (opened_row e x)
unfolding opened_row
opened-line e x =
    let last = field_of x.array.words newline in
    field-behind e (field-behind x.place.«record».0 (field-behind x.place.word.0 (field-behind x.nword (field-behind x.nsec
    (subst OneLine (sym (append-nil last)) (last-field x.array.words))))))

-- a row has one newline, at its end
row_line : (e : ℕ) (x : Entered) → OneLine (row_of e x)
unfolding row_of refused_row decimal_of
row_line e x =
    either (eqb x.refusal 0)
    (λ q. rw q (opened-line e x))
    (λ q. rw q (line-behind (decimal_of e) (refused_of x.refusal) (plain-decimal 20 e) (refused-line x.refusal)))

rows-lines : (file : List ℕ) (d : DescriptorNumbers) (addresses : List RecordNumber) (k left : ℕ) → AllLines (rows_from file d addresses k left)
unfolding rows_from
rows-lines file d addresses k zero = tt
rows-lines file d addresses k (suc left) = (row_line k (entered_of file d addresses (record { 0 = k })), rows-lines file d addresses (k + 1) left)

-- the lines of a listing are lines
pub listing-each : (file : List ℕ) → AllLines (listing_lines file)
listing-each file = (header-line, rows-lines file _ _ 1 _)

-- and end to end they are the listing of an admitted file
pub listing-joined : (file : List ℕ) → file_refusal file ≡ 0 → listing_of file ≡ joined (listing_lines file)
unfolding listing_of listing_in entries_listing
listing-joined file z = rw (answer-numbers file z)

-- ---- a lent buffer

-- bytes that are lines end to end, written from its start on
pub leaves_lines : (lines : List (List ℕ)) → AllLines lines → (bytes out : List ℕ) (answer : ℕ) (after : List ℕ) → bytes ≡ joined lines → length bytes ≤ length out
    → answer ≡ length bytes → after ≡ splice out 0 bytes → LeavesLines lines out answer after
leaves_lines lines all bytes out answer after b l e f =
    let filled : after ≡ bytes ++ drop (length bytes) out = f ∙ rw zero-add at (splice_cut out 0 bytes (omega arith)) in
    let printed : take answer after ≡ joined lines = rw (e, filled) (take-append_seam bytes (drop (length bytes) out) ∙ b) in
    record {
      each = all;
      counted = e ∙ ap length b;
      printed = printed;
      count = ap lines_in printed ∙ lines-joined lines all;
      behind = rw (e, filled) (drop-append_seam bytes (drop (length bytes) out));
    }
