-- `entry::rules::head_refusal` meets its contract: each test is a row of the table, in its order. Assumes nothing.
use Rattle.std.proofs.Common.{◌≡◌, ℕ, ◌+◌, List, [], ◌∷◌, refl, sym, ◌∙◌, arith}
use borrow.Author.Tests.{le-leb, lt-leb, eq-eqb, ne_eqb}
use lib.Dec.{leb, eqb}
use mir.Syntax.{w32, w64}
use Rattle.words.specs.Word.{integer4, integer8, signed_of}
use Rattle.words.specs.Range.{within, at_least}
use Rattle.words.specs.Code.{same_numbers}
use Rattle.words.proofs.Ranges.{within-bounds, at_least-bounds}
use Rattle.geometry.specs.declared.units.EntryNumber.{EntryNumber}
use Rattle.descriptor.specs.declared.numbers.DescriptorNumbers.{DescriptorNumbers}
use Rattle.descriptor.specs.Refusal.{Rule, row, refusal_in}
use Rattle.descriptor.specs.FirstRecord.{free_of}
use Rattle.layout.specs.EntryWords.{entry_code, descriptor_words}
use Rattle.pieces.specs.EntryDescriptor.{entry_code_of, head_at}
use Rattle.pieces.specs.declared.head.Head.{Head}
use Rattle.entry.specs.Opening.{head_refusal}
use Rattle.entry.proofs.rules.head_refusal.Goals as goal

-- the table by the numbers that were read
abbrev rows : List ℕ → DescriptorNumbers → ℕ → EntryNumber → Head → List Rule
rows file d start e h =
    row 14 (same_numbers (entry_code_of file start) entry_code) ∷
    row 15 (within 0 64 (signed_of integer4 h.nsec)) ∷
    row 15 (at_least (descriptor_words h.nsec) (signed_of integer8 h.nword)) ∷
    row 15 (leb (start + h.nword) (free_of d)) ∷
    row 16 (eqb h.xnum.0 e.0) ∷
    []

-- which are those of the entry
read : (file : List ℕ) (d : DescriptorNumbers) (start : ℕ) (e : EntryNumber) (h : Head) → h ≡ head_at file start → refusal_in (rows file d start e h) ≡ head_refusal file d start e
unfolding head_refusal
read file d start e h q = rw q refl

pub returns-then-not-code_at : goal.returns-then-not-code_at
unfolding entry_code_of
returns-then-not-code_at c =
    let a = c.args in
    let code = rw (c.byte_offset-at.ensures, c.entry_position.ensures) at c.if-not-code_at.ensures in
    let t : 14 ≡ refusal_in (rows a.file.now a.d a.start a.number a.head) = rw (sym code) in
    t ∙ read _ _ _ _ _ c.requires.4

pub returns-then-not-within : goal.returns-then-not-within
unfolding entry_code_of
returns-then-not-within c =
    let a = c.args in
    let code = rw (c.byte_offset-at.ensures, c.entry_position.ensures) at c.if-not-code_at.ensures in
    let t : 15 ≡ refusal_in (rows a.file.now a.d a.start a.number a.head) = rw (sym code, sym c.if-not-within.ensures) in
    t ∙ read _ _ _ _ _ c.requires.4

pub descriptor_words-requires : goal.descriptor_words-requires
descriptor_words-requires c = (within-bounds w32 0 64 c.args.head.nsec (omega arith) (sym c.if-not-within.ensures)).1

pub returns-then-not-at_least : goal.returns-then-not-at_least
unfolding entry_code_of
returns-then-not-at_least c =
    let a = c.args in
    let code = rw (c.byte_offset-at.ensures, c.entry_position.ensures) at c.if-not-code_at.ensures in
    let long = rw c.descriptor_words.ensures at c.if-not-at_least.ensures in
    let t : 15 ≡ refusal_in (rows a.file.now a.d a.start a.number a.head) = rw (sym code, sym c.if-not-within.ensures, sym long) in
    t ∙ read _ _ _ _ _ c.requires.4

pub overflow_add-start : goal.overflow_add-start
overflow_add-start c = omega (arith, at_least-bounds w64 c.descriptor_words.result c.args.head.nword (sym c.if-not-at_least.ensures), c.requires.2, c.requires.3)

pub returns-then-free_position-start : goal.returns-then-free_position-start
unfolding entry_code_of
returns-then-free_position-start c =
    let a = c.args in
    let code = rw (c.byte_offset-at.ensures, c.entry_position.ensures) at c.if-not-code_at.ensures in
    let long = rw c.descriptor_words.ensures at c.if-not-at_least.ensures in
    let ends = lt-leb (a.start + a.head.nword) (free_of a.d) (omega (arith, c.free_position.ensures)) in
    let t : 15 ≡ refusal_in (rows a.file.now a.d a.start a.number a.head) = rw (sym code, sym c.if-not-within.ensures, sym long, ends) in
    t ∙ read _ _ _ _ _ c.requires.4

pub returns-then-xnum-number : goal.returns-then-xnum-number
unfolding entry_code_of
returns-then-xnum-number c =
    let a = c.args in
    let code = rw (c.byte_offset-at.ensures, c.entry_position.ensures) at c.if-not-code_at.ensures in
    let long = rw c.descriptor_words.ensures at c.if-not-at_least.ensures in
    let ends = le-leb (a.start + a.head.nword) (free_of a.d) (omega (arith, c.free_position.ensures)) in
    let t : 16 ≡ refusal_in (rows a.file.now a.d a.start a.number a.head) = rw (sym code, sym c.if-not-within.ensures, sym long, ends, ne_eqb _ _ c.if-xnum-number.true) in
    t ∙ read _ _ _ _ _ c.requires.4

pub returns : goal.returns
unfolding entry_code_of
returns c =
    let a = c.args in
    let code = rw (c.byte_offset-at.ensures, c.entry_position.ensures) at c.if-not-code_at.ensures in
    let long = rw c.descriptor_words.ensures at c.if-not-at_least.ensures in
    let ends = le-leb (a.start + a.head.nword) (free_of a.d) (omega (arith, c.free_position.ensures)) in
    let t : 0 ≡ refusal_in (rows a.file.now a.d a.start a.number a.head) = rw (sym code, sym c.if-not-within.ensures, sym long, ends, eq-eqb _ _ c.if-xnum-number.false) in
    t ∙ read _ _ _ _ _ c.requires.4
