-- Worked examples: the decimal digits of some numbers, the least and the largest of 64 bits among them, and the lines of 01. Assumes nothing.
use mathlib.Core.Path.{◌≡◌, refl}
use lib.IntN.{pos}
use Rattle.entry.specs.Entered.{Entered}
use Rattle.listing.specs.Text.{text, decimal_in, decimal_of, field_of}
use Rattle.listing.specs.Listing.{refused_of, opened_row, refused_row, refused_file}

-- the digits of some numbers
pub record Digits : Type 0 where
  pub zero : decimal_of 0 ≡ text "0"
  pub seven : decimal_of 7 ≡ text "7"
  pub ten : decimal_of 10 ≡ text "10"
  pub limit : decimal_of 65536 ≡ text "65536"
  pub largest : decimal_of 18446744073709551615 ≡ text "18446744073709551615"

-- they are as expected
pub digits : Digits
unfolding decimal_of decimal_in
digits = record { zero = refl; seven = refl; ten = refl; limit = refl; largest = refl }

-- entry 1 of file A: at record 3 word 1, of 24 words with one section and 5 data words
abbrev pub first : Entered
first = record {
  refusal = 0;
  place = record { «record» = record { 0 = 3 }; word = record { 0 = 1 } };
  start = 40;
  version = pos 1;
  nsec = 1;
  nword = 24;
  array = record { address = record { 0 = 20 }; words = 5 };
}

-- the lines of 01
pub record Printed : Type 0 where
  pub opened : opened_row 1 first ≡ text "1 3 1 24 1 5\n"
  pub refused : refused_row 2 14 ≡ text "2 refused 14\n"
  pub file : refused_file 1 ≡ text "file refused 1\n"

-- they are as expected
pub printed : Printed
unfolding opened_row refused_row refused_file refused_of field_of decimal_of decimal_in
printed = record { opened = refl; refused = refl; file = refl }
