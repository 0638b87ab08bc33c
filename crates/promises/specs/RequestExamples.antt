-- Cases of the requests of 02, worked by hand, a table for each request. A row has the number of its request, what the definitions give, and what 02 says or the rules give by hand.
use Rattle.std.specs.Prelude.{ℕ, ◌+◌, ◌*◌, ◌-◌, ◌/◌, ◌^◌, Bool, true, false, cond, ◌||◌, List, [], ◌∷◌, ◌++◌, map, ℤ, pos, neg_ℤ, length, get_or, set, take, drop, replicate}
use Rattle.image.specs.Image.{splice}
use Rattle.image.specs.Writes.{Write, put}
use Rattle.geometry.specs.declared.units.RecordNumber.{RecordNumber}
use Rattle.geometry.specs.Units.{place_of, offset_of, record_numbers}
use Rattle.geometry.specs.Growth.{growth_of, capacity_of}
use Rattle.descriptor.specs.declared.numbers.DescriptorNumbers.{DescriptorNumbers}
use Rattle.descriptor.specs.FirstRecord.{numbers_of}
use Rattle.descriptor.specs.Rules.{file_refusal}
use Rattle.descriptor.specs.Answers.{validation_of, no_validation}
use Rattle.entry.specs.Answers.{open_of, open_case}
use Rattle.handing.specs.Parts.{section_words_of, data_words_of, bytes_of, no_part}
use Rattle.storing.specs.Handed.{Handed, handed_in}
use Rattle.writer.specs.Creation.{creation_refusal, created_file}
use Rattle.writer.specs.Answers.{append_of, file_after}
use Rattle.batch.specs.declared.answers.Batched.{Batched}
use Rattle.batch.specs.Batch.{Batch, laid_in, batch_in, entries_in}
use Rattle.batch.specs.Answers.{batch_of, file_after_batch}
use Rattle.update.specs.Answers.{Update, update_in, update_of, file_after_update}
use Rattle.held.specs.declared.answers.OpenFile.{OpenFile}
use Rattle.geometry.specs.Totals.{totals_of}
use Rattle.held.specs.Record.{open_file_of}
use Rattle.held.specs.Rules.{fields_of, held_refusal}
use Rattle.through.specs.Answers.{append_through, batch_through, update_through}
use Rattle.promises.specs.Contents.{numbers_in, opened_in, found, section_found}
use Rattle.promises.specs.Calls.{following}
use Rattle.promises.specs.WrittenOnce.{writes_of, times_written}
use Rattle.promises.specs.Room.{EntryPlace, may_extend, admissible, place_in}
use Rattle.promises.specs.FileA.{settings_in, settings, lent, append1, append2, append3, created, after1, after2, A, big_a, two_sections}
use Rattle.promises.specs.ByHand.{words_at, word, two_words, little, big, zero_words, first_record, entry_head, slot}
use Rattle.promises.specs.Examples.{Row, entry, aex, at, identifier_first, opens_at, filled, numbers_refusal, image_with}
use Rattle.promises.specs.Examples.Row.{Q}

-- ---- for several requests

-- a file with another byte at an offset
abbrev pub with_byte : List ℕ → ℕ → ℕ → List ℕ
with_byte file at byte = splice file at (byte ∷ [])

-- ---- Q-1

-- a row of an entry with so many index bytes, and nothing else
abbrev pub index_row : ℕ → List ℕ
index_row n = n ∷ 0 ∷ 0 ∷ 0 ∷ 0 ∷ []

-- a row of an entry with so many data bytes, and nothing else
abbrev pub data_row : ℕ → List ℕ
data_row n = 0 ∷ 0 ∷ 0 ∷ 0 ∷ n ∷ []

-- a batch with a version 1 for each row, and so many index bytes, 1, 2, and on
abbrev pub batch_with : List (List ℕ) → ℕ → Batch
batch_with rows bytes = batch_in (map (λ counts. pos 1) rows) rows (laid_in (following 0 bytes) [] [] [] [])

-- the three appends of file A in one batch
abbrev pub batch_a : Batch
batch_a =
    batch_in (pos 1 ∷ pos 1 ∷ pos 1 ∷ []) ((4 ∷ 1 ∷ 1 ∷ 12 ∷ 20 ∷ []) ∷ index_row 4 ∷ index_row 4 ∷ [])
    (laid_in (following 200 4 ++ following 210 4 ++ following 220 4) (pos 7 ∷ []) (pos 3 ∷ []) (following 0 12) (following 100 20))

-- an answer: so many accepted, and the refusal behind them
abbrev pub ends : ℕ → ℕ → Batched
ends accepted refusal = record { refusal = refusal; accepted = accepted }

-- its rows: a batch
unfoldable pub batch_examples : List Row
batch_examples =
    -- no entries and nothing laid: 0 and 0 over 10 bytes, which stay; with a byte left, or a row, or a version: 26
    Q 1 (batch_of (following 0 10) (batch_with [] 0)) (ends 0 0) ∷
    Q 1 (file_after_batch (following 0 10) (batch_with [] 0)) (following 0 10) ∷
    Q 1 (batch_of (following 0 10) (batch_with [] 1)) (ends 0 26) ∷
    Q 1 (batch_of (following 0 10) (batch_in [] (index_row 0 ∷ []) (laid_in [] [] [] [] []))) (ends 0 26) ∷
    Q 1 (batch_of (following 0 10) (batch_in (pos 1 ∷ []) [] (laid_in [] [] [] [] []))) (ends 0 26) ∷
    -- an entry over 10 bytes: 1, by the first entry; 65 of them: 26, and with 64 it is 1
    Q 1 (batch_of (following 0 10) (batch_with (index_row 0 ∷ []) 0)) (ends 0 1) ∷
    Q 1 (batch_of (following 0 10) (batch_with (replicate 65 (index_row 0)) 0)) (ends 0 26) ∷
    Q 1 (batch_of (following 0 10) (batch_with (replicate 64 (index_row 0)) 0)) (ends 0 1) ∷
    -- lind 4 asks for 4 index bytes. Counts 4 and 8: the first is accepted, the second gives 21, and the file is that after the first
    Q 1 (batch_of (created 6) (batch_with (index_row 4 ∷ index_row 8 ∷ []) 12)) (ends 1 21) ∷
    Q 1 (file_after_batch (created 6) (batch_with (index_row 4 ∷ index_row 8 ∷ []) 12)) (file_after (created 6) (handed_in (pos 1) (following 0 4) [] [] [] [])) ∷
    -- counts 8 and 0 of 8 bytes: the first gives 21, and nothing is written
    Q 1 (batch_of (created 6) (batch_with (index_row 8 ∷ index_row 0 ∷ []) 8)) (ends 0 21) ∷
    Q 1 (file_after_batch (created 6) (batch_with (index_row 8 ∷ index_row 0 ∷ []) 8)) (created 6) ∷
    -- counts that do not use up the index bytes, by one more and by one less: 26, and nothing is written
    Q 1 (batch_of (created 6) (batch_with (index_row 4 ∷ index_row 5 ∷ []) 8)) (ends 0 26) ∷
    Q 1 (batch_of (created 6) (batch_with (index_row 4 ∷ index_row 4 ∷ []) 9)) (ends 0 26) ∷
    Q 1 (file_after_batch (created 6) (batch_with (index_row 4 ∷ index_row 4 ∷ []) 9)) (created 6) ∷
    -- counts whose sum is 2^64, and no bytes: 26
    Q 1 (batch_of (created 6) (batch_with (data_row (2 ^ 63) ∷ data_row (2 ^ 63) ∷ []) 0)) (ends 0 26) ∷
    Q 1 (batch_of (created 6) (batch_with (data_row (2 ^ 64 - 1) ∷ data_row 1 ∷ []) 0)) (ends 0 26) ∷
    -- the three appends of A in one batch: its entries are what they hand in, all are accepted, and the first record is A's
    Q 1 (entries_in batch_a) (append1 ∷ append2 ∷ append3 ∷ []) ∷
    Q 1 (batch_of (created 6) batch_a) (ends 3 0) ∷
    Q 1 (words_at (file_after_batch (created 6) batch_a) 1 1 20) (first_record little 4 6 12 2 2 5) ∷
    -- with 5 records the third gives 24, and the first record is that after the second
    Q 1 (batch_of (created 5) batch_a) (ends 2 24) ∷
    Q 1 (words_at (file_after_batch (created 5) batch_a) 1 1 20) (first_record little 3 4 16 1 2 0) ∷
    []

-- ---- Q-2

-- with lex1 1 and gex 15 the areas of 1, 1, 2, 3 and 5 entries take a record of 46 words each
abbrev pub five_areas : List RecordNumber
five_areas = aex 2 ∷ aex 3 ∷ aex 4 ∷ aex 5 ∷ aex 6 ∷ []

-- the five hold 12 entries
abbrev pub slow : ℕ → DescriptorNumbers
slow xnext = filled (settings 46 4 1 15) xnext 7 5

-- with lex1 1 and gex 20 the areas of 1, 2, 4 to 16,384 entries take 1, 1, 1, 1, 2, 3, 6, 12, 23, 45, 90, 179, 357, 713 and 1,425 records
abbrev pub fifteen_areas : List RecordNumber
fifteen_areas =
    aex 2 ∷ aex 3 ∷ aex 4 ∷ aex 5 ∷ aex 6 ∷ aex 8 ∷ aex 11 ∷ aex 17 ∷ aex 29 ∷ aex 52 ∷ aex 97 ∷ aex 187 ∷ aex 366 ∷ aex 723 ∷ aex 1436 ∷ []

-- the fifteen hold 32,767 entries
abbrev pub doubling : ℕ → DescriptorNumbers
doubling nex = filled (settings 46 4 1 20) 32768 2861 nex

-- with lex1 2 and gex 18 the areas of 2, 3, 6, 11, 20, 37, 68, 122, 220, 396, 714, 1,285, 2,313, 4,164, 7,496 and 13,493 entries
-- take 1, 1, 1, 1, 2, 4, 6, 11, 20, 35, 63, 112, 202, 363, 652 and 1,174 records
abbrev pub sixteen_areas : List RecordNumber
sixteen_areas =
    aex 2 ∷ aex 3 ∷ aex 4 ∷ aex 5 ∷ aex 6 ∷ aex 8 ∷ aex 12 ∷ aex 18 ∷ aex 29 ∷ aex 49 ∷ aex 84 ∷ aex 147 ∷ aex 259 ∷ aex 461 ∷ aex 824 ∷ aex 1476 ∷ []

-- the sixteen hold 30,350 entries
abbrev pub sixteen : DescriptorNumbers
sixteen = filled (settings 46 4 2 18) 30351 2650 16

-- its rows: the capacities of extensions
unfoldable pub growth_examples : List Row
growth_examples =
    -- lex1 1, gex 15: 1, 1, 2, 3, 5
    Q 2 (map (capacity_of (growth_of 1 15)) (1 ∷ 2 ∷ 3 ∷ 4 ∷ 5 ∷ [])) (1 ∷ 1 ∷ 2 ∷ 3 ∷ 5 ∷ []) ∷
    -- so five extensions fit 12 entries, and not 13
    Q 2 (numbers_refusal (offset_of (46 * 6)) (slow 13) five_areas) 0 ∷
    Q 2 (numbers_refusal (offset_of (46 * 6)) (slow 14) five_areas) 9 ∷
    -- lex1 1, gex 20: extension 16 is 32,768, so nex 15 is admitted and nex 16 gives 8
    Q 2 (capacity_of (growth_of 1 20) 16) 32768 ∷
    Q 2 (numbers_refusal (offset_of (46 * 2860)) (doubling 15) fifteen_areas) 0 ∷
    Q 2 (numbers_refusal (offset_of (46 * 2860)) (doubling 16) fifteen_areas) 8 ∷
    -- lex1 2, gex 18: extension 16 is 13,493 and is admitted
    Q 2 (capacity_of (growth_of 2 18) 16) 13493 ∷
    Q 2 (numbers_refusal (offset_of (46 * 2649)) sixteen sixteen_areas) 0 ∷
    []

-- ---- Q-3

-- new content of so many bytes, 231, 232, and on, for section 7 of entry 1
abbrev pub rewriting : ℕ → Update
rewriting bytes = update_in (entry 1) (pos 7) (following 230 bytes)

-- the file of two sections, at record 4, word 2, with identifier 7 for both: that of the second is word 13 of the entry, which starts at record 3
abbrev pub seven_twice : List ℕ
seven_twice = with_byte two_sections (4 * (2 * 20 + 12)) 7

-- its rows: an update of a section
unfoldable pub update_examples : List Row
update_examples =
    -- section 7 of A, 3 words at record 3, word 17, is rewritten with 1 word and hands it out, with two words of zeros behind it
    Q 3 (update_of A (rewriting 4)) 0 ∷
    Q 3 (section_found (file_after_update A (rewriting 4)) (entry 1) (pos 7)) (found (following 230 4 ++ zero_words 2)) ∷
    -- the data stands behind it as before, and so do the head and the tables before it, the length field 3 among them, and the first record
    Q 3 (words_at (file_after_update A (rewriting 4)) 3 17 8) (following 230 4 ++ zero_words 2 ++ following 100 20) ∷
    Q 3 (words_at (file_after_update A (rewriting 4)) 3 1 16) (entry_head little 1 1 24 20 5 1 ++ word 7 ++ two_words 3 ++ two_words 17) ∷
    Q 3 (words_at (file_after_update A (rewriting 4)) 1 1 20) (first_record little 4 6 12 2 2 5) ∷
    -- with 3 words, which fit exactly; and then with 1 word again
    Q 3 (update_of A (rewriting 12)) 0 ∷
    Q 3 (words_at (file_after_update A (rewriting 12)) 3 17 8) (following 230 12 ++ following 100 20) ∷
    Q 3 (words_at (file_after_update (file_after_update A (rewriting 12)) (rewriting 4)) 3 17 8) (following 230 4 ++ zero_words 2 ++ following 100 20) ∷
    -- with 4 words: 28, and section and data are as they were; with none, and with 5 bytes: 28
    Q 3 (update_of A (rewriting 16)) 28 ∷
    Q 3 (words_at (file_after_update A (rewriting 16)) 3 17 8) (following 0 12 ++ following 100 20) ∷
    Q 3 (update_of A (rewriting 0)) 28 ∷
    Q 3 (update_of A (rewriting 5)) 28 ∷
    -- a missing identifier: 20, also with empty content; entry 2 has no section
    Q 3 (update_of A (update_in (entry 1) (pos 8) (following 230 4))) 20 ∷
    Q 3 (update_of A (update_in (entry 1) (pos 8) [])) 20 ∷
    Q 3 (update_of A (update_in (entry 2) (pos 7) [])) 20 ∷
    -- no entry 4: 12
    Q 3 (update_of A (update_in (entry 4) (pos 7) [])) 12 ∷
    -- of two sections with the identifier the first is rewritten, and its space is that of the first
    Q 3 (update_of seven_twice (rewriting 16)) 28 ∷
    Q 3 (words_at (file_after_update seven_twice (rewriting 4)) 4 2 4) (following 230 4 ++ zero_words 2 ++ following 12 4) ∷
    -- in the big order the content is not turned
    Q 3 (words_at (file_after_update big_a (rewriting 4)) 3 17 8) (following 230 4 ++ zero_words 2 ++ following 100 20) ∷
    []

-- ---- Q-4

-- a first entry in a new file of an order, with version 0x01020304 and a section of identifier -2 and one word, of bytes 1 to 4
abbrev pub full_words : ℤ → List ℕ
full_words order =
    file_after (created_file (lent 6) (settings_in order 20 4 2 20)) (handed_in (pos 0x01020304) (following 200 4) (neg_ℤ (pos 2) ∷ []) (pos 1 ∷ []) (following 0 4) [])

-- a file with another second byte in its code
abbrev pub recoded : List ℕ → ℕ → List ℕ
recoded file byte = with_byte file 1 byte

-- its rows: the byte orders
unfoldable pub order_examples : List Row
order_examples =
    -- validating gives the order: 0 for A, 1 for A in the big order
    Q 4 (numbers_in A).order.0 0 ∷
    Q 4 (numbers_in big_a).order.0 1 ∷
    -- the first record of A in the big order: every field, the code being 32 42 20 20; and xnext, words 7 and 8, byte by byte
    Q 4 (words_at big_a 1 1 20) (first_record big 4 6 12 2 2 5) ∷
    Q 4 (words_at big_a 1 7 2) (0 ∷ 0 ∷ 0 ∷ 0 ∷ 0 ∷ 0 ∷ 0 ∷ 4 ∷ []) ∷
    -- the index of entry 1, byte by byte: record 3, word 1, and the application's word, which is not turned; those of entries 2 and 3
    Q 4 (words_at big_a 2 1 4) (0 ∷ 0 ∷ 0 ∷ 0 ∷ 0 ∷ 0 ∷ 0 ∷ 3 ∷ 0 ∷ 0 ∷ 0 ∷ 1 ∷ 201 ∷ 202 ∷ 203 ∷ 204 ∷ []) ∷
    Q 4 (words_at big_a 2 5 4) (slot big 4 5 (following 210 4)) ∷
    Q 4 (words_at big_a 5 1 4) (slot big 6 1 (following 220 4)) ∷
    -- entry 1: its head and tables, and the section and the data, which are not turned
    Q 4 (words_at big_a 3 1 16) (entry_head big 1 1 24 20 5 1 ++ big.word 7 ++ big.two_words 3 ++ big.two_words 17) ∷
    Q 4 (words_at big_a 3 17 8) (following 0 12 ++ following 100 20) ∷
    -- it opens as in A, and hands out the same bytes
    Q 4 (open_of big_a (entry 1)).answer (opens_at (at 3 1) 1 1 24 20 5) ∷
    Q 4 (bytes_of big_a (section_words_of big_a (entry 1) (pos 7))) (following 0 12) ∷
    Q 4 (bytes_of big_a (data_words_of big_a (entry 1))) (following 100 20) ∷
    -- version and identifier with four bytes of their own: 01 02 03 04, and -2, which is FF FF FF FE; in the little order from the other end
    Q 4 (words_at (full_words (pos 1)) 3 2 1) (1 ∷ 2 ∷ 3 ∷ 4 ∷ []) ∷
    Q 4 (words_at (full_words (pos 1)) 3 12 1) (0xFF ∷ 0xFF ∷ 0xFF ∷ 0xFE ∷ []) ∷
    Q 4 (words_at (full_words (pos 1)) 3 17 1) (1 ∷ 2 ∷ 3 ∷ 4 ∷ []) ∷
    Q 4 (words_at (full_words (pos 0)) 3 2 1) (4 ∷ 3 ∷ 2 ∷ 1 ∷ []) ∷
    Q 4 (words_at (full_words (pos 0)) 3 12 1) (0xFE ∷ 0xFF ∷ 0xFF ∷ 0xFF ∷ []) ∷
    Q 4 (words_at (full_words (pos 0)) 3 17 1) (1 ∷ 2 ∷ 3 ∷ 4 ∷ []) ∷
    Q 4 (opened_in (full_words (pos 1)) (entry 1)).version (pos 0x01020304) ∷
    Q 4 (identifier_first (full_words (pos 1)) 1) (neg_ℤ (pos 2)) ∷
    -- neither code gives 2; under the little code the big reclen is 2^28 + 2^26, which gives 3
    Q 4 (file_refusal (recoded big_a 0x43)) 2 ∷
    Q 4 (file_refusal (recoded big_a 0x41)) 3 ∷
    Q 4 (file_refusal (recoded A 0x42)) 3 ∷
    -- creation: orders 0 and 1 are admitted, 2 and -1 are not, after 1 and before 3
    Q 4 (creation_refusal 480 (settings_in (pos 1) 20 4 2 20)) 0 ∷
    Q 4 (creation_refusal 480 (settings_in (pos 2) 20 4 2 20)) 2 ∷
    Q 4 (creation_refusal 480 (settings_in (neg_ℤ (pos 1)) 20 4 2 20)) 2 ∷
    Q 4 (creation_refusal 63 (settings_in (pos 2) 20 4 2 20)) 1 ∷
    Q 4 (creation_refusal 480 (settings_in (pos 2) 15 4 2 20)) 2 ∷
    []

-- ---- Q-5

-- the 44 numbers of a record, in the order of the header
abbrev pub all_fields : OpenFile → List ℕ
all_fields x = fields_of x.numbers ++ record_numbers x.addresses ++ x.totals

-- the record that has these 44 numbers
abbrev pub record_of : List ℕ → OpenFile
record_of fields = record {
  numbers = record {
    order = record { 0 = get_or fields 0 0 };
    reclen = get_or fields 1 0;
    kind = get_or fields 2 0;
    vind = get_or fields 3 0;
    lind = get_or fields 4 0;
    flags = get_or fields 5 0;
    xnext = record { 0 = get_or fields 6 0 };
    nextrec = record { 0 = get_or fields 7 0 };
    nextword = record { 0 = get_or fields 8 0 };
    lex1 = get_or fields 9 0;
    nex = get_or fields 10 0;
    gex = get_or fields 11 0;
  };
  addresses = map aex (take 16 (drop 12 fields));
  totals = drop 28 fields;
}

-- a record of a file with the settings of A, of an order: xnext, nextrec, nextword, nex; the first two addresses, and the first two totals
abbrev pub record_like_a : ℕ → ℕ → ℕ → ℕ → ℕ → ℕ → ℕ → ℕ → ℕ → OpenFile
record_like_a order xnext nextrec nextword nex aex1 aex2 total1 total2 =
    record_of ((order ∷ 20 ∷ 1 ∷ 2 ∷ 4 ∷ 0 ∷ xnext ∷ nextrec ∷ nextword ∷ 2 ∷ nex ∷ 20 ∷ []) ++ (aex1 ∷ aex2 ∷ replicate 14 0) ++ (total1 ∷ total2 ∷ replicate 14 0))

-- the record of A as it is created, after append (2), and after append (3): the first extension holds 2 entries, the second 4
abbrev pub record0 : OpenFile
record0 = record_like_a 0 1 2 1 0 0 0 0 0

abbrev pub record2 : OpenFile
record2 = record_like_a 0 3 4 16 1 2 0 2 0

abbrev pub record_a : OpenFile
record_a = record_like_a 0 4 6 12 2 2 5 2 6

-- the record of A with the field at a place, counted from 0, one larger
abbrev pub altered : ℕ → OpenFile
altered i = let fields = all_fields record_a in record_of (set fields i (get_or fields i 0 + 1))

-- every place of a field
abbrev pub each_field : List ℕ
each_field = 0 ∷ following 0 43

-- its rows: the record of an open file
unfoldable pub record_examples : List Row
record_examples =
    -- A's record: totals 2, 6, and zeros. In the big order the same but for the order; as created no totals; of 10 bytes 1, and zeros
    Q 5 (open_file_of A) (record { refusal = 0; file = record_a }) ∷
    Q 5 (open_file_of big_a).file (record_like_a 1 4 6 12 2 2 5 2 6) ∷
    Q 5 (open_file_of (created 6)).file record0 ∷
    Q 5 (open_file_of (following 0 10)) (record { refusal = 1; file = record_of (replicate 44 0) }) ∷
    -- lex1 2, gex 18: the totals of the sixteen capacities of Q-2
    Q 5 (totals_of (growth_of 2 18) 16) (2 ∷ 5 ∷ 11 ∷ 22 ∷ 42 ∷ 79 ∷ 147 ∷ 269 ∷ 489 ∷ 885 ∷ 1599 ∷ 2884 ∷ 5197 ∷ 9361 ∷ 16857 ∷ 30350 ∷ []) ∷
    -- A's record is true of A. Each single field altered gives 27: to an append, a batch without entries and an update
    Q 5 (held_refusal A record_a) 0 ∷
    Q 5 (map (λ i. (append_through A (altered i) append3).answer.refusal) each_field) (replicate 44 27) ∷
    Q 5 (map (λ i. (batch_through A (altered i) (batch_with [] 0)).answer.refusal) each_field) (replicate 44 27) ∷
    Q 5 (map (λ i. (update_through A (altered i) (rewriting 4)).answer) each_field) (replicate 44 27) ∷
    -- and changes nothing: the last total
    Q 5 (append_through (after2 6) (altered 43) append3) (record { answer = record { refusal = 27; number = entry 0 }; held = altered 43; file = after2 6 }) ∷
    -- the record of another state of the file is false too, and so is any record of a file that is refused: of 10 bytes, and of A with its last record lost
    Q 5 (append_through A record2 append3).answer.refusal 27 ∷
    Q 5 (append_through (following 0 10) (record_of (replicate 44 0)) append3).answer.refusal 27 ∷
    Q 5 (append_through (take 400 A) record_a append3).answer.refusal 27 ∷
    -- 27 comes before 21, 12 and 28, which a true record gives; 26 comes before 27
    Q 5 (append_through A (altered 0) (handed_in (pos 1) [] [] [] [] [])).answer.refusal 27 ∷
    Q 5 (append_through A record_a (handed_in (pos 1) [] [] [] [] [])).answer.refusal 21 ∷
    Q 5 (update_through A (altered 0) (update_in (entry 4) (pos 7) [])).answer 27 ∷
    Q 5 (update_through A record_a (update_in (entry 4) (pos 7) [])).answer 12 ∷
    Q 5 (update_through A record_a (rewriting 5)).answer 28 ∷
    Q 5 (batch_through A (altered 0) (batch_with [] 1)).answer (ends 0 26) ∷
    Q 5 (batch_through A record_a (batch_with [] 0)).answer (ends 0 0) ∷
    -- append (3) through the record after append (2) makes an extension, and leaves A's record; with 5 records it gives 24, and the record stays
    Q 5 (append_through (after2 6) record2 append3).answer (record { refusal = 0; number = entry 3 }) ∷
    Q 5 (append_through (after2 6) record2 append3).held record_a ∷
    Q 5 (append_through (after2 5) record2 append3).answer.refusal 24 ∷
    Q 5 (append_through (after2 5) record2 append3).held record2 ∷
    -- so do the three appends of A in one batch; with 5 records the record is that after two of them
    Q 5 (batch_through (created 6) record0 batch_a).held record_a ∷
    Q 5 (batch_through (created 5) record0 batch_a).answer (ends 2 24) ∷
    Q 5 (batch_through (created 5) record0 batch_a).held record2 ∷
    -- an update leaves it
    Q 5 (update_through A record_a (rewriting 4)).answer 0 ∷
    Q 5 (update_through A record_a (rewriting 4)).held record_a ∷
    []

-- ---- Q-6

-- the words that each write takes: the position of the first, and how many
abbrev pub places_of : List Write → List (ℕ × ℕ)
places_of [] = []
places_of (put at ys ∷ ws) = (at / 4, length ys / 4) ∷ places_of ws

-- the head of an entry that starts at a position: code, version, nsec, nword, adata, ldata and xnum
abbrev pub head_places : ℕ → List (ℕ × ℕ)
head_places start = (start, 1) ∷ (start + 1, 1) ∷ (start + 2, 1) ∷ (start + 3, 2) ∷ (start + 5, 2) ∷ (start + 7, 2) ∷ (start + 9, 2) ∷ []

-- an index of 4 words: record, word, and the application's
abbrev pub slot_places : ℕ → List (ℕ × ℕ)
slot_places slot = (slot, 2) ∷ (slot + 2, 1) ∷ (slot + 3, 1) ∷ []

-- xnext, nextrec and nextword: words 7, 9 and 11, at positions 6, 8 and 10
abbrev pub count_places : List (ℕ × ℕ)
count_places = (6, 2) ∷ (8, 2) ∷ (10, 1) ∷ []

-- its rows: the writes of an append
unfoldable pub writes_examples : List Row
writes_examples =
    -- append (1): the entry at position 40, with an identifier, a length, an address, 3 words of a section and 5 of data; slot 1 of the new area at 20,
    -- nothing skipped, 16 words behind the slot; nex and the first address, words 13 and 15
    Q 6 (places_of (writes_of (created 6) append1))
    (head_places 40 ++ (51, 1) ∷ (52, 2) ∷ (54, 2) ∷ (56, 3) ∷ (59, 5) ∷ slot_places 20 ++ (20, 0) ∷ (24, 16) ∷ (12, 1) ∷ (14, 2) ∷ count_places) ∷
    -- append (2): the entry at 64, with nothing else; slot 2 at 24; no new area
    Q 6 (places_of (writes_of (after1 6) append2)) (head_places 64 ++ (75, 0) ∷ (75, 0) ∷ (75, 0) ∷ (75, 0) ∷ (75, 0) ∷ slot_places 24 ++ count_places) ∷
    -- append (3): the entry at 100; slot 1 of the new area at 80, 5 words skipped before it, 16 behind the slot; nex and the second address, words 13 and 17
    Q 6 (places_of (writes_of (after2 6) append3))
    (head_places 100 ++ (111, 0) ∷ (111, 0) ∷ (111, 0) ∷ (111, 0) ∷ (111, 0) ∷ slot_places 80 ++ (75, 5) ∷ (84, 16) ∷ (12, 1) ∷ (16, 2) ∷ count_places) ∷
    -- so of the words about the new area, from the last of entry 2 to the first free one, each that is written is written once
    Q 6 (map (λ w. times_written w (writes_of (after2 6) append3)) (74 ∷ 75 ∷ 79 ∷ 80 ∷ 83 ∷ 84 ∷ 99 ∷ 100 ∷ 110 ∷ 111 ∷ [])) (0 ∷ 1 ∷ 1 ∷ 1 ∷ 1 ∷ 1 ∷ 1 ∷ 1 ∷ 1 ∷ 0 ∷ []) ∷
    []

-- ---- Q-7

-- a file in which the last byte of word w, counted from the file's start, is 1
abbrev pub left_in : ℕ → List ℕ → List ℕ
left_in w file = with_byte file (4 * w - 1) 1

-- a new file of one record
abbrev pub one_record : ℕ → List ℕ
one_record reclen = image_with (offset_of reclen) (settings reclen 4 2 20)

-- its rows: leftovers in the first record
unfoldable pub leftover_examples : List Row
leftover_examples =
    -- A has its addresses in words 15 to 18: words 19 and 20 are zero, and word 21 is the first of record 2
    Q 7 (file_refusal A) 0 ∷
    Q 7 (file_refusal (left_in 19 A)) 29 ∷
    Q 7 (file_refusal (left_in 20 A)) 29 ∷
    Q 7 (file_refusal (left_in 21 A)) 0 ∷
    Q 7 (file_refusal (left_in 20 big_a)) 29 ∷
    -- before it has an address, from word 15 on; with one, from word 17 on
    Q 7 (file_refusal (left_in 15 (created 6))) 29 ∷
    Q 7 (file_refusal (left_in 17 (after2 6))) 29 ∷
    -- an index area broken too, the first at record 1: 11
    Q 7 (file_refusal (left_in 20 (with_byte A 56 1))) 11 ∷
    -- the odd last word, and words past the sixteenth place of an address, which ends with word 46
    Q 7 (file_refusal (one_record 17)) 0 ∷
    Q 7 (file_refusal (left_in 17 (one_record 17))) 29 ∷
    Q 7 (file_refusal (one_record 48)) 0 ∷
    Q 7 (file_refusal (left_in 46 (one_record 48))) 29 ∷
    Q 7 (file_refusal (left_in 47 (one_record 48))) 29 ∷
    Q 7 (file_refusal (left_in 48 (one_record 48))) 29 ∷
    -- the calls refuse it with zeros and an empty part, an append changes nothing
    Q 7 (validation_of (left_in 20 A)) (no_validation 29) ∷
    Q 7 (open_case (open_of (left_in 20 A) (entry 1)).answer).refusal 29 ∷
    Q 7 (section_words_of (left_in 20 A) (entry 1) (pos 7)) (no_part 29) ∷
    Q 7 (append_of (left_in 20 (after2 6)) append3) (record { refusal = 29; number = entry 0 }) ∷
    Q 7 (file_after (left_in 20 (after2 6)) append3) (left_in 20 (after2 6)) ∷
    -- so does an update, before it looks at its content
    Q 7 (update_of (left_in 20 A) (rewriting 0)) 29 ∷
    -- creation over it is accepted, and its first record is that of a new file
    Q 7 (creation_refusal 480 (settings 20 4 2 20)) 0 ∷
    Q 7 (words_at (created_file (left_in 20 A) (settings 20 4 2 20)) 1 1 20) (first_record little 1 2 1 0 0 0) ∷
    Q 7 (file_refusal (created_file (left_in 20 A) (settings 20 4 2 20))) 0 ∷
    []

-- ---- Q-13

-- one of these numbers passes a test
abbrev pub some_of : (ℕ → Bool) → List ℕ → Bool
some_of test [] = false
some_of test (k ∷ ks) = test k || some_of test ks

-- those that do
abbrev pub all_of : (ℕ → Bool) → List ℕ → List ℕ
all_of test [] = []
all_of test (k ∷ ks) = cond (test k) (k ∷ all_of test ks) (all_of test ks)

-- the position of an entry's first word, and the record of a new index area before it
abbrev pub standing : ℕ → ℕ → EntryPlace
standing start area = record { start = start; area = aex area }

-- every position of a buffer of so many records at which an entry of nword words has an admissible place, with the area at one of its records
abbrev pub starts_in : ℕ → DescriptorNumbers → ℕ → List ℕ
starts_in records d nword =
    let words = records * d.reclen in
    all_of (λ start. some_of (λ area. admissible (offset_of words) d nword (standing start area)) (following 0 records)) (0 ∷ following 0 (words - 1))

-- an entry with so many words of data and nothing else, of 11 words more
abbrev pub with_data : ℕ → Handed
with_data words = handed_in (pos 1) (following 220 4) [] [] [] (following 0 (offset_of words))

-- a file of so many records of 17 words, of which mex is 1, with lex1 1, after an entry of 11 words: its index takes record 2, the entry words 1 to 11 of record 3
abbrev pub one_only : ℕ → List ℕ
one_only records = file_after (image_with (offset_of (17 * records)) (settings 17 4 1 20)) append2

-- its rows: room
unfoldable pub room_examples : List Row
room_examples =
    -- A after (2), with 6 records and with 5: two entries fill the first extension, and the next free word is record 4 word 16, position 75
    Q 13 (numbers_of (after2 6)) record2.numbers ∷
    Q 13 (numbers_of (after2 5)) record2.numbers ∷
    -- append (3) has 11 words, and the area of 4 slots takes a record. With 6 records there is room at record 6 word 1, position 100, with the area at record 5;
    -- and up to position 109, from which the entry reaches the buffer's end. With 5 there is none
    Q 13 (admissible 480 record2.numbers 11 (standing 100 5)) true ∷
    Q 13 (starts_in 6 record2.numbers 11) (following 99 10) ∷
    Q 13 (starts_in 5 record2.numbers 11) [] ∷
    -- an area at record 4 starts before the next free word, and one at record 6 reaches into the entry
    Q 13 (map (λ area. admissible 480 record2.numbers 11 (standing 109 area)) (4 ∷ 5 ∷ 6 ∷ [])) (false ∷ true ∷ false ∷ []) ∷
    -- append (3) takes the first of these places
    Q 13 (place_in A (entry 3)) (standing 100 5) ∷
    -- an entry of 20 words has room at record 6 word 1 alone; one of 21 has none, and its append gives 24
    Q 13 (map (place_of 20) (starts_in 6 record2.numbers 20)) (at 6 1 ∷ []) ∷
    Q 13 (starts_in 6 record2.numbers 21) [] ∷
    Q 13 (map (λ words. (append_of (after2 6) (with_data words)).refusal) (9 ∷ 10 ∷ [])) (0 ∷ 24 ∷ []) ∷
    -- in A itself the second extension has slots: from the next free word, record 6 word 12, an entry of 9 words would have room; the 11 of an append have none
    Q 13 (starts_in 6 record_a.numbers 9) (111 ∷ []) ∷
    Q 13 (starts_in 6 record_a.numbers 11) [] ∷
    Q 13 (append_of A append3).refusal 24 ∷
    -- reclen 17, lex1 1, full: another extension is needed and may not be made. With 3 records, which have no room for 11 words, and with 9, which have
    Q 13 (map (λ records. (append_of (one_only records) append3).refusal) (3 ∷ 9 ∷ [])) (23 ∷ 23 ∷ []) ∷
    Q 13 (starts_in 9 (numbers_of (one_only 9)) 11) [] ∷
    -- lex1 2,500, gex 16: extension 5 has 16,384 entries and may be made; lex1 1,154, gex 17: extension 6 has 16,385 and may not
    Q 13 (may_extend (filled (settings 46 4 2500 16) 23141 2 4)) true ∷
    Q 13 (capacity_of (growth_of 1154 17) 6) 16385 ∷
    Q 13 (may_extend (filled (settings 46 4 1154 17) 21758 2 5)) false ∷
    []

-- ---- the tables

-- those of all requests, in their order
abbrev pub request_examples : List (List Row)
request_examples = batch_examples ∷ growth_examples ∷ update_examples ∷ order_examples ∷ record_examples ∷ writes_examples ∷ leftover_examples ∷ room_examples ∷ []
