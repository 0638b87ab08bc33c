-- The examples that 01 works by hand, P1 to P12, and those of the requests hold of the definitions: by computing. Assumes nothing.
use mathlib.Core.Path.{refl}
use Rattle.image.specs.Image.{part, splice, zeros, all_zero}
use Rattle.words.specs.Word.{little_number, little_numeral, arranged, number, numeral, bits_at}
use Rattle.words.specs.Range.{within, at_least}
use Rattle.words.specs.Code.{same_numbers}
use Rattle.geometry.specs.Computing.{computing}
use Rattle.layout.specs.FileCode.{file_code, order_said, file_code_of}
use Rattle.descriptor.specs.FirstRecord.{field, numbers_of, created_of, addresses_of, mex_of}
use Rattle.descriptor.specs.Areas.{area_after, areas_start, areas_end}
use Rattle.descriptor.specs.Rules.{entries_fit, no_leftovers, file_refusal}
use Rattle.descriptor.specs.Answers.{validation_of}
use Rattle.pieces.specs.EntryDescriptor.{entry_code_of, word_of, section_of, data_of}
use Rattle.pieces.specs.Contents.{piece_within, data_within, sections_within, apart, apart_from, sections_apart, data_apart}
use Rattle.pieces.specs.Tables.{section_identifiers, section_lengths, section_addresses, sections_of, same_integer, section_named}
use Rattle.entry.specs.Opening.{place_stored, slot_position_of, entry_refusal, entered_of}
use Rattle.entry.specs.Answers.{entered_in, opened_as, open_of}
use Rattle.handing.specs.Parts.{section_part, data_part, part_in}
use Rattle.fields.specs.FieldWrites.{first_written}
use Rattle.writer.specs.Creation.{creation_refusal, created_file}
use Rattle.storing.specs.Handed.{absent, distinct, positive}
use Rattle.placing.specs.Placing.{full, new_area, after_new_area, entry_start, nex_after, numbers_after, addresses_after}
use Rattle.writer.specs.Rules.{append_refusal}
use Rattle.storing.specs.Writing.{head_from, area_written, entry_written, index_written, appended}
use Rattle.writer.specs.Answers.{appended_from, file_from, append_in, file_in}
use Rattle.batch.specs.Rules.{batch_refusal}
use Rattle.batch.specs.Answers.{batch_of, file_after_batch}
use Rattle.update.specs.Rules.{content_refusal}
use Rattle.update.specs.Answers.{update_at, file_at}
use Rattle.geometry.specs.Totals.{totals_of}
use Rattle.held.specs.Record.{open_file_in}
use Rattle.held.specs.Rules.{held_refusal}
use Rattle.through.specs.Answers.{append_through, batch_through, update_through}
use Rattle.promises.specs.FileA.{A}
use Rattle.promises.specs.Examples.{AllMatch, EachMatches, examples, entry, with_section, without_section, Differ}
use Rattle.promises.specs.RequestExamples.{batch_examples, growth_examples, update_examples, order_examples, record_examples, writes_examples, leftover_examples, room_examples, request_examples}

-- a row's proof and those of the rows behind it
infixr 60 ◌&◌
◌&◌ : {A B : Type 0} → A → B → A × B
a & b = (a, b)

-- what the theorems below see through: to unfold this is to unfold all that it names
seen : Unit {0}
unfolding part splice zeros all_zero little_number little_numeral arranged number numeral bits_at within at_least same_numbers
    computing file_code order_said file_code_of field numbers_of created_of addresses_of mex_of entries_fit area_after areas_start areas_end no_leftovers file_refusal validation_of
    entry_code_of word_of section_of data_of piece_within data_within sections_within apart apart_from sections_apart data_apart
    section_addresses section_identifiers section_lengths sections_of same_integer section_named
    place_stored slot_position_of entry_refusal entered_of entered_in opened_as open_of section_part data_part part_in
    first_written creation_refusal created_file absent distinct positive append_refusal
    full new_area after_new_area entry_start nex_after numbers_after addresses_after
    head_from area_written entry_written index_written appended appended_from file_from append_in file_in batch_refusal batch_of file_after_batch
    content_refusal update_at file_at totals_of open_file_in held_refusal append_through batch_through update_through
seen = record {}

-- every row of the table
pub worked-examples : AllMatch examples
unfolding examples seen
worked-examples =
    -- P1
    refl & refl & refl & refl & refl & refl & refl & refl & refl & refl & refl &
    -- P2
    refl & refl & refl & refl &
    -- P3
    refl & refl & refl &
    -- P4
    refl & refl & refl & refl & refl & refl & refl & refl & refl & refl & refl &
    -- P5
    refl & refl &
    -- P6
    refl & refl & refl & refl &
    -- P7
    refl &
    -- P8
    refl & refl &
    -- P9
    refl & refl & refl &
    -- P10
    refl & refl & refl & refl &
    -- P11
    refl & refl & refl & refl &
    -- P12
    refl & refl &
    record {}

-- ---- the requests

batch-examples : AllMatch batch_examples
unfolding batch_examples seen
batch-examples =
    -- Q-1
    refl & refl & refl & refl & refl & refl & refl & refl & refl & refl & refl &
    refl & refl & refl & refl & refl & refl & refl & refl & refl & refl & refl &
    record {}

growth-examples : AllMatch growth_examples
unfolding growth_examples seen
growth-examples =
    -- Q-2
    refl & refl & refl & refl & refl & refl & refl & refl &
    record {}

update-examples : AllMatch update_examples
unfolding update_examples seen
update-examples =
    -- Q-3
    refl & refl & refl & refl & refl & refl & refl & refl & refl & refl &
    refl & refl & refl & refl & refl & refl & refl & refl & refl &
    record {}

order-examples : AllMatch order_examples
unfolding order_examples seen
order-examples =
    -- Q-4
    refl & refl & refl & refl & refl & refl & refl & refl & refl & refl & refl &
    refl & refl & refl & refl & refl & refl & refl & refl & refl & refl & refl &
    refl & refl & refl & refl & refl & refl &
    record {}

record-examples : AllMatch record_examples
unfolding record_examples seen
record-examples =
    -- Q-5
    refl & refl & refl & refl & refl & refl & refl & refl & refl & refl &
    refl & refl & refl & refl & refl & refl & refl & refl & refl & refl &
    refl & refl & refl & refl & refl & refl & refl & refl & refl &
    record {}

writes-examples : AllMatch writes_examples
unfolding writes_examples seen
writes-examples =
    -- Q-6
    refl & refl & refl & refl &
    record {}

leftover-examples : AllMatch leftover_examples
unfolding leftover_examples seen
leftover-examples =
    -- Q-7
    refl & refl & refl & refl & refl & refl & refl & refl & refl & refl & refl & refl &
    refl & refl & refl & refl & refl & refl & refl & refl & refl & refl & refl &
    record {}

room-examples : AllMatch room_examples
unfolding room_examples seen
room-examples =
    -- Q-13
    refl & refl & refl & refl & refl & refl & refl & refl & refl &
    refl & refl & refl & refl & refl & refl & refl & refl & refl &
    record {}

-- every row of the tables of the requests
pub request-examples : EachMatches request_examples
request-examples = batch-examples & growth-examples & update-examples & order-examples & record-examples & writes-examples & leftover-examples & room-examples & record {}

-- the first entries of two files differ
pub first-entries : Differ (open_of with_section (entry 1)).answer (open_of without_section (entry 1)).answer
unfolding seen
first-entries = (refl, refl, refl, refl)

-- and so do the first two entries of file A
pub entries-differ : Differ (open_of A (entry 1)).answer (open_of A (entry 2)).answer
unfolding seen
entries-differ = (refl, refl, refl, refl)
