-- The cases P1 to P12 of 01, "Examples worked by hand", as one table. A row has the number of its case, what the definitions give, and what 01 says.
-- The rows with words_at spell every word of file A.
use Rattle.std.specs.Prelude.{ℕ, ◌+◌, ◌*◌, ◌/◌, ◌≡◌, List, [], ◌∷◌, ◌++◌, map, ℤ, pos, neg_ℤ, get_or, replicate}
use Rattle.image.specs.Image.{zeros}
use Rattle.words.specs.Word.{integer8, signed_at}
use Rattle.geometry.specs.declared.units.RecordNumber.{RecordNumber}
use Rattle.geometry.specs.declared.units.EntryNumber.{EntryNumber}
use Rattle.geometry.specs.declared.units.Place.{Place}
use Rattle.geometry.specs.Units.{place_of, offset_of}
use Rattle.geometry.specs.Growth.{growth_of, capacity_of, total_of}
use Rattle.geometry.specs.Area.{slot_of}
use Rattle.descriptor.specs.declared.numbers.Settings.{Settings}
use Rattle.descriptor.specs.declared.numbers.DescriptorNumbers.{DescriptorNumbers}
use Rattle.descriptor.specs.Refusal.{refusal_in}
use Rattle.descriptor.specs.FirstRecord.{created_of, growth_in, numbers_of, addresses_of}
use Rattle.descriptor.specs.Rules.{setting_rules, filling_rules, file_refusal}
use Rattle.descriptor.specs.Answers.{validation_of}
use Rattle.entry.specs.declared.answers.Open.{Open}
use Rattle.entry.specs.declared.answers.Open.TheVariants.{Numbers}
use Rattle.entry.specs.Opening.{slot_position_of}
use Rattle.entry.specs.Answers.{open_of, open_case}
use Rattle.handing.specs.declared.place.PartPlace.{PartPlace}
use Rattle.handing.specs.Parts.{section_words_of, data_words_of, bytes_of}
use Rattle.fields.specs.FieldWrites.{first_written}
use Rattle.writer.specs.Creation.{creation_refusal}
use Rattle.writer.specs.Answers.{append_of, file_after}
use Rattle.promises.specs.Contents.{numbers_in, opened_in}
use Rattle.promises.specs.Calls.{following}
use Rattle.promises.specs.FileA.{settings, append2, append3, created, after1, after2, A, two_sections}
use Rattle.promises.specs.ByHand.{words_at, word, two_words, little, zero_words, first_record, entry_head, slot}

-- a row of a table: P of its number, or Q of the number of a request; what is found, what is expected
pub data Row : Type 1 where
  P : {A : Type 0} → (label : ℕ) → (found expected : A) → Row
  Q : {A : Type 0} → (label : ℕ) → (found expected : A) → Row

-- every row finds what is expected of it
abbrev pub AllMatch : List Row → Type 0
AllMatch [] = Unit
AllMatch (P label found expected ∷ rows) = (found ≡ expected) × AllMatch rows
AllMatch (Q label found expected ∷ rows) = (found ≡ expected) × AllMatch rows

-- and so does every row of each of these tables
abbrev pub EachMatches : List (List Row) → Type 0
EachMatches [] = Unit
EachMatches (rows ∷ tables) = AllMatch rows × EachMatches tables

-- ---- numbers with their units

-- entry e
abbrev pub entry : ℕ → EntryNumber
entry e = record { 0 = e }

-- the address of an index area: its first record
abbrev pub aex : ℕ → RecordNumber
aex r = record { 0 = r }

-- record r, word w
abbrev pub at : ℕ → ℕ → Place
at r w = record { «record» = record { 0 = r }; word = record { 0 = w } }

-- ---- two files that differ in their first entry

-- it has a section
abbrev pub with_section : List ℕ
with_section = after1 6

-- it has none
abbrev pub without_section : List ℕ
without_section = file_after (created 6) append2

-- two answers of an open differ: neither is a refusal, and one entry has a section and the other none
abbrev pub Differ : Open → Open → Type 0
Differ one other = ((open_case one).nsec ≡ 1) × ((open_case other).nsec ≡ 0) × ((open_case one).refusal ≡ 0) × ((open_case other).refusal ≡ 0)

-- ---- what is looked at

-- the first place of an opened entry's tables: the section's identifier
abbrev pub identifier_first : List ℕ → ℕ → ℤ
identifier_first file e = get_or (open_of file (entry e)).sections.identifiers 0 (pos 0)

-- and its address
abbrev pub address_first : List ℕ → ℕ → ℕ
address_first file e = (get_or (open_of file (entry e)).sections.addresses 0 (record { 0 = 0 })).0

-- an entry that opens: its start, version, nsec, nword, adata and ldata
abbrev pub opens_at : Place → ℕ → ℕ → ℕ → ℕ → ℕ → Open
opens_at start version nsec nword adata ldata = Numbers start (pos version) nsec nword (record { adata = record { 0 = pos adata }; ldata = ldata })

-- the record and word where a part that is handed out starts
abbrev pub starts_at : ℕ → PartPlace → Place
starts_at reclen p = place_of reclen (p.start / 4)

-- the record and word where the index of an entry starts
abbrev pub index_at : List ℕ → ℕ → Place
index_at file e =
    let d = numbers_of file in
    place_of d.reclen (slot_position_of d (addresses_of file d.nex) (entry e))

-- the next free record and word
abbrev pub next_in : List ℕ → Place
next_in file = record { «record» = (numbers_in file).nextrec; word = (numbers_in file).nextword }

-- the numbers of a new file with these settings, but for xnext, nextrec and nex
abbrev pub filled : Settings → ℕ → ℕ → ℕ → DescriptorNumbers
filled s xnext nextrec nex =
    let d = created_of s in
    record {
      order = d.order;
      reclen = d.reclen;
      kind = d.kind;
      vind = d.vind;
      lind = d.lind;
      flags = d.flags;
      xnext = entry xnext;
      nextrec = record { 0 = nextrec };
      nextword = d.nextword;
      lex1 = d.lex1;
      nex = nex;
      gex = d.gex;
    }

-- the refusal, by rules 2 to 11, of a file of so many bytes with these numbers and addresses
abbrev pub numbers_refusal : ℕ → DescriptorNumbers → List RecordNumber → ℕ
numbers_refusal bytes d addresses = refusal_in (setting_rules bytes d ++ filling_rules bytes d addresses)

-- an image with the first record of a new file with these settings, admitted or not
abbrev pub image_with : ℕ → Settings → List ℕ
image_with bytes s = first_written (zeros bytes) (created_of s)

-- P6: an extension of 4 entries, all in use, its area at records 2 and 3
abbrev pub crossing : DescriptorNumbers
crossing = filled (settings 16 5 4 10) 5 4 1

-- P8: the areas of 4,096, 8,192 and 16,384 entries take 745, 1,490 and 2,979 records of 22 words
abbrev pub areas3 : List RecordNumber
areas3 = aex 2 ∷ aex 747 ∷ aex 2237 ∷ []

-- all of them are in use where nex is 3
abbrev pub grown : ℕ → DescriptorNumbers
grown nex = filled (settings 22 4 4096 20) 28673 5216 nex

-- P9: each of the 16 areas of 4,096 entries takes 357 records of 46 words
abbrev pub areas16 : List RecordNumber
areas16 = map (λ k. aex (2 + 357 * k)) (0 ∷ following 0 15)

-- all of them are full where xnext is 65,537
abbrev pub most : ℕ → DescriptorNumbers
most xnext = filled (settings 46 4 4096 10) xnext 5714 16

-- ---- the table

-- every row, in the order of the cases
unfoldable pub examples : List Row
examples =
    -- file A: section 7 has address 17, data 20. The entry starts at record 3 word 1, so these are words 17 and 20 of that record
    P 1 (identifier_first A 1) (pos 7) ∷
    P 1 (address_first A 1) 17 ∷
    P 1 (opened_in A (entry 1)).array.adata.0 (pos 20) ∷
    P 1 (starts_at 20 (section_words_of A (entry 1) (pos 7))) (at 3 17) ∷
    P 1 (starts_at 20 (data_words_of A (entry 1))) (at 3 20) ∷
    P 1 (bytes_of A (section_words_of A (entry 1) (pos 7))) (following 0 12) ∷
    P 1 (bytes_of A (data_words_of A (entry 1))) (following 100 20) ∷
    -- it opens with version 1, nsec 1, nword 24, adata 20, ldata 5
    P 1 (open_of A (entry 1)).answer (opens_at (at 3 1) 1 1 24 20 5) ∷
    -- its words: these with xnum 1; identifier 7, length 3, address 17; the section and the data
    P 1 (words_at A 3 1 16) (entry_head little 1 1 24 20 5 1 ++ word 7 ++ two_words 3 ++ two_words 17) ∷
    P 1 (words_at A 3 17 8) (following 0 12 ++ following 100 20) ∷
    -- of two sections: both identifiers, both lengths, both addresses. The first address is 12 + 5 × 2
    P 1 (words_at two_sections 3 12 10) (word 7 ++ word 9 ++ two_words 3 ++ two_words 1 ++ two_words 22 ++ two_words 25) ∷
    -- entry 2's index is at record 2 word 5
    P 2 (index_at A 2) (at 2 5) ∷
    -- the words of record 2, area 1: the index of entry 1, which starts at record 3 word 1; of entry 2, at record 4 word 5; the unused words are zero
    P 2 (words_at A 2 1 4) (slot little 3 1 (following 200 4)) ∷
    P 2 (words_at A 2 5 4) (slot little 4 5 (following 210 4)) ∷
    P 2 (words_at A 2 9 12) (zero_words 12) ∷
    -- after (2) next is record 4 word 16
    P 3 (next_in (after2 6)) (at 4 16) ∷
    -- entry 2 and its words: version 1, nsec 0, nword 11, adata 0, ldata 0; xnum 2
    P 3 (open_of A (entry 2)).answer (opens_at (at 4 5) 1 0 11 0 0) ∷
    P 3 (words_at A 4 5 11) (entry_head little 1 0 11 0 0 2) ∷
    -- after (3) aex 2 and 5, next record 6 word 12
    P 4 (validation_of A).addresses (aex 2 ∷ aex 5 ∷ replicate 14 (aex 0)) ∷
    P 4 (next_in A) (at 6 12) ∷
    -- the first record as created: xnext 1, nextrec 2, nextword 1, nex 0, no address. The bytes behind it, 81 to 480, stay
    P 4 (words_at (created 6) 1 1 20) (first_record little 1 2 1 0 0 0) ∷
    P 4 (words_at (created 6) 2 1 100) (following 81 174 ++ following 0 226) ∷
    -- the first record after (3): xnext 4, nextrec 6, nextword 12, nex 2, aex 2 and 5
    P 4 (words_at A 1 1 20) (first_record little 4 6 12 2 2 5) ∷
    -- the words skipped before record 5, area 2, are zero; in it the index of entry 3, which starts at record 6 word 1; the unused words are zero
    P 4 (words_at A 4 16 5) (zero_words 5) ∷
    P 4 (words_at A 5 1 4) (slot little 6 1 (following 220 4)) ∷
    P 4 (words_at A 5 5 16) (zero_words 16) ∷
    -- entry 3 and its words: version 1, nsec 0, nword 11, adata 0, ldata 0; xnum 3. The bytes behind it, 445 to 480, stay
    P 4 (open_of A (entry 3)).answer (opens_at (at 6 1) 1 0 11 0 0) ∷
    P 4 (words_at A 6 1 11) (entry_head little 1 0 11 0 0 3) ∷
    P 4 (words_at A 6 12 9) (following 190 36) ∷
    -- A with 5 records: append (3) gives 24; with 6 it does not
    P 5 (append_of (after2 5) append3).refusal 24 ∷
    P 5 (append_of (after2 6) append3).refusal 0 ∷
    -- reclen 16, lind 5: the fourth index starts at offset 15 and crosses a record: its first word and its fifth
    P 6 (numbers_refusal (offset_of (16 * 3)) crossing (aex 2 ∷ [])) 0 ∷
    P 6 (slot_of (growth_in crossing) 1 5 (entry 4)).offset 15 ∷
    P 6 (place_of 16 (slot_position_of crossing (aex 2 ∷ []) (entry 4))) (at 2 16) ∷
    P 6 (place_of 16 (slot_position_of crossing (aex 2 ∷ []) (entry 4) + 4)) (at 3 4) ∷
    -- lex1 5, gex 15: 5, 7, 11, 16, as 02 has it
    P 7 (map (capacity_of (growth_of 5 15)) (1 ∷ 2 ∷ 3 ∷ 4 ∷ [])) (5 ∷ 7 ∷ 11 ∷ 16 ∷ []) ∷
    -- reclen 22, lex1 4,096, gex 20: nex 3 admitted, nex 4 gives 8
    P 8 (numbers_refusal (offset_of (22 * 5215)) (grown 3) areas3) 0 ∷
    P 8 (numbers_refusal (offset_of (22 * 5215)) (grown 4) areas3) 8 ∷
    -- lex1 4,096, gex 10, nex 16, reclen 46: 65,536 entries
    P 9 (total_of (growth_of 4096 10) 16) 65536 ∷
    P 9 (numbers_refusal (offset_of (46 * 5713)) (most 65537) areas16) 0 ∷
    P 9 (numbers_refusal (offset_of (46 * 5713)) (most 65538) areas16) 9 ∷
    -- reclen 15 gives 3, 16 does not: by validate, and by create. 960 bytes are whole records of either
    P 10 (file_refusal (image_with 960 (settings 15 4 2 20))) 3 ∷
    P 10 (file_refusal (image_with 960 (settings 16 4 2 20))) 0 ∷
    P 10 (creation_refusal 960 (settings 15 4 2 20)) 3 ∷
    P 10 (creation_refusal 960 (settings 16 4 2 20)) 0 ∷
    -- lind 2 gives 6, 3 does not: by validate, and by create
    P 11 (file_refusal (image_with 480 (settings 20 2 2 20))) 6 ∷
    P 11 (file_refusal (image_with 480 (settings 20 3 2 20))) 0 ∷
    P 11 (creation_refusal 480 (settings 20 2 2 20)) 6 ∷
    P 11 (creation_refusal 480 (settings 20 3 2 20)) 0 ∷
    -- eight bytes FF are -1, in either order
    P 12 (signed_at (record { 0 = 0 }) integer8 (replicate 8 0xFF) 0) (neg_ℤ (pos 1)) ∷
    P 12 (signed_at (record { 0 = 1 }) integer8 (replicate 8 0xFF) 0) (neg_ℤ (pos 1)) ∷
    []
