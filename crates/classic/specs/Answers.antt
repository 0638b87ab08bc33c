-- The answers of the crates below as C has them (include/classic.h): an enum becomes a refusal field, a unit its number, a part its start and length.
use Rattle.std.specs.Prelude.{ℕ, ◌-◌, ℤ, List, map}
use Rattle.geometry.specs.declared.units.EntryAddress.{EntryAddress}
use Rattle.geometry.specs.Units.{record_numbers}
use Rattle.descriptor.specs.declared.validating.Validation.{Validation}
use Rattle.descriptor.specs.declared.validating.ValidatedCase.{ValidatedCase}
use Rattle.descriptor.specs.declared.extensions.Extension.{Extension}
use Rattle.descriptor.specs.declared.numbers.Settings.{Settings}
use Rattle.descriptor.specs.Answers.{validated_case}
use Rattle.pieces.specs.declared.tables.Sections.{Sections}
use Rattle.words.specs.Word.{integer8, signed_of}
use Rattle.entry.specs.Entered.{Entered}
use Rattle.entry.specs.declared.answers.OpenCase.{OpenCase}
use Rattle.entry.specs.declared.answers.Opened.{Opened}
use Rattle.entry.specs.Answers.{open_case}
use Rattle.handing.specs.declared.place.PartPlace.{PartPlace}
use Rattle.order.specs.declared.answers.Checked.{Checked}
use Rattle.classic.specs.declared.answers.ClassicDescriptor.{ClassicDescriptor}
use Rattle.classic.specs.declared.answers.ClassicExtension.{ClassicExtension}
use Rattle.classic.specs.declared.answers.ClassicEntry.{ClassicEntry}
use Rattle.classic.specs.declared.answers.ClassicPart.{ClassicPart}
use Rattle.classic.specs.declared.answers.ClassicChecked.{ClassicChecked}
use Rattle.classic.specs.declared.answers.ClassicSettings.{ClassicSettings}

-- the numbers of a table of addresses
unfoldable pub entry_addresses : List EntryAddress → List ℕ
entry_addresses table = map (λ (a : EntryAddress). a.0) table

-- a descriptor: the number and the values of the validation's case, and the addresses
abbrev pub descriptor_from : ValidatedCase → List ℕ → ClassicDescriptor
descriptor_from case aex = record {
  refusal = case.refusal;
  order = case.numbers.order.0;
  reclen = case.numbers.reclen;
  kind = case.numbers.kind;
  vind = case.numbers.vind;
  lind = case.numbers.lind;
  flags = case.numbers.flags;
  xnext = case.numbers.xnext.0;
  nextrec = case.numbers.nextrec.0;
  nextword = case.numbers.nextword.0;
  lex1 = case.numbers.lex1;
  nex = case.numbers.nex;
  gex = case.numbers.gex;
  aex = aex;
}

-- a validation: its case, and its addresses
abbrev pub descriptor_for : Validation → ClassicDescriptor
descriptor_for v = descriptor_from (validated_case v.numbers) (record_numbers v.addresses)

-- an extension, field by field
abbrev pub extension_for : Extension → ClassicExtension
extension_for x = record { refusal = x.refusal; capacity = x.capacity; first = x.first.0; records = x.records }

-- an opened entry: the number and the values of the open's case, and the tables
abbrev pub entry_from : OpenCase → Sections → ClassicEntry
entry_from case sections = record {
  refusal = case.refusal;
  «record» = case.place.«record».0;
  word = case.place.word.0;
  version = case.version;
  nsec = case.nsec;
  nword = case.nword;
  adata = case.array.adata.0;
  ldata = case.array.ldata;
  ids = sections.identifiers;
  lengths = sections.lengths;
  addresses = entry_addresses sections.addresses;
}

-- the same of an entry that was entered with no refusal, and of its tables as C has them
abbrev pub entry_having : Entered → List ℤ → List ℕ → List ℕ → ClassicEntry
entry_having x ids lengths addresses = record {
  refusal = 0;
  «record» = x.place.«record».0;
  word = x.place.word.0;
  version = x.version;
  nsec = x.nsec;
  nword = x.nword;
  adata = signed_of integer8 x.array.address.0;
  ldata = x.array.words;
  ids = ids;
  lengths = lengths;
  addresses = addresses;
}

-- an open: its case, and its tables
abbrev pub entry_for : Opened → ClassicEntry
entry_for x = entry_from (open_case x.answer) x.sections

-- a part by its start and its length, both in bytes
abbrev pub part_for : PartPlace → ClassicPart
part_for p = record { refusal = p.refusal; start = p.start; length = p.end - p.start }

-- an order check, field by field
abbrev pub checked_for : Checked → ClassicChecked
checked_for x = record { entry = x.entry.0; refusal = x.refusal }

-- the settings that C hands in, field by field
abbrev pub settings_from : ClassicSettings → Settings
settings_from s = record { order = s.order; reclen = s.reclen; kind = s.kind; vind = s.vind; lind = s.lind; flags = s.flags; lex1 = s.lex1; gex = s.gex }
