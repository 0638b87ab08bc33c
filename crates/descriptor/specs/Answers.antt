-- What `validate` and `extension_of` answer.
use Rattle.std.specs.Prelude.{ℕ, ◌≡◌, cond, ◌&&◌, List, replicate, leb, eqb}
use Rattle.geometry.specs.declared.units.RecordNumber.{RecordNumber}
use Rattle.geometry.specs.declared.units.ExtensionNumber.{ExtensionNumber}
use Rattle.geometry.specs.Growth.{capacity_of}
use Rattle.geometry.specs.Area.{area_records}
use Rattle.descriptor.specs.declared.validating.Validated.{Validated}
use Rattle.descriptor.specs.declared.validating.Validated.TheVariants.{Numbers, Refused}
use Rattle.descriptor.specs.declared.validating.Validation.{Validation}
use Rattle.descriptor.specs.declared.validating.ValidatedCase.{ValidatedCase}
use Rattle.descriptor.specs.declared.numbers.DescriptorNumbers.{DescriptorNumbers}
use Rattle.descriptor.specs.declared.extensions.Extension.{Extension}
use Rattle.descriptor.specs.FirstRecord.{numbers_of, addresses_of, aex_of, growth_in}
use Rattle.descriptor.specs.Rules.{file_refusal}

-- a validation with a refusal: the number, and zeros
abbrev pub no_validation : ℕ → Validation
no_validation n = record { refusal = n; numbers = Refused n; addresses = replicate 16 (record { 0 = 0 }) }

-- validating: the numbers and addresses of an admitted file, or the refusal
unfoldable pub validation_of : List ℕ → Validation
validation_of file =
    let n = file_refusal file in
    let d = numbers_of file in
    cond (eqb n 0) (record { refusal = 0; numbers = Numbers d; addresses = addresses_of file d.nex }) (no_validation n)

-- a file validates with these numbers and addresses
abbrev pub Validates : List ℕ → DescriptorNumbers → List RecordNumber → Type 0
Validates file d addresses = validation_of file ≡ record { refusal = 0; numbers = Numbers d; addresses = addresses }

-- numbers that are all zero
abbrev pub no_numbers : DescriptorNumbers
no_numbers = record {
  order = record { 0 = 0 };
  reclen = 0;
  kind = 0;
  vind = 0;
  lind = 0;
  flags = 0;
  xnext = record { 0 = 0 };
  nextrec = record { 0 = 0 };
  nextword = record { 0 = 0 };
  lex1 = 0;
  nex = 0;
  gex = 0;
}

-- 01's number and values for each case of a validation: 0 and the numbers, or the refusal and zeros
abbrev pub validated_case : Validated → ValidatedCase
validated_case (Numbers d) = record { refusal = 0; numbers = d }
validated_case (Refused n) = record { refusal = n; numbers = no_numbers }

-- the case of a file's validation: its numbers, or the refusal
abbrev pub case_of : List ℕ → Validated
case_of file = (validation_of file).numbers

-- a refused extension: the number, and zeros
abbrev pub no_extension : ℕ → Extension
no_extension n = record { refusal = n; capacity = 0; first = record { 0 = 0 }; records = 0 }

-- extension k of validated numbers: its capacity, its area's first record and the area's count of records; 12 where there is none
unfoldable pub extension_in : Validated → List RecordNumber → ExtensionNumber → Extension
extension_in (Refused n) addresses k = no_extension n
extension_in (Numbers d) addresses k =
    let capacity = capacity_of (growth_in d) k.0 in
    cond (leb 1 k.0 && leb k.0 d.nex)
    (record { refusal = 0; capacity = capacity; first = aex_of addresses k.0; records = area_records capacity d.lind d.reclen })
    (no_extension 12)

-- extension k of a file
unfoldable pub extension_of : List ℕ → ExtensionNumber → Extension
extension_of file k = extension_in (validation_of file).numbers (validation_of file).addresses k
