-- Worked examples of the answers for C. Assumes nothing.
use mathlib.Core.Path.{◌≡◌, refl}
use mathlib.Core.List.{[], ◌∷◌}
use lib.IntN.{pos, negsuc}
use lib.ListN.{replicate}
use Rattle.descriptor.specs.Answers.{no_validation}
use Rattle.pieces.specs.Tables.{no_sections}
use Rattle.entry.specs.declared.answers.Open.TheVariants.{Numbers, Refused}
use Rattle.geometry.specs.Units.{record_numbers}
use Rattle.classic.specs.Answers.{entry_addresses, descriptor_for, entry_for, part_for, checked_for}

-- bytes 340 to 348 of a file: start 340, length 8
part-of-eight : part_for (record { refusal = 0; start = 340; end = 348 }) ≡ record { refusal = 0; start = 340; length = 8 }
part-of-eight = refl

-- index areas at records 2 and 9
two-areas : record_numbers (record { 0 = 2 } ∷ record { 0 = 9 } ∷ []) ≡ 2 ∷ 9 ∷ []
two-areas = refl

-- a file with another code: the number, and zeros
other-code : descriptor_for (no_validation 2) ≡ record {
  refusal = 2;
  order = 0;
  reclen = 0;
  kind = 0;
  vind = 0;
  lind = 0;
  flags = 0;
  xnext = 0;
  nextrec = 0;
  nextword = 0;
  lex1 = 0;
  nex = 0;
  gex = 0;
  aex = replicate 16 0;
}
other-code = refl

-- an entry number above the last: the number, and zeros
no-such-entry : entry_for (record { answer = Refused 12; sections = no_sections }) ≡ record {
  refusal = 12;
  «record» = 0;
  word = 0;
  version = pos 0;
  nsec = 0;
  nword = 0;
  adata = pos 0;
  ldata = 0;
  ids = replicate 64 (pos 0);
  lengths = replicate 64 0;
  addresses = replicate 64 0;
}
unfolding entry_addresses
no-such-entry = refl

-- an entry at record 3, word 5, of version -1, with no sections and no data: adata is handed out as stored
bare-entry : (entry_for (record {
  answer = Numbers (record { «record» = record { 0 = 3 }; word = record { 0 = 5 } }) (negsuc 0) 0 11 (record { adata = record { 0 = negsuc 6 }; ldata = 0 });
  sections = no_sections;
})).adata ≡ negsuc 6
bare-entry = refl

-- entry 4 fails the check with 25
fourth-fails : checked_for (record { entry = record { 0 = 4 }; refusal = 25 }) ≡ record { entry = 4; refusal = 25 }
fourth-fails = refl
