-- The table is what its places hold.
use Rattle.std.proofs.Common.{[], ◌∷◌, sym, ◌∙◌}
use Rattle.geometry.specs.declared.units.RecordNumber.{RecordNumber}
use Rattle.descriptor.specs.FirstRecord.{aex_at, addresses_of}
use Rattle.classic.proofs.Filled.{map-places, places-listed}
use Rattle.classic.proofs.tables.aex_numbers.Goals as goal

pub returns : goal.returns
unfolding addresses_of
returns c =
    let file = c.args.file.now in
    let nex = c.args.nex in
    let table = map-places (λ (r : RecordNumber). r.0) 16 nex (aex_at file) (record { 0 = 0 }) ∙ places-listed 16 nex (λ i. (aex_at file i).0) 0 in
    (λ j.
    c.aex_number.ensures j ∷ c.aex_number-2.ensures j ∷ c.aex_number-3.ensures j ∷ c.aex_number-4.ensures j ∷ c.aex_number-5.ensures j
    ∷ c.aex_number-6.ensures j ∷ c.aex_number-7.ensures j ∷ c.aex_number-8.ensures j ∷ c.aex_number-9.ensures j ∷ c.aex_number-10.ensures j
    ∷ c.aex_number-11.ensures j ∷ c.aex_number-12.ensures j ∷ c.aex_number-13.ensures j ∷ c.aex_number-14.ensures j ∷ c.aex_number-15.ensures j
    ∷ c.aex_number-16.ensures j ∷ [])
    ∙ sym table
