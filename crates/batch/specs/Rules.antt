-- The rules of a batch, all numbered 26, as one table in the order of 02, tested before every other.
use Rattle.std.specs.Prelude.{ℕ, List, [], ◌∷◌, leb, eqb, length}
use Rattle.descriptor.specs.Refusal.{Rule, row, refusal_in}
use Rattle.batch.specs.Batch.{Batch, index_bytes, id_count, length_count, section_bytes, data_bytes, together}

-- 64 entries at most, a row of counts for each, and each column uses up what is laid
abbrev pub batch_rules : Batch → List Rule
batch_rules b =
    row 26 (leb (length b.versions) 64) ∷
    row 26 (eqb (length b.counts) (length b.versions)) ∷
    row 26 (eqb (together index_bytes b.counts) (length b.laid.index)) ∷
    row 26 (eqb (together id_count b.counts) (length b.laid.ids)) ∷
    row 26 (eqb (together length_count b.counts) (length b.laid.lengths)) ∷
    row 26 (eqb (together section_bytes b.counts) (length b.laid.sections)) ∷
    row 26 (eqb (together data_bytes b.counts) (length b.laid.values)) ∷
    []

-- the refusal by them, 0 where they hold
unfoldable pub batch_refusal : Batch → ℕ
batch_refusal b = refusal_in (batch_rules b)
