-- The loop of `batch::rules::use_up`: of each column, what is left and the rows passed make up what is laid.
use Rattle.std.proofs.Common.{◌≡◌, ◌+◌, length, drop}
use Rattle.batch.specs.Batch.{index_bytes, id_count, length_count, section_bytes, data_bytes, together}
use Rattle.batch.proofs.rules.use_up.Given as goal

abbrev pub invariant-loop-row : goal.invariant-loop-row
invariant-loop-row l =
    (l.left.index + together index_bytes l.counts ≡ length l.fn.columns.index.now + together index_bytes (drop l.row-index l.counts))
    × (l.left.ids + together id_count l.counts ≡ length l.fn.columns.ids.now + together id_count (drop l.row-index l.counts))
    × (l.left.lengths + together length_count l.counts ≡ length l.fn.columns.lengths.now + together length_count (drop l.row-index l.counts))
    × (l.left.sections + together section_bytes l.counts ≡ length l.fn.columns.sections.now + together section_bytes (drop l.row-index l.counts))
    × (l.left.values + together data_bytes l.counts ≡ length l.fn.columns.values.now + together data_bytes (drop l.row-index l.counts))
