-- The blocks counted so far and those of the remaining rows are together all blocks.
use Rattle.std.proofs.Common.{◌≡◌, ◌+◌, drop, length}
use Rattle.buddy_blocks.specs.Rows.{blocks_of_rows}
use Rattle.report_stages.proofs.blocks.count_blocks.Given as goal

abbrev pub invariant-loop-row : goal.invariant-loop-row
invariant-loop-row l = l.count + length (blocks_of_rows (drop l.row-index l.rows)) ≡ length (blocks_of_rows l.rows)
