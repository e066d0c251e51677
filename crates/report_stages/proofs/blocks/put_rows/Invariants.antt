-- The text so far, followed by the lines of the rows that are left, is the lines of all rows.
use Rattle.std.proofs.Common.{◌≡◌, ◌++◌, drop}
use Rattle.buddy_blocks.specs.Rows.{blocks_of_rows}
use Rattle.report_stages.proofs.RowLaws.{lines}
use Rattle.report_stages.proofs.blocks.put_rows.Given as goal

abbrev pub invariant-loop-row : goal.invariant-loop-row
invariant-loop-row l = l.text.items ++ lines (blocks_of_rows (drop l.row-index l.rows)) ≡ l.fn.text.items ++ lines (blocks_of_rows l.rows)
