-- The blocks so far and those of the remaining rows are together all blocks. The same is true of
-- their frames.
use Rattle.debugfs_reports.proofs.SummaryLaws.{Counted}
use Rattle.debugfs_reports.proofs.summary.summary_of.Given as goal

abbrev pub invariant-loop-row : goal.invariant-loop-row
invariant-loop-row l = Counted l.row-items l.row-index l.free l.blocks
