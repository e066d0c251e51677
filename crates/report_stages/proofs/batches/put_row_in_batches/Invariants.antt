-- The lines in memory are those of the next 4 GiB. The text so far, followed by the lines of the
-- blocks that are left, is the whole text.
use Rattle.std.proofs.Common.{◌≡◌, ◌++◌}
use Rattle.report_stages.specs.BlocksText.{row_text}
use Rattle.report_stages.specs.Batches.{FillBatches, first_batch}
use Rattle.report_stages.proofs.batches.put_row_in_batches.Given as goal

abbrev pub invariant-loop-left : goal.invariant-loop-left
invariant-loop-left l = record {
  fill : FillBatches (record l.row { first = l.first; count = l.left });
  lines : l.lines.items ≡ first_batch (record l.row { first = l.first; count = l.left });
  text : l.text.items ++ row_text (record l.row { first = l.first; count = l.left }) ≡ l.fn.text.items ++ row_text l.row;
}

abbrev pub decreases-loop-left : goal.decreases-loop-left
decreases-loop-left l = l.left
