-- The text so far, followed by the lines of the blocks that are left, is the lines of all blocks.
-- The text's room doesn't shrink.
use Rattle.std.proofs.Common.{◌≡◌, ◌≤◌, ◌++◌, vec_capacity}
use Rattle.buddy_blocks.specs.Rows.{row_from, blocks_of_row}
use Rattle.report_stages.specs.BlocksText.{AreAlignedBlocks}
use Rattle.report_stages.proofs.RowLaws.{lines}
use Rattle.report_stages.proofs.blocks.put_each_block.Given as goal

abbrev pub invariant-loop-left : goal.invariant-loop-left
invariant-loop-left l = record {
  low : AreAlignedBlocks (row_from l.row.order l.first l.row.node l.row.zone l.left);
  text : l.text.items ++ lines (row_from l.row.order l.first l.row.node l.row.zone l.left)
      ≡ l.fn.text.items ++ lines (blocks_of_row l.row);
  room : vec_capacity l.fn.text ≤ vec_capacity l.text;
}

abbrev pub decreases-loop-left : goal.decreases-loop-left
decreases-loop-left l = l.left
