-- The blocks of the rows are those of the free frames. So the frames of one more row fit in 64
-- bits, and after the last row all frames are counted.
use Rattle.std.proofs.Common.{arith}
use Rattle.bm_base.specs.declared.zone.Zone.TheVariants as zone
use Rattle.buddy_blocks.specs.declared.block.BlockRow.{BlockRow}
use Rattle.buddy_handover.specs.BuddyView.{node_of_free_frame}
use Rattle.debugfs_reports.proofs.SummaryLaws.{counted_few, row_left, row_more}
use Rattle.debugfs_reports.proofs.summary.summary_of.Goals as goal

-- any row, for an index past the last row
abbrev no_row : BlockRow
no_row = record { order = 0; first = 0; count = 0; node = 0; zone = zone.Dma }

pub frames_in_row-free-requires : goal.frames_in_row-free-requires
frames_in_row-free-requires c =
    let rows = c.deref-row-items.result.now in
    let is = rw (← c.deref-row-items.ensures.value) at c.in_ok-rows.ensures.blocks in
    let few = (counted_few rows _ _ _ (node_of_free_frame c.args.booted.now.buddy) is c.loop-row.invariant).0 in
    omega (arith, few, (row_left rows c.loop-row.row-index no_row c.loop-row-test.true).0)

pub overflow_add-free : goal.overflow_add-free
overflow_add-free c =
    let rows = c.deref-row-items.result.now in
    let is = rw (← c.deref-row-items.ensures.value) at c.in_ok-rows.ensures.blocks in
    let few = (counted_few rows _ _ _ (node_of_free_frame c.args.booted.now.buddy) is c.loop-row.invariant).0 in
    omega (arith, few, (row_left rows c.loop-row.row-index no_row c.loop-row-test.true).0, c.frames_in_row-free.ensures)

pub overflow_add-blocks : goal.overflow_add-blocks
overflow_add-blocks c =
    let rows = c.deref-row-items.result.now in
    let is = rw (← c.deref-row-items.ensures.value) at c.in_ok-rows.ensures.blocks in
    let few = (counted_few rows _ _ _ (node_of_free_frame c.args.booted.now.buddy) is c.loop-row.invariant).1 in
    omega (arith, few, (row_left rows c.loop-row.row-index no_row c.loop-row-test.true).1)

pub loop-row-preserved : goal.loop-row-preserved
loop-row-preserved c =
    row_more c.deref-row-items.result.now c.loop-row.row-index _ _ _ no_row c.loop-row-test.true c.frames_in_row-free.ensures
    c.loop-row.invariant
