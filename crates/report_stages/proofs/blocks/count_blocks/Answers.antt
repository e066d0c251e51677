-- The blocks of the remaining rows are those of the next row and of the rows after it. Their number
-- fits in 64 bits.
use Rattle.std.proofs.Common.{arith}
use Rattle.bm_base.specs.declared.zone.Zone.TheVariants as zone
use Rattle.buddy_blocks.specs.declared.block.BlockRow.{BlockRow}
use Rattle.report_stages.proofs.RowLaws.{rows_left}
use Rattle.report_stages.proofs.blocks.count_blocks.Goals as goal

abbrev no_row : BlockRow
no_row = record { order = 0; first = 0; count = 0; node = 0; zone = zone.Dma }

pub overflow_add-count : goal.overflow_add-count
overflow_add-count c =
    let left = rows_left c.args.rows.now c.loop-row.row-index no_row c.loop-row-test.true in
    omega (arith, left, c.loop-row.invariant, c.requires)

pub loop-row-preserved : goal.loop-row-preserved
loop-row-preserved c =
    let left = rows_left c.args.rows.now c.loop-row.row-index no_row c.loop-row-test.true in
    omega (arith, left, c.loop-row.invariant)
