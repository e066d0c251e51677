-- Each block is aligned and below the limit, and the lines of a row are the next ones.
use Rattle.report_stages.proofs.RowLaws.{row_put, rows_placed}
use Rattle.report_stages.proofs.blocks.put_rows.Goals as goal

pub put_row-requires : goal.put_row-requires
put_row-requires c = rows_placed c.args.rows.now c.loop-row.row-index _ c.requires c.loop-row-test.true

pub loop-row-preserved : goal.loop-row-preserved
loop-row-preserved c =
    row_put c.args.rows.now c.loop-row.row-index _ _ _ _ c.loop-row-test.true c.in_ok-put_row.ensures c.loop-row.invariant
