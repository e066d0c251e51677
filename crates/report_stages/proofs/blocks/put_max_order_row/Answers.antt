-- The row is cut into three parts, whose lines are appended one after another.
use Rattle.std.proofs.Common.{arith}
use Rattle.report_stages.specs.BlocksText.{row_text}
use Rattle.report_memory.proofs.PutLaws.{puts_ok}
use Rattle.report_stages.proofs.GreatRowLaws.{great_parts, parts_put}
use Rattle.report_stages.proofs.blocks.put_max_order_row.Goals as goal

pub part_of_row-requires : goal.part_of_row-requires
part_of_row-requires c =
    let end = (great_parts c.args.row.now c.requires.great c.requires.many c.requires.placed).end in omega (arith, end)

pub put_each_block-requires : goal.put_each_block-requires
put_each_block-requires c =
    rw c.part_of_row.ensures (great_parts c.args.row.now c.requires.great c.requires.many c.requires.placed).before

pub part_of_row-requires-2 : goal.part_of_row-requires-2
part_of_row-requires-2 c =
    let parts = great_parts c.args.row.now c.requires.great c.requires.many c.requires.placed in
    omega arith

pub put_row_in_batches-requires-clause-fill : goal.put_row_in_batches-requires-clause-fill
put_row_in_batches-requires-clause-fill c =
    rw c.part_of_row-2.ensures (great_parts c.args.row.now c.requires.great c.requires.many c.requires.placed).fill

pub part_of_row-requires-3 : goal.part_of_row-requires-3
part_of_row-requires-3 c =
    let end = (great_parts c.args.row.now c.requires.great c.requires.many c.requires.placed).end in omega (arith, end)

pub put_each_block-requires-2 : goal.put_each_block-requires-2
put_each_block-requires-2 c =
    rw c.part_of_row-3.ensures (great_parts c.args.row.now c.requires.great c.requires.many c.requires.placed).after

pub returns : goal.returns
returns c =
    let row = c.args.row.now in
    let parts = great_parts row c.requires.great c.requires.many c.requires.placed in
    parts_put row _ _ c.put_each_block-2.result _ _ _ _ parts (rw c.part_of_row.ensures at c.in_ok-put_each_block.ensures.0)
    (rw c.part_of_row-2.ensures at c.in_ok-put_row_in_batches.ensures)
    (rw c.part_of_row-3.ensures at
    (puts_ok c.put_row_in_batches.new.text c.put_each_block-2.new.text c.put_each_block-2.result
    (row_text c.part_of_row-3.result) c.put_each_block-2.ensures))
