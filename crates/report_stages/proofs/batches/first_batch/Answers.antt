-- The first blocks of the row are aligned and below the limit.
use Rattle.report_stages.proofs.BatchLaws.{batch_placed}
use Rattle.report_stages.proofs.batches.first_batch.Goals as goal

pub put_each_block-requires : goal.put_each_block-requires
put_each_block-requires c = batch_placed c.args.row.now c.requires.fill c.requires.some
