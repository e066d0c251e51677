-- A row that has a block has an order below 64.
use Rattle.std.proofs.Common.{arith}
use Rattle.debugfs_reports.proofs.SummaryLaws.{shift_small}
use Rattle.debugfs_reports.proofs.summary.frames_in_row.Goals as goal

pub overflow_shl-result : goal.overflow_shl-result
overflow_shl-result c = shift_small c.args.row.now.count c.args.row.now.order (omega arith) c.requires
