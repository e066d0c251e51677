-- the goals for appending one more part
use Rattle.std.proofs.Common.{arith}
use Rattle.std.proofs.lemmas.Grind.{common_steps}
use Rattle.debugfs_reports.proofs.list.render_all.Goals as goal

pub loop-report-preserved : goal.loop-report-preserved
loop-report-preserved c = record {
  each = grind (arith, common_steps, c.loop-report.invariant.each, c.in_ok-render_part.ensures);
  whole = grind (arith, common_steps, c.loop-report.invariant.whole, c.in_ok-render_part.ensures);
}
