-- The first match among the remaining reports is the first match among all.
use Rattle.std.proofs.Common.{◌≡◌, length}
use Rattle.debugfs_reports.specs.Report.{first_report_named}
use Rattle.debugfs_reports.proofs.report.first_report_named.Given as goal

abbrev pub invariant-loop-rest : goal.invariant-loop-rest
invariant-loop-rest l = first_report_named l.rest l.name ≡ first_report_named l.reports l.name

abbrev pub decreases-loop-rest : goal.decreases-loop-rest
decreases-loop-rest l = length l.rest
