use Rattle.std.proofs.Common.{◌≡◌, ◌+◌, ◌≤◌, length}
use Rattle.audit_lines.specs.Reports.{report_from, report_of, split_lines}
use Rattle.audit_lines.proofs.ReportLaws.{in_front}
use Rattle.audit_lines.proofs.report.read_report.Given as goal

abbrev pub invariant-loop-text : goal.invariant-loop-text
invariant-loop-text g l = record {
  read : in_front l.lines.items
      (report_from g.L.ReportLine.form g.L.ReportLine.extent l.index l.at (split_lines l.rest).0 (split_lines l.rest).1)
      ≡ report_of g.L.ReportLine.form g.L.ReportLine.extent l.bytes;
  indexed : length l.lines.items ≡ l.index;
  few : l.index + length l.rest ≤ length l.bytes;
}

abbrev pub decreases-loop-text : goal.decreases-loop-text
decreases-loop-text g l = length l.rest
