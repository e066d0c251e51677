-- The audit as a program over files.
use Rattle.std.specs.Prelude.{◌≡◌, ◌≢◌, ℕ, Result, Ok, Some}
use Rattle.program_end.specs.Program.{Program}
use Rattle.boot_audit.specs.declared.failure.SavedReport.{SavedReport}
use Rattle.boot_audit.specs.declared.failure.SavedReport.TheVariants as reports
use Rattle.boot_audit.specs.declared.judgement.Verdict.{Verdict}
use Rattle.boot_audit.specs.declared.judgement.Verdict.TheVariants as verdicts
use Rattle.boot_audit.specs.Line.{verdict_text}
use Rattle.boot_audit.specs.Reason.{AuditReason}
use Rattle.boot_audit.specs.Status.{verdict_status, verdict_statuses}
use Rattle.boot_audit.specs.Args.{AuditArgsView, report_file_name}

-- the position of each report in the order in which they are read
abbrev pub report_position : SavedReport → ℕ
report_position reports.Map = 0
report_position reports.Owners = 1
report_position reports.Blocks = 2

-- `bootaudit` as a program over files: its command line names a file for each report, and its
-- result is a verdict
abbrev pub bootaudit : Program AuditArgsView SavedReport Verdict
bootaudit = record {
  place = report_position;
  named = λ args report. Some (report_file_name args report);
  text = verdict_text;
  status = verdict_status;
  statuses = verdict_statuses;
}

-- the outcome `said` is a verdict, and not `Sound`
abbrev pub IsUnsound : Result Verdict AuditReason → Type 0
IsUnsound said = (verdict : Verdict) × ((said ≡ Ok verdict) × (verdict ≢ verdicts.Sound))
