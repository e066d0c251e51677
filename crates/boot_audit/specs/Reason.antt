-- The reasons why there is no verdict.
use Rattle.boot_audit.specs.declared.failure.ReportFault.{ReportFault}
use Rattle.boot_audit.specs.declared.failure.NoCause.{NoCause}
use Rattle.boot_audit.specs.declared.failure.SavedReport.{SavedReport}
use Rattle.program_end.specs.declared.failure.Reason.{Reason as ReasonOf}

-- why there is no verdict: the command line is refused, or a file can't be read or has a fault
abbrev pub AuditReason : Type 0
AuditReason = ReasonOf SavedReport ReportFault NoCause
