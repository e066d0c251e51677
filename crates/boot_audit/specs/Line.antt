-- The texts that the audit writes: the verdict, and the one line on the error output.
use Rattle.std.specs.Prelude.{ℕ, ◌*◌, List, [], ◌++◌, codes, decimal, Option, Some, None}
use Rattle.bm_base.specs.Text.{hex_text}
use Rattle.bm_base.specs.declared.range.TheConstants.{FRAME_SIZE}
use Rattle.program_end.specs.declared.failure.Failure.{Failure}
use Rattle.program_end.specs.Line.{failure_line}
use Rattle.audit_lines.specs.declared.report.LineFault.{LineFault}
use Rattle.audit_lines.specs.declared.report.LineFault.TheVariants as line_faults
use Rattle.boot_audit.specs.declared.failure.ReportFault.{ReportFault}
use Rattle.boot_audit.specs.declared.failure.ReportFault.TheVariants as faults
use Rattle.boot_audit.specs.declared.failure.NoCause.{NoCause}
use Rattle.boot_audit.specs.declared.failure.SavedReport.{SavedReport}
use Rattle.boot_audit.specs.declared.failure.SavedReport.TheVariants as reports
use Rattle.boot_audit.specs.declared.judgement.Verdict.{Verdict}
use Rattle.boot_audit.specs.declared.judgement.Verdict.TheVariants as verdicts
use Rattle.boot_audit.specs.Reason.{AuditReason}
use Rattle.boot_audit.specs.Args.{AuditArgsView, report_file_name}

-- the text of a verdict on a block: the number of its line in the report `blocks`, from 1, and
-- then `what`, which says what is wrong
abbrev pub block_fault_text : ℕ → List ℕ → List ℕ
block_fault_text line what = codes "not sound: block at line " ++ (decimal line ++ what)

-- the text of a verdict on a frame: the address of its first byte, and then `what`, which says
-- what is wrong
abbrev pub frame_fault_text : ℕ → List ℕ → List ℕ
frame_fault_text frame what = codes "not sound: frame " ++ (hex_text (FRAME_SIZE * frame) ++ what)

-- the text of a verdict
abbrev pub verdict_text : Verdict → List ℕ
verdict_text verdicts.Sound = codes "sound\n"
verdict_text (verdicts.Misaligned line) = block_fault_text line (codes " misaligned\n")
verdict_text (verdicts.WrongZone line) = block_fault_text line (codes " in wrong zone\n")
verdict_text (verdicts.NotFree frame) = frame_fault_text frame (codes " not free\n")
verdict_text (verdicts.Lost frame) = frame_fault_text frame (codes " lost\n")
verdict_text (verdicts.NotMaximal line) = block_fault_text line (codes " not maximal\n")

-- the name of a report in error lines
abbrev pub report_word : SavedReport → List ℕ
report_word reports.Map = codes "map"
report_word reports.Owners = codes "owners"
report_word reports.Blocks = codes "blocks"

-- the error line for line number `line` (from 1) of the report `name`; `what` says what is wrong
-- with it
abbrev pub numbered_line : List ℕ → ℕ → List ℕ → List ℕ
numbered_line name line what = codes "bootaudit: " ++ (name ++ (codes ": line " ++ (decimal line ++ (codes ": " ++ (what ++ codes "\n")))))

-- the error line for a fault of a line of the report `name`: `form` or `order`
abbrev pub line_fault_line : List ℕ → LineFault → List ℕ
line_fault_line name (line_faults.Form line) = numbered_line name line (codes "form")
line_fault_line name (line_faults.Order line) = numbered_line name line (codes "order")

-- the error line for a fault of the report `name`
abbrev pub named_fault_line : List ℕ → ReportFault → List ℕ
named_fault_line name faults.TooLong = codes "bootaudit: " ++ (name ++ codes ": too long\n")
named_fault_line name (faults.Line fault) = line_fault_line name fault

-- the error line for a fault of a report
abbrev pub report_fault_line : SavedReport → ReportFault → List ℕ
report_fault_line report fault = named_fault_line (report_word report) fault

-- the text for a cause why well-formed reports give no verdict; there is no such cause, so this
-- text is never written
abbrev pub impossible_cause_text : NoCause → List ℕ
impossible_cause_text cause = []

-- the name of the report's file on the command line, or the empty text if the command line is
-- refused
abbrev pub report_file_text : Option AuditArgsView → SavedReport → List ℕ
report_file_text None report = []
report_file_text (Some args) report = report_file_name args report

abbrev pub bootaudit_name : List ℕ
bootaudit_name = codes "bootaudit"

-- the line that says why the audit failed
abbrev pub audit_failure_line : Option AuditArgsView → Failure AuditReason → List ℕ
audit_failure_line accepted failure =
    failure_line bootaudit_name (report_file_text accepted) report_fault_line impossible_cause_text failure
