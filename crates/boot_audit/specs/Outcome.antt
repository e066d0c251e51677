-- The outcome of the audit, which the command line and the contents of the files determine. `held`
-- gives the bytes of the file with a name, or `None` if there is no such file.
use Rattle.std.specs.Prelude.{ℕ, nat_lt, if◌then◌else◌, List, length, Option, Some, None, Result, Ok, Err}
use Rattle.bm_base.specs.Range.{RangeView}
use Rattle.bm_base.specs.ResultSteps.{◌>>=◌, map_error}
use Rattle.bm_base.specs.Width.{address_limit_of}
use Rattle.program_end.specs.declared.failure.Reason.TheVariants as reasons
use Rattle.program_end.specs.Fetches.{accepted_or_usage}
use Rattle.program_end.specs.Program.{FileContents}
use Rattle.audit_lines.specs.Blocks.{BlockLineView, bytes_of_block}
use Rattle.audit_lines.specs.Forms.{block_in, map_line_in, owner_line_in}
use Rattle.audit_lines.specs.Reports.{report_of}
use Rattle.audit_lines.specs.declared.lines.MapLine.{MapLine}
use Rattle.boot_audit.specs.declared.failure.ReportFault.TheVariants as faults
use Rattle.boot_audit.specs.declared.failure.SavedReport.{SavedReport}
use Rattle.boot_audit.specs.declared.failure.SavedReport.TheVariants as reports
use Rattle.boot_audit.specs.declared.judgement.Verdict.{Verdict}
use Rattle.boot_audit.specs.Reason.{AuditReason}
use Rattle.boot_audit.specs.Verdicts.{verdict_on_lines}
use Rattle.boot_audit.specs.Args.{AuditArgsView}

-- the lines of a report, or the reason why there are none. The last argument has the bytes of the
-- report's file, or is `None` if there is no such file. A file may have at most 512 MiB.
abbrev pub lines_in_file : {L : Type 0} → (ℕ → List ℕ → Option L) → (L → RangeView) → SavedReport → Option (List ℕ)
    → Result (List L) AuditReason
lines_in_file form extent report None = Err (reasons.Unread report)
lines_in_file form extent report (Some bytes) =
    if nat_lt 536870912 (length bytes) then Err (reasons.Faulty report faults.TooLong) else
    map_error (λ fault. reasons.Faulty report (faults.Line fault)) (report_of form extent bytes)

-- the lines of the three reports
pub record SavedView : Type 0 where
  pub map_lines : List MapLine
  pub owners : List RangeView
  pub blocks : List BlockLineView

-- the lines of the three files, or the reason why the first file that has a fault gives none; the
-- files are read in the order `map`, `owners`, `blocks`
abbrev pub saved_in_files : FileContents → AuditArgsView → Result SavedView AuditReason
saved_in_files held args = do
  map_lines ← lines_in_file map_line_in (λ l. l.range) reports.Map (held args.map_name)
  owners ← lines_in_file owner_line_in (λ r. r) reports.Owners (held args.owners_name)
  blocks ← lines_in_file block_in bytes_of_block reports.Blocks (held args.blocks_name)
  Ok (record { map_lines = map_lines; owners = owners; blocks = blocks })

-- the verdict on these lines, for the width that the command line gives
abbrev pub verdict_for_args : AuditArgsView → SavedView → Verdict
verdict_for_args args lines = verdict_on_lines (address_limit_of args.width) lines.map_lines lines.owners lines.blocks

-- the outcome of the audit: the verdict on the three files, or the reason why there is none.
-- `accepted` is the command line, or `None` if it was refused.
abbrev pub audit_outcome : Option AuditArgsView → FileContents → Result Verdict AuditReason
audit_outcome accepted held = do
  args ← accepted_or_usage accepted
  lines ← saved_in_files held args
  Ok (verdict_for_args args lines)
