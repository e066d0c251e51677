-- Files that contain the three reports of one boot.
use Rattle.std.specs.Prelude.{◌≡◌, ℕ, ◌≤◌, List, length, Option, Some}
use Rattle.program_end.specs.Program.{FileContents}
use Rattle.boot_audit.specs.Args.{AuditArgsView}
use Rattle.boot_model.specs.Boot.{BootedView}
use Rattle.debugfs_reports.specs.Report.{report_text}
use Rattle.debugfs_reports.specs.declared.report.Report.TheVariants as reports

-- the file contains exactly this text, which has at most 512 MiB, as much as the audit reads
pub record IsSaved (held : Option (List ℕ)) (text : List ℕ) : Type 0 where
  pub holds : held ≡ Some text
  pub short : length text ≤ 536870912

-- the three files that the command line of the audit names contain the reports of the boot, and
-- the command line states the boot's width of physical addresses
pub record AreSaved (held : FileContents) (args : AuditArgsView) (booted : BootedView) : Type 0 where
  pub width : args.width ≡ booted.width
  pub map : IsSaved (held args.map_name) (report_text reports.Map booted)
  pub owners : IsSaved (held args.owners_name) (report_text reports.Owners booted)
  pub blocks : IsSaved (held args.blocks_name) (report_text reports.Blocks booted)
