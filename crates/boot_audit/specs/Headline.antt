-- What exit status 0 of `bootaudit` promises, if it is known what the files contain.
use Rattle.std.specs.Prelude.{◌≡◌, Option, Some, Ok}
use Rattle.bm_base.specs.Width.{address_limit_of}
use Rattle.program_end.specs.Program.{FileContents}
use Rattle.boot_audit.specs.Conserved.{LinesConserveMemory}
use Rattle.boot_audit.specs.Outcome.{SavedView, saved_in_files}
use Rattle.boot_audit.specs.Args.{AuditArgsView}

-- the command line is accepted, the three files that it names are well-formed reports, and their
-- lines show that memory was conserved
pub record FilesConserveMemory (accepted : Option AuditArgsView) (held : FileContents) : Type 0 where
  pub args : AuditArgsView
  pub lines : SavedView
  pub args_read : accepted ≡ Some args
  pub texts : saved_in_files held args ≡ Ok lines
  pub conserved : LinesConserveMemory (address_limit_of args.width) lines.map_lines lines.owners lines.blocks
