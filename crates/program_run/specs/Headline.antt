-- What exit status 0 promises, if it is known what the files contain and what was written to the
-- output before.
use Rattle.std.specs.Prelude.{◌≡◌, ℕ, List, Option, Some, Ok}
use Rattle.std.specs.Io.KnownBytes.{Appends}
use Rattle.program_end.specs.Program.{FileContents}
use Rattle.boot_inputs.specs.WithClaims.{InputsWithClaims}
use Rattle.boot_model.specs.Boot.{InputsView, BootedView, whole_boot, whole_boot_with}
use Rattle.conservation.specs.Headline.{AllTouchedOrInOneBlock, BlocksAreMaximal, BlocksAreWhole, NoOtherInABlock}
use Rattle.debugfs_reports.specs.ReportList.{report_list_text}
use Rattle.program_run.specs.Outcome.{linux_extra, read_boot_inputs, read_boot_inputs61, reports_of_list61}
use Rattle.program_args.specs.Args.{BootmemArgsView, ProgramArgsView}

-- The whole text of the requested reports was appended to the output (`written`). It describes the
-- one boot that the command line and the files' bytes determine (`words`, `inputs`, `boots`). In
-- this boot each usable frame is touched by a claim with a recorded owner, or is in exactly one
-- block (`each`). No other frame is in a block (`others`). Each block is aligned and free, lies in
-- one node and one zone (`whole`), and is as large as possible (`maximal`).
pub record AppendsReports (accepted : Option BootmemArgsView) (held : FileContents) (old new : Option (List ℕ)) : Type 0 where
  pub args : BootmemArgsView
  pub inputs : InputsView
  pub booted : BootedView
  pub args_read : accepted ≡ Some args
  pub inputs_read : read_boot_inputs held args ≡ Ok inputs
  pub boots : whole_boot inputs ≡ Ok booted
  pub written : Appends old new (report_list_text args.reports booted)
  pub each : AllTouchedOrInOneBlock inputs booted
  pub others : NoOtherInABlock inputs booted
  pub whole : BlocksAreWhole inputs booted
  pub maximal : BlocksAreMaximal inputs booted

-- For `bootmem61`: the whole text of the requested reports was appended to the output (`written`).
-- It describes the one boot that the command line and the files' bytes determine, with the rules of
-- Linux 6.1 and the early claims of the files (`words`, `inputs`, `boots`). In this boot each
-- usable frame is touched by a claim with a recorded owner, or is in exactly one block (`each`). No
-- other frame is in a block (`others`). Each block is aligned and free, lies in one node and one
-- zone (`whole`), and is as large as possible (`maximal`).
pub record AppendsReports61 (accepted : Option ProgramArgsView) (held : FileContents) (old new : Option (List ℕ)) : Type 0 where
  pub args : ProgramArgsView
  pub read : InputsWithClaims
  pub booted : BootedView
  pub args_read : accepted ≡ Some args
  pub inputs_read : read_boot_inputs61 held args ≡ Ok read
  pub boots : whole_boot_with (linux_extra read.claims) read.inputs ≡ Ok booted
  pub written : Appends old new (report_list_text (reports_of_list61 args.list) booted)
  pub each : AllTouchedOrInOneBlock read.inputs booted
  pub others : NoOtherInABlock read.inputs booted
  pub whole : BlocksAreWhole read.inputs booted
  pub maximal : BlocksAreMaximal read.inputs booted
