-- The outcome of each program: the text of the reports, or the reason why there is none, as the
-- command line and the contents of the files determine it. `held` gives the bytes of each file by
-- its name.
use Rattle.std.specs.Prelude.{ℕ, List, drop, take, Option, Some, None, Result, Ok}
use Rattle.bm_base.specs.ResultSteps.{◌>>=◌, map_error}
use Rattle.e820_table.specs.Made.{generated_entries}
use Rattle.boot_inputs.specs.Reason.{InputsReason}
use Rattle.boot_inputs.specs.Inputs.{inputs_of}
use Rattle.boot_inputs.specs.WithClaims.{InputsWithClaims, inputs_with_claims_of}
use Rattle.program_end.specs.Program.{FileContents}
use Rattle.boot_model.specs.declared.stop.Cause.{Cause}
use Rattle.boot_model.specs.Boot.{ExtraView, InputsView, whole_boot, whole_boot_with}
use Rattle.boot_model.specs.Profiles.{linux_profile}
use Rattle.debugfs_reports.specs.declared.report.Report.{Report}
use Rattle.debugfs_reports.specs.Report.{reports_with_claims}
use Rattle.debugfs_reports.specs.ReportList.{report_list_text, reports_named_in}
use Rattle.program_end.specs.declared.failure.Reason.TheVariants as reasons
use Rattle.program_end.specs.Fetches.{accepted_or_usage}
use Rattle.program_args.specs.Args.{BootmemArgsView, ProgramArgsView, named61}
use Rattle.script_reader.specs.declared.act.Line.{Line}

-- the value, or `Stopped` with the cause of the boot's stop as the reason why there is no report
abbrev pub value_or_stopped : {A : Type 0} → Result A Cause → Result A InputsReason
value_or_stopped answer = map_error reasons.Stopped answer

-- The inputs with a generated e820 table of `count` entries, or unchanged inputs without `--make`
-- (`None`). The first 128 entries replace those of the zero page, the others replace those of the
-- extension, and the initrd is dropped.
abbrev pub with_made_table : Option ℕ → InputsView → InputsView
with_made_table None inputs = inputs
with_made_table (Some count) inputs = record inputs {
  entries = take 128 (generated_entries count);
  initrd = None;
  extension = drop 128 (generated_entries count);
}

-- the inputs of the boot that the command line and its files give, with the generated table of
-- `--make`; or the reason for the first file that is refused
abbrev pub read_boot_inputs : FileContents → BootmemArgsView → Result InputsView InputsReason
read_boot_inputs held args = do
  inputs ← inputs_of held args.named args.begun
  Ok (with_made_table args.made inputs)

-- the text of the reports on a boot with these inputs, or the cause for which the boot stops
abbrev pub reports_on_boot : List Report → InputsView → Result (List ℕ) InputsReason
reports_on_boot reports inputs = do
  booted ← value_or_stopped (whole_boot inputs)
  Ok (report_list_text reports booted)

-- the outcome of `bootmem`: the text of the requested reports, or the reason why there is none.
-- `accepted` is what the command line asks for, or `None` if it is refused.
abbrev pub bootmem_outcome : Option BootmemArgsView → FileContents → Result (List ℕ) InputsReason
bootmem_outcome accepted held = do
  args ← accepted_or_usage accepted
  inputs ← read_boot_inputs held args
  reports_on_boot args.reports inputs

-- the inputs with the generated e820 table of `--make`, if there is one; the early claims are
-- unchanged
abbrev pub with_made_table61 : Option ℕ → InputsWithClaims → InputsWithClaims
with_made_table61 made read = record { inputs = with_made_table made read.inputs; claims = read.claims }

-- the inputs of the boot and the early claims that the command line of `bootmem61` and its files
-- give, with the generated table of `--make`; or the reason for the first file that is refused
abbrev pub read_boot_inputs61 : FileContents → ProgramArgsView → Result InputsWithClaims InputsReason
read_boot_inputs61 held args = do
  read ← inputs_with_claims_of held (named61 args) args.begun
  Ok (with_made_table61 args.made read)

-- what a boot of `bootmem61` gets besides its inputs: the profile of Linux 6.1, and the early
-- claims
abbrev pub linux_extra : List Line → ExtraView
linux_extra claims = record { profile = linux_profile; claims = claims }

-- the text of the reports on a boot of `bootmem61` with these inputs and early claims, or the cause
-- for which the boot stops
abbrev pub reports_on_boot61 : List Report → InputsWithClaims → Result (List ℕ) InputsReason
reports_on_boot61 reports read = do
  booted ← value_or_stopped (whole_boot_with (linux_extra read.claims) read.inputs)
  Ok (report_list_text reports booted)

-- the reports of `bootmem61` whose names are in the list, in the order of the list
abbrev pub reports_of_list61 : List ℕ → List Report
reports_of_list61 list = reports_named_in reports_with_claims list

-- the outcome of `bootmem61`: the text of the requested reports, or the reason why there is none.
-- `accepted` is what the command line asks for, or `None` if it is refused.
abbrev pub bootmem61_outcome : Option ProgramArgsView → FileContents → Result (List ℕ) InputsReason
bootmem61_outcome accepted held = do
  args ← accepted_or_usage accepted
  read ← read_boot_inputs61 held args
  reports_on_boot61 (reports_of_list61 args.list) read
