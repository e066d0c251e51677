-- An error of the inputs is the reason why there is no report. Otherwise the texts are those of a
-- boot with these inputs.
use Rattle.program_args.specs.Args.{BootmemArgsView}
use Rattle.program_args.specs.View.{bootmem_args_view}
use Rattle.boot_model.specs.Boot.{whole_boot}
use Rattle.debugfs_reports.specs.ReportList.{report_list_text}
use Rattle.program_run.specs.Outcome.{read_boot_inputs}
use Rattle.program_run.proofs.RunLaws.{fetches_none}
use Rattle.program_run.proofs.program.make_report_texts.Goals as goal

pub returns-in_err-inputs-clause-fetches : goal.returns-in_err-inputs-clause-fetches
returns-in_err-inputs-clause-fetches g c =
    let args : BootmemArgsView = bootmem_args_view c.args.args.now in
    fetches_none _ c.from_residual.result (g.F.Files.holds c.args.files.now) (λ held. read_boot_inputs held args)
    whole_boot (report_list_text args.reports) c.in_err-inputs.field-0.0 c.from_residual.ensures.1 c.in_err-inputs.ensures.fetches

pub returns-clause-cause : goal.returns-clause-cause
returns-clause-cause g c =
    c.reports_on_boot.ensures.cause (g.F.Files.faults c.args.files.now) (g.F.Files.faults c.read_boot_inputs.new.files)
    (bootmem_args_view c.args.args.now)
