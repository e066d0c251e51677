-- An error of the inputs is the reason why there is no report. Otherwise the texts are those of a
-- boot with these inputs.
use Rattle.program_args.specs.Args.{ProgramArgsView}
use Rattle.program_args.specs.View.{program_args_view}
use Rattle.boot_model.specs.Boot.{whole_boot_with}
use Rattle.debugfs_reports.specs.ReportList.{report_list_text}
use Rattle.program_run.specs.Outcome.{linux_extra, read_boot_inputs61, reports_of_list61}
use Rattle.program_run.proofs.RunLaws.{fetches_none}
use Rattle.program_run.proofs.program61.make_report_texts61.Goals as goal

pub returns-in_err-inputs-clause-fetches : goal.returns-in_err-inputs-clause-fetches
returns-in_err-inputs-clause-fetches g c =
    let args : ProgramArgsView = program_args_view c.args.names.now.args.now in
    fetches_none _ c.from_residual.result (g.F.Files.holds c.args.files.now) (λ held. read_boot_inputs61 held args)
    (λ read. whole_boot_with (linux_extra read.claims) read.inputs) (report_list_text (reports_of_list61 args.list))
    c.in_err-inputs.field-0.0 c.from_residual.ensures.1 c.in_err-inputs.ensures.fetches

pub returns-clause-cause : goal.returns-clause-cause
returns-clause-cause g c =
    c.reports_on_boot61.ensures.cause (g.F.Files.faults c.args.files.now) (g.F.Files.faults c.read_boot_inputs61.new.files)
    (program_args_view c.args.names.now.args.now)
