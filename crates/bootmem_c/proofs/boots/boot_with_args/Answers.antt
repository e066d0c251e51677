-- An error of the files, or a stop of the boot, is that of the outcome. Otherwise the results are
-- those of the boot with these inputs.
use Rattle.std.proofs.Common.{◌∙◌, Err, Some, ap, refl}
use Rattle.std.proofs.lemmas.Result.{err_from_is_err_and}
use Rattle.bm_io.specs.MemFiles.{file_bytes}
use Rattle.boot_inputs.specs.Reason.{NoInputs}
use Rattle.boot_model.specs.Boot.{whole_boot}
use Rattle.boot_model.specs.View.{booted_view, inputs_view}
use Rattle.debugfs_reports.specs.ReportList.{report_list_text}
use Rattle.program_args.specs.Args.{BootmemArgsView}
use Rattle.program_args.specs.View.{bootmem_args_view}
use Rattle.program_run.specs.Outcome.{read_boot_inputs, reports_on_boot}
use Rattle.program_run.proofs.BootedLaws.{boot_stopped}
use Rattle.bootmem_c.proofs.BootLaws.{boot_failed, inputs_failed, is_boot}
use Rattle.bootmem_c.proofs.ExactLaws.{bootmem_names_unread}
use Rattle.bootmem_c.proofs.boots.boot_with_args.Goals as goal

pub returns-in_err-inputs-clause-fails : goal.returns-in_err-inputs-clause-fails
returns-in_err-inputs-clause-fails c =
    let p = err_from_is_err_and c.from_residual.result c.from_residual.ensures.1 in
    let args : BootmemArgsView = bootmem_args_view c.args.args.now in
    inputs_failed (λ args. args.named) (λ held. read_boot_inputs held args) whole_boot (report_list_text args.reports)
    c.from_residual.result c.in_err-inputs.field-0.0 c.new.result c.read_boot_inputs.new.files _ args
    (bootmem_names_unread (file_bytes c.new.result.files) (Some args) refl) (p.1 ∙ ap (λ (e : NoInputs). Err e) p.2) c.new.ensures.files
    c.in_err-inputs.ensures.fetches c.in_err-inputs.ensures.cause

pub returns-in-Err-clause-fails : goal.returns-in-Err-clause-fails
returns-in-Err-clause-fails c =
    let args : BootmemArgsView = bootmem_args_view c.args.args.now in
    let inputs = inputs_view c.in_ok-inputs.inputs in
    rw c.reason_by_stop.ensures
    (boot_failed c.in-Err.stop c.new.result.files _ (λ held. read_boot_inputs held args) (reports_on_boot args.reports) inputs
    c.new.ensures.files c.in_ok-inputs.ensures.fetches (boot_stopped c.in-Err.stop inputs args.reports c.in-Err.ensures.boots))

pub returns-in-Ok-clause-boots : goal.returns-in-Ok-clause-boots
returns-in-Ok-clause-boots c =
    is_boot c.new.result.files _ (bootmem_args_view c.args.args.now) (inputs_view c.in_ok-inputs.inputs) (booted_view c.in-Ok.booted)
    c.new.ensures.files c.in_ok-inputs.ensures.fetches c.in-Ok.ensures.boots
