-- An error of the files, or a stop of the boot, is that of the outcome. Otherwise the results are
-- those of the boot with these inputs and early claims.
use Rattle.std.proofs.Common.{◌≡◌, ◌≢◌, ◌∙◌, Err, Ok, Some, ap}
use Rattle.std.proofs.lemmas.Result.{err_from_is_err_and}
use Rattle.bm_base.specs.ResultSteps.{map_error}
use Rattle.bm_io.specs.MemFiles.{file_bytes}
use Rattle.boot_inputs.specs.Reason.{NoInputs}
use Rattle.boot_inputs.specs.WithClaims.{InputsWithClaims, with_claims}
use Rattle.boot_model.specs.Boot.{whole_boot_with}
use Rattle.boot_model.specs.declared.stop.Stop.TheVariants as stops
use Rattle.boot_model.specs.Stop.{stop_of}
use Rattle.boot_model.specs.View.{booted_view, inputs_view}
use Rattle.debugfs_reports.specs.ReportList.{report_list_text}
use Rattle.program_args.specs.Args.{ProgramArgsView, named61}
use Rattle.program_args.specs.View.{program_args_view}
use Rattle.program_run.specs.Outcome.{linux_extra, read_boot_inputs61, reports_of_list61, reports_on_boot61}
use Rattle.program_run.proofs.BootedLaws.{boot61_stopped}
use Rattle.bootmem_c.proofs.BootLaws.{boot_failed, inputs_failed, is_boot61}
use Rattle.bootmem_c.proofs.ExactLaws.{bootmem61_names_unread}
use Rattle.bootmem_c.proofs.boots61.boot_with_args61.Goals as goal

pub returns-in_err-inputs-clause-fails : goal.returns-in_err-inputs-clause-fails
returns-in_err-inputs-clause-fails c =
    let p = err_from_is_err_and c.from_residual.result c.from_residual.ensures.1 in
    let args : ProgramArgsView = program_args_view c.args.args.now in
    inputs_failed named61 (λ held. read_boot_inputs61 held args) (λ read. whole_boot_with (linux_extra read.claims) read.inputs)
    (report_list_text (reports_of_list61 args.list)) c.from_residual.result c.in_err-inputs.field-0.0 c.new.result
    c.read_boot_inputs61.new.files _ args (bootmem61_names_unread (file_bytes c.new.result.files) (Some args))
    (p.1 ∙ ap (λ (e : NoInputs). Err e) p.2) c.new.ensures.files c.in_err-inputs.ensures.fetches
    c.in_err-inputs.ensures.cause

pub returns-clause-fails : goal.returns-clause-fails
returns-clause-fails c =
    let args : ProgramArgsView = program_args_view c.args.args.now in
    let read : InputsWithClaims = with_claims (inputs_view c.in_ok-inputs.inputs) c.in_ok-inputs.claims.items in
    let reports = reports_of_list61 args.list in
    let stops : c.in-Err.stop ≢ stops.Memory
    → map_error stop_of (whole_boot_with (linux_extra read.claims) read.inputs) ≡ Err c.in-Err.stop
    = rw c.linux_6_1.ensures at c.in-Err.ensures.boots in
    rw c.reason_by_stop.ensures
    (boot_failed c.in-Err.stop c.new.result.files _ (λ held. read_boot_inputs61 held args) (reports_on_boot61 reports) read
    c.new.ensures.files c.in_ok-inputs.ensures.fetches (boot61_stopped c.in-Err.stop read reports stops))

pub returns-in-Ok-clause-boots : goal.returns-in-Ok-clause-boots
returns-in-Ok-clause-boots c =
    let read : InputsWithClaims = with_claims (inputs_view c.in_ok-inputs.inputs) c.in_ok-inputs.claims.items in
    let boots : map_error stop_of (whole_boot_with (linux_extra read.claims) read.inputs) ≡ Ok (booted_view c.in-Ok.booted)
    = rw c.linux_6_1.ensures at c.in-Ok.ensures.boots in
    is_boot61 c.new.result.files _ (program_args_view c.args.args.now) read (booted_view c.in-Ok.booted) c.new.ensures.files
    c.in_ok-inputs.ensures.fetches boots
