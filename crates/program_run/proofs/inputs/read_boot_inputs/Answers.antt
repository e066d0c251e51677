-- An error of the files stays, whatever table is made. Otherwise the made table replaces the files'
-- entries.
use Rattle.boot_inputs.specs.Inputs.{inputs_of}
use Rattle.boot_model.specs.View.{inputs_view}
use Rattle.program_args.specs.Args.{BootmemArgsView}
use Rattle.program_args.specs.View.{bootmem_args_view}
use Rattle.program_run.specs.Outcome.{with_made_table}
use Rattle.program_run.proofs.GivenLaws.{given_none, given_some}
use Rattle.program_run.proofs.inputs.read_boot_inputs.Goals as goal

pub returns-in_err-inputs-clause-fetches : goal.returns-in_err-inputs-clause-fetches
returns-in_err-inputs-clause-fetches g c =
    let args : BootmemArgsView = bootmem_args_view c.args.args.now in
    given_none inputs_view c.from_residual.result c.in_err-inputs.field-0.0 (g.F.Files.holds c.args.files.now)
    (λ held. inputs_of held args.named args.begun) (with_made_table args.made) c.from_residual.ensures.1
    (rw c.in-Ok.ensures at c.in_err-inputs.ensures.fetches)

pub returns-in-Ok-with_made_table-clause-fetches : goal.returns-in-Ok-with_made_table-clause-fetches
returns-in-Ok-with_made_table-clause-fetches g c =
    let args : BootmemArgsView = bootmem_args_view c.args.args.now in
    given_some (g.F.Files.holds c.args.files.now) (λ held. inputs_of held args.named args.begun) (with_made_table args.made)
    (inputs_view c.in_ok-inputs.inputs) (inputs_view c.in-Ok-with_made_table.inputs) c.in-Ok-with_made_table.ensures.made
    (rw c.in-Ok.ensures at c.in_ok-inputs.ensures.fetches)
