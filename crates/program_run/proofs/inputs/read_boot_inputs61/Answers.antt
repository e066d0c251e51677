-- An error of the files stays, whatever table is made. Otherwise the made table replaces the files'
-- entries, and the early claims are those of the files.
use Rattle.std.proofs.Common.{ap}
use Rattle.boot_inputs.specs.WithClaims.{inputs_with_claims_of, inputs_with_claims_view, with_claims}
use Rattle.boot_model.specs.Boot.{InputsView}
use Rattle.boot_model.specs.View.{inputs_view}
use Rattle.program_args.specs.Args.{ProgramArgsView, named61}
use Rattle.program_args.specs.View.{program_args_view}
use Rattle.program_run.specs.Outcome.{with_made_table61}
use Rattle.program_run.proofs.GivenLaws.{given_none, given_some}
use Rattle.program_run.proofs.inputs.read_boot_inputs61.Goals as goal

pub returns-in_err-inputs-clause-fetches : goal.returns-in_err-inputs-clause-fetches
returns-in_err-inputs-clause-fetches g c =
    let args : ProgramArgsView = program_args_view c.args.names.now.args.now in
    given_none inputs_with_claims_view c.from_residual.result c.in_err-inputs.field-0.0 (g.F.Files.holds c.args.files.now)
    (λ held. inputs_with_claims_of held (named61 args) args.begun) (with_made_table61 args.made) c.from_residual.ensures.1
    (rw c.in-Ok.ensures at c.in_err-inputs.ensures.fetches)

pub returns-in-Ok-with_made_table-clause-fetches : goal.returns-in-Ok-with_made_table-clause-fetches
returns-in-Ok-with_made_table-clause-fetches g c =
    let args : ProgramArgsView = program_args_view c.args.names.now.args.now in
    let claims = c.in_ok-inputs.claims.items in
    given_some (g.F.Files.holds c.args.files.now) (λ held. inputs_with_claims_of held (named61 args) args.begun)
    (with_made_table61 args.made) (with_claims (inputs_view c.in_ok-inputs.inputs) claims)
    (with_claims (inputs_view c.in-Ok-with_made_table.inputs) claims)
    (ap (λ (read : InputsView). with_claims read claims) c.in-Ok-with_made_table.ensures.made)
    (rw c.in-Ok.ensures at c.in_ok-inputs.ensures.fetches)
