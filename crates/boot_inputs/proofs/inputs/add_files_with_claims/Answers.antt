-- An error of one part of the files fits the outcome of all of them.
use Rattle.std.proofs.Common.{refl, arith, ◌∙◌}
use Rattle.boot_model.specs.View.{inputs_view}
use Rattle.boot_inputs.specs.declared.input.Input.TheVariants as inputs
use Rattle.boot_inputs.proofs.ReadingLaws.{error_is, own_by}
use Rattle.boot_inputs.proofs.WithClaimsLaws.{claims_fit, early_fits, late_fits}
use Rattle.boot_inputs.proofs.inputs.add_files_with_claims.Goals as goal

pub returns-in_err-add_files-clause-fetches : goal.returns-in_err-add_files-clause-fetches
returns-in_err-add_files-clause-fetches g c =
    rw (error_is _ _ c.from_residual.ensures.1)
    (early_fits (g.F.Files.holds c.args.files.now) (g.N.Names.named c.args.names.now) (inputs_view c.args.inputs.now)
    c.in_err-add_files.field-0.0 (c.in_err-add_files.ensures.own 4 refl) c.in_err-add_files.ensures.fetches)

pub returns-in_err-claims-clause-fetches : goal.returns-in_err-claims-clause-fetches
returns-in_err-claims-clause-fetches g c =
    rw (error_is _ _ c.from_residual-in_err-claims.ensures.1)
    (claims_fit (g.F.Files.holds c.args.files.now) (g.N.Names.named c.args.names.now) (inputs_view c.args.inputs.now)
    c.in_err-claims.field-0.0 (inputs_view c.add_files.new.inputs)
    (own_by c.in_err-claims.field-0.0 inputs.Claims 5 c.in_err-claims.ensures.own (omega arith)) c.in_ok-add_files.ensures.fetches
    (rw c.in_ok-add_files.ensures.kept at c.in_err-claims.ensures.fetches))

pub returns-in_err-add_files-2-clause-fetches : goal.returns-in_err-add_files-2-clause-fetches
returns-in_err-add_files-2-clause-fetches g c =
    rw (error_is _ _ c.from_residual-in_err-add_files-2.ensures.1)
    (late_fits (g.F.Files.holds c.args.files.now) (g.N.Names.named c.args.names.now) (inputs_view c.args.inputs.now)
    c.in_err-add_files-2.field-0.0 (inputs_view c.add_files.new.inputs) c.in_ok-claims.claims.items
    (c.in_err-add_files-2.ensures.own 8 refl) c.in_ok-add_files.ensures.fetches
    (rw c.in_ok-add_files.ensures.kept at c.in_ok-claims.ensures.fetches)
    (rw (c.in_ok-claims.ensures.kept ∙ c.in_ok-add_files.ensures.kept) at c.in_err-add_files-2.ensures.fetches))
