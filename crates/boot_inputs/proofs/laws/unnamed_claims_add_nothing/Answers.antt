use Rattle.boot_inputs.proofs.WithClaimsLaws.{unnamed_is_without}
use Rattle.boot_inputs.proofs.laws.unnamed_claims_add_nothing.Goals as goal

pub returns : goal.returns
returns c = unnamed_is_without
