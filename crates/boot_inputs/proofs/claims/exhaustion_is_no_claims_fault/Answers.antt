use Rattle.boot_inputs.proofs.ClaimsLaws.{claims_other}
use Rattle.boot_inputs.proofs.claims.exhaustion_is_no_claims_fault.Goals as goal

pub returns : goal.returns
returns c = claims_other
