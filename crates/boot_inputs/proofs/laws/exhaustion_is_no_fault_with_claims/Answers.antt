use Rattle.boot_inputs.proofs.WithClaimsLaws.{with_claims_other}
use Rattle.boot_inputs.proofs.laws.exhaustion_is_no_fault_with_claims.Goals as goal

pub returns : goal.returns
returns c =
    with_claims_other c.exhaustion_is_no_fault_of_any.ensures c.exhaustion_is_no_fault_of_any-2.ensures
    c.exhaustion_is_no_claims_fault.ensures
