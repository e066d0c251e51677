use Rattle.e820_model.proofs.ClaimLaws.{finished_one}
use Rattle.e820_model.proofs.laws.final_claims_are_single.Goals as goal

pub returns : goal.returns
returns c = finished_one
