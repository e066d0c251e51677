use Rattle.e820_model.proofs.ClaimLaws.{settled_keeps}
use Rattle.e820_model.proofs.laws.settling_keeps_types.Goals as goal

pub returns : goal.returns
returns c = settled_keeps
