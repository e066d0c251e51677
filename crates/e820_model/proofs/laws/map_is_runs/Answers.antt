use Rattle.e820_model.proofs.ClaimLaws.{map_runs}
use Rattle.e820_model.proofs.laws.map_is_runs.Goals as goal

pub returns : goal.returns
returns c = map_runs
