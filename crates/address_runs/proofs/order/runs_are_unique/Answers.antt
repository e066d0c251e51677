use Rattle.address_runs.proofs.RunsLaws.{runs_of_function_are_equal}
use Rattle.address_runs.proofs.order.runs_are_unique.Goals as goal

pub returns : goal.returns
returns g c = runs_of_function_are_equal
