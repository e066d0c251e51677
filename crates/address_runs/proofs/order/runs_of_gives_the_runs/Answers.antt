use Rattle.address_runs.proofs.RunsLaws.{runs_of_are_runs}
use Rattle.address_runs.proofs.order.runs_of_gives_the_runs.Goals as goal

pub returns : goal.returns
returns g c = λ same f tells none. runs_of_are_runs same tells f none
