use Rattle.stage_steps.proofs.RequestLaws.{ends-change, ends-carried, ends-placed}
use Rattle.stage_steps.proofs.laws.calls_end_as_steps.Goals as goal

pub returns-clause-change : goal.returns-clause-change
returns-clause-change c = ends-change

pub returns-clause-carried : goal.returns-clause-carried
returns-clause-carried c = ends-carried

pub returns-clause-placed : goal.returns-clause-placed
returns-clause-placed c = ends-placed
