use Rattle.memblock_find.proofs.OneLaws.{one_below}
use Rattle.memblock_find.proofs.laws.free_runs_are_unique.Goals as goal

pub returns-clause-below : goal.returns-clause-below
returns-clause-below c = one_below
