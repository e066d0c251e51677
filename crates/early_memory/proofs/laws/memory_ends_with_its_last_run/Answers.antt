use Rattle.early_memory.proofs.EndLaws.{runs_end_memory}
use Rattle.early_memory.proofs.laws.memory_ends_with_its_last_run.Goals as goal

pub returns : goal.returns
returns c = runs_end_memory
