use Rattle.numa_nodes.proofs.MemoryLaws.{keeps-memory, keeps-limit}
use Rattle.numa_nodes.proofs.laws.assign_keeps_memory_and_limit.Goals as goal

pub returns-clause-memory : goal.returns-clause-memory
returns-clause-memory c = λ table off items x. keeps-memory table off items x

pub returns-clause-limit : goal.returns-clause-limit
returns-clause-limit c = λ table off items. keeps-limit table off items
