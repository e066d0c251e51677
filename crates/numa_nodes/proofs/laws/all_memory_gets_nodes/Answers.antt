use Rattle.numa_nodes.proofs.MemoryLaws.{after-answer}
use Rattle.numa_nodes.proofs.NodedLaws.{answer-noded}
use Rattle.numa_nodes.proofs.laws.all_memory_gets_nodes.Goals as goal

pub returns-clause-noded : goal.returns-clause-noded
returns-clause-noded c = λ reach table off items noded answered near frames within low.
    answer-noded reach table off items noded answered near frames within low

pub returns-clause-nodes : goal.returns-clause-nodes
returns-clause-nodes c = λ table off items noded answered. (after-answer table off items noded answered).nodes
