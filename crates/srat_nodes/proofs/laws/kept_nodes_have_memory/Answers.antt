use Rattle.srat_nodes.proofs.MeaningLaws.{node_memory, node_of_kept}
use Rattle.srat_nodes.proofs.laws.kept_nodes_have_memory.Goals as goal

pub returns-clause-memory : goal.returns-clause-memory
returns-clause-memory c = λ memory domains blocks apart n of_block. node_memory memory domains blocks apart n of_block

pub returns-clause-block : goal.returns-clause-block
returns-clause-block c = λ memory kept some x n given. node_of_kept memory kept some x n given
