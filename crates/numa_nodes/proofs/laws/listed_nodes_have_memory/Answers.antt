use Rattle.numa_nodes.proofs.ListedLaws.{nodes-ascend, nodes-listed, nodes-lists}
use Rattle.numa_nodes.proofs.laws.listed_nodes_have_memory.Goals as goal

pub returns-clause-listed : goal.returns-clause-listed
returns-clause-listed c = λ f n. ((λ h. nodes-listed f n h), (λ h. nodes-lists f n h.1.0 h.0 h.1.1 h.1.2))

pub returns-clause-ascending : goal.returns-clause-ascending
returns-clause-ascending c = λ f i j order less. nodes-ascend f i j order less
