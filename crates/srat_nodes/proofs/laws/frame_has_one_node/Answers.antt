use Rattle.srat_nodes.proofs.MeaningLaws.{nodes_frame, left_frame}
use Rattle.srat_nodes.proofs.laws.frame_has_one_node.Goals as goal

pub returns-clause-node : goal.returns-clause-node
returns-clause-node c = λ memory domains blocks x. nodes_frame memory domains blocks x

pub returns-clause-left : goal.returns-clause-left
returns-clause-left c = λ memory whole domains blocks x. left_frame memory whole domains blocks x
