use Rattle.srat_nodes.proofs.MeaningLaws.{one_node}
use Rattle.srat_nodes.proofs.laws.address_has_one_node.Goals as goal

pub returns : goal.returns
returns c = λ kept apart some x n. one_node kept apart some x n
