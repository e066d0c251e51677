use Rattle.srat_nodes.proofs.MeaningLaws.{one_domain}
use Rattle.srat_nodes.proofs.laws.one_node_a_domain.Goals as goal

pub returns-clause-one : goal.returns-clause-one
returns-clause-one c = λ domains d e named_d named_e same. one_domain domains d e named_d named_e same
