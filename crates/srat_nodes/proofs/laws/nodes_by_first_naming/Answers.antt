use Rattle.srat_nodes.proofs.NamingLaws.{named_exactly, node_at_place, order_of_naming}
use Rattle.srat_nodes.proofs.laws.nodes_by_first_naming.Goals as goal

pub returns-clause-named : goal.returns-clause-named
returns-clause-named c = named_exactly

pub returns-clause-place : goal.returns-clause-place
returns-clause-place c = node_at_place

pub returns-clause-order : goal.returns-clause-order
returns-clause-order c = order_of_naming
