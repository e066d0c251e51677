-- The stage ends as its remaining steps end.
use Rattle.growth_model.specs.Tables.{HasFirstItem}
use Rattle.numa_nodes.specs.Assignment.{place_node_data}
use Rattle.numa_nodes.specs.Steps.{KeepsContinuesMemblock}
use Rattle.numa_nodes.proofs.TurnLaws.{Turns}
use Rattle.numa_nodes.proofs.stage.place_each_node_data.Given as goal

abbrev pub invariant-loop-node : goal.invariant-loop-node
invariant-loop-node l = record {
  begun : HasFirstItem l.memblock.journal.items;
  ends : Turns place_node_data l.nodes l.node-index l.fn.memblock.journal.items l.memblock.journal.items;
  goes_on : KeepsContinuesMemblock l.fn.memblock l.memblock;
}
