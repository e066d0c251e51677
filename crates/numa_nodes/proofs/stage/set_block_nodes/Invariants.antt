-- The stage ends as its remaining steps end.
use Rattle.growth_model.specs.Tables.{HasFirstItem}
use Rattle.numa_nodes.specs.Assignment.{set_block_node}
use Rattle.numa_nodes.specs.Steps.{KeepsContinuesMemblock}
use Rattle.numa_nodes.proofs.TurnLaws.{Turns}
use Rattle.numa_nodes.proofs.stage.set_block_nodes.Given as goal

abbrev pub invariant-loop-run : goal.invariant-loop-run
invariant-loop-run l = record {
  begun : HasFirstItem l.memblock.journal.items;
  ends : Turns set_block_node l.ranges l.run-index l.fn.memblock.journal.items l.memblock.journal.items;
  goes_on : KeepsContinuesMemblock l.fn.memblock l.memblock;
}
