use Rattle.std.proofs.Common.{◌≡◌, ◌++◌, drop}
use Rattle.srat_nodes.specs.Steps.{uncovered_runs_with_node, EndInSpace}
use Rattle.srat_nodes.proofs.rest.uncovered_runs_with_node.Given as goal

abbrev pub invariant-loop-run : goal.invariant-loop-run
invariant-loop-run l = record {
  told : l.rest.items ++ uncovered_runs_with_node l.node (drop l.run-index l.covered) ≡ uncovered_runs_with_node l.node l.covered;
  space : EndInSpace l.rest.items;
}
