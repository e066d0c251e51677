use Rattle.std.proofs.Common.{◌≡◌, ◌++◌, map, take}
use Rattle.srat_nodes.specs.Steps.{run_with_node}
use Rattle.srat_nodes.proofs.rest.mark_with_nodes.Given as goal

abbrev pub invariant-loop-run : goal.invariant-loop-run
invariant-loop-run l = l.told.items ≡ l.initial.told.items ++ map run_with_node (take l.run-index l.joined)
