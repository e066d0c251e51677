use Rattle.std.proofs.Common.{◌≡◌, ◌++◌, map, take}
use Rattle.srat_nodes.specs.Steps.{run_without_node}
use Rattle.srat_nodes.proofs.memory.push_uncovered_memory.Given as goal

abbrev pub invariant-loop-part : goal.invariant-loop-part
invariant-loop-part l = l.told.items ≡ l.initial.told.items ++ map run_without_node (take l.part-index l.memory)
