use Rattle.std.proofs.Common.{◌≡◌, fold, take}
use Rattle.srat_nodes.specs.SratNodesView.{lower_node}
use Rattle.srat_nodes.specs.Kept.{numa_blocks_of}
use Rattle.srat_nodes.proofs.reasons.lowest_node.Given as goal

abbrev pub invariant-loop-other : goal.invariant-loop-other
invariant-loop-other l = l.lowest ≡ fold lower_node l.initial.lowest (numa_blocks_of (take l.other-index l.others))
