use Rattle.std.proofs.Common.{◌≡◌, ◌+◌, length}
use Rattle.address_runs.specs.Runs.{AreRuns, value_at}
use Rattle.srat_nodes.specs.SratNodesView.{count_frames_with_node}
use Rattle.srat_nodes.proofs.rest.count_frames.Given as goal

abbrev pub invariant-loop-rest : goal.invariant-loop-rest
invariant-loop-rest l = record {
  runs : AreRuns l.rest;
  counted : l.frames + count_frames_with_node (value_at l.rest) ≡ count_frames_with_node (value_at l.runs);
}

abbrev pub decreases-loop-rest : goal.decreases-loop-rest
decreases-loop-rest l = length l.rest
