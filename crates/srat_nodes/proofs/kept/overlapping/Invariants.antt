use Rattle.std.proofs.Common.{◌≡◌, drop}
use Rattle.std.specs.Prelude.{find}
use Rattle.srat_nodes.specs.Kept.{nodes_overlap}
use Rattle.srat_nodes.proofs.kept.overlapping.Given as goal

abbrev pub invariant-loop-other : goal.invariant-loop-other
invariant-loop-other l = find (nodes_overlap l.block) (drop l.other-index l.others) ≡ find (nodes_overlap l.block) l.others
