use Rattle.std.proofs.Common.{◌≡◌, length}
use Rattle.srat_nodes.specs.Kept.{first_overlap}
use Rattle.srat_nodes.proofs.kept.first_pair.Given as goal

abbrev pub invariant-loop-rest : goal.invariant-loop-rest
invariant-loop-rest l = first_overlap l.rest ≡ first_overlap l.kept

abbrev pub decreases-loop-rest : goal.decreases-loop-rest
decreases-loop-rest l = length l.rest
