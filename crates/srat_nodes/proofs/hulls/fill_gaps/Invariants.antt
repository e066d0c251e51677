use Rattle.std.proofs.Common.{◌≡◌, length, take, drop, reverse}
use Rattle.srat_nodes.specs.Steps.{fill_gaps}
use Rattle.srat_nodes.proofs.hulls.fill_gaps.Given as goal

abbrev pub invariant-loop-rest : goal.invariant-loop-rest
invariant-loop-rest l = record {
  left : l.rest ≡ take (length l.rest) l.runs;
  done : l.joined.items ≡ reverse (fill_gaps (drop (length l.rest) l.runs));
}

abbrev pub decreases-loop-rest : goal.decreases-loop-rest
decreases-loop-rest l = length l.rest
