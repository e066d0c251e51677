use Rattle.std.proofs.Common.{◌↔◌, length, map}
use Rattle.address_runs.specs.Runs.{AreRuns}
use Rattle.address_runs.specs.Overlay.{HaveAddresses}
use Rattle.address_runs.proofs.order.are_runs.Given as goal

abbrev pub invariant-loop-rest : goal.invariant-loop-rest
invariant-loop-rest g l = record {
  addresses : HaveAddresses (map g.S.ValuedRange.run l.rest);
  whole : AreRuns (map g.S.ValuedRange.run l.rest) ↔ AreRuns (map g.S.ValuedRange.run l.stretches);
}

abbrev pub decreases-loop-rest : goal.decreases-loop-rest
decreases-loop-rest g l = length l.rest
