use Rattle.std.proofs.Common.{ℕ, ◌<◌, get_or}
use Rattle.address_runs.specs.Runs.{value_at}
use Rattle.srat_nodes.specs.declared.kept.KeptBlock.{KeptBlock}
use Rattle.srat_nodes.proofs.NodesLaws.{HasOwn}
use Rattle.srat_nodes.proofs.kept.are_apart.Given as goal

abbrev pub invariant-loop-one : goal.invariant-loop-one
invariant-loop-one l = (k : ℕ) (d : KeptBlock) → k < l.one-index → HasOwn (value_at l.laid.items) (get_or l.kept k d).block
