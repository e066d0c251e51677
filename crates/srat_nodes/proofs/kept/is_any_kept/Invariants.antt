use Rattle.std.proofs.Common.{◌≡◌, take, false}
use Rattle.srat_nodes.specs.Kept.{is_any_kept}
use Rattle.srat_nodes.specs.Steps.{is_in_runs}
use Rattle.srat_nodes.proofs.kept.is_any_kept.Given as goal

abbrev pub invariant-loop-block : goal.invariant-loop-block
invariant-loop-block l = is_any_kept (is_in_runs l.memory.items) (take l.block-index l.blocks) ≡ false
