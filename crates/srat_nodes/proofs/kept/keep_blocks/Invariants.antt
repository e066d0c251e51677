use Rattle.std.proofs.Common.{◌≡◌, ◌++◌, drop}
use Rattle.srat_nodes.specs.Kept.{numa_blocks_of, keep_blocks_from, keep_blocks}
use Rattle.srat_nodes.specs.Steps.{EndInSpace, is_in_runs}
use Rattle.srat_nodes.proofs.kept.keep_blocks.Given as goal

abbrev pub invariant-loop-index : goal.invariant-loop-index
invariant-loop-index l = record {
  kept_so_far : l.kept.items ++ keep_blocks_from (is_in_runs l.memory.items) l.domains l.index (drop l.index l.blocks)
      ≡ keep_blocks (is_in_runs l.memory.items) l.domains l.blocks;
  space : EndInSpace (numa_blocks_of l.kept.items);
}
