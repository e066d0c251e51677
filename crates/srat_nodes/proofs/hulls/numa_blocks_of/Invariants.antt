use Rattle.std.proofs.Common.{◌≡◌, take}
use Rattle.srat_nodes.specs.Kept.{numa_blocks_of}
use Rattle.srat_nodes.proofs.hulls.numa_blocks_of.Given as goal

abbrev pub invariant-loop-one : goal.invariant-loop-one
invariant-loop-one l = l.blocks.items ≡ numa_blocks_of (take l.one-index l.kept)
