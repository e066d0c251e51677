-- The kernel's constants that definitions cite by name.
use Rattle.std.proofs.Common.{◌≡◌, ◌*◌, ◌^◌, refl}
use Rattle.bm_base.specs.declared.zone.TheConstants.{MAX_NODES}
use Rattle.srat_nodes.specs.declared.reasons.TheConstants.{MAX_BLOCKS, UNCOVERED_FRAMES}

-- `MAX_NUMNODES` is 2^10 (`NODES_SHIFT` 10), `NR_NODE_MEMBLKS` is two for each node, and 256
-- frames are 1 MiB (`numa_meminfo_cover_memory`)
numbers : (MAX_NODES ≡ 2 ^ 10) × (MAX_BLOCKS ≡ 2 * 1024) × (UNCOVERED_FRAMES * 4096 ≡ 1048576)
numbers = (refl, refl, refl)
