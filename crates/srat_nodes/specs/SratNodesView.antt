-- The decision whether the firmware's table of domains is used, the reason if it isn't, and the
-- nodes of memory if it is (`numa_init`, `numa_cleanup_meminfo`, `numa_meminfo_cover_memory`).
use Rattle.std.specs.Prelude.{ℕ, ◌*◌, ◌^◌, Bool, ◌&&◌, not, nat_le, nat_lt, min, if◌then◌else◌, Option, Some, None, List, [], ◌∷◌, fold, length, is_some, is_none}
use Rattle.address_runs.specs.Runs.{runs_of}
use Rattle.bm_base.specs.declared.range.TheConstants.{FRAME_SIZE}
use Rattle.e820_model.specs.Usable.{count_below}
use Rattle.srat_reader.specs.Table.{SratView}
use Rattle.srat_nodes.specs.declared.kept.KeptBlock.{KeptBlock}
use Rattle.srat_nodes.specs.declared.reasons.SratNodes.{SratNodes}
use Rattle.srat_nodes.specs.declared.reasons.Why.{Why}
use Rattle.srat_nodes.specs.declared.reasons.Why.TheVariants as why
use Rattle.bm_base.specs.declared.zone.TheConstants.{MAX_NODES}
use Rattle.srat_nodes.specs.declared.reasons.TheConstants.{MAX_BLOCKS, UNCOVERED_FRAMES}
use Rattle.srat_nodes.specs.Domains.{named_domains}
use Rattle.srat_nodes.specs.NodeAt.{NumaBlock, node_at, same_node}
use Rattle.srat_nodes.specs.Kept.{is_any_kept, numa_blocks_of, count_with_addresses, first_overlap, keep_blocks}

-- node n for an address of memory to which `nodes` gives no node, and None for any other address
abbrev pub node_if_uncovered : (ℕ → Bool) → (ℕ → Option ℕ) → ℕ → ℕ → Option ℕ
node_if_uncovered memory nodes n x = if memory x && is_none (nodes x) then Some n else None

-- the number of frames of 4,096 bytes whose first address has a node; addresses of 64 bits have
-- 2^52 frames
unfoldable pub count_frames_with_node : (ℕ → Option ℕ) → ℕ
count_frames_with_node nodes = count_below (λ frame. is_some (nodes (FRAME_SIZE * frame))) (2 ^ 52)

-- the lower of node n and the node of the block
abbrev pub lower_node : ℕ → NumaBlock → ℕ
lower_node n b = min n b.value

-- the lowest node of the blocks, or 0 if there are no blocks
abbrev pub lowest_node : List NumaBlock → ℕ
lowest_node [] = 0
lowest_node (b ∷ bs) = fold lower_node b.value bs

-- what contracts see of a `SratNodes`, the decision whether the SRAT is used and the nodes by it
pub record SratNodesView : Type 0 where
  pub why : Why
  pub domains : List ℕ
  pub joined : List NumaBlock
  pub rest : List NumaBlock
  pub uncovered : ℕ

-- converts a `SratNodes` to what contracts see of it
abbrev pub srat_nodes_view : SratNodes → SratNodesView
srat_nodes_view j = record { why = j.why; domains = j.domains.items; joined = j.joined.items; rest = j.rest.items; uncovered = j.uncovered }

-- the result if the table isn't used: all lists are empty
abbrev pub unused_srat : Why → SratNodesView
unused_srat reason = record { why = reason; domains = []; joined = []; rest = []; uncovered = 0 }

-- the result if the table is used: the domain of each node, the runs of addresses to which the
-- blocks give a node, the runs of memory to which they give none (`left`), and the number of the
-- frames of `left`
abbrev pub used_srat : List ℕ → (ℕ → Option ℕ) → (ℕ → Option ℕ) → SratNodesView
used_srat domains nodes left = record {
  why = why.Used;
  domains = domains;
  joined = runs_of same_node nodes;
  rest = runs_of same_node left;
  uncovered = count_frames_with_node left;
}

-- the result if no kept blocks of different nodes overlap. The table isn't used if at least
-- `UNCOVERED_FRAMES` (256) frames of memory have no node.
abbrev pub nodes_if_covering : List ℕ → (ℕ → Option ℕ) → (ℕ → Option ℕ) → SratNodesView
nodes_if_covering domains nodes left =
    if nat_le UNCOVERED_FRAMES (count_frames_with_node left) then unused_srat (why.NotCovered (count_frames_with_node left))
    else used_srat domains nodes left

-- the result by a pair of overlapping blocks of different nodes: if there is one, the table isn't
-- used, and the reason has the numbers of both. Without such a pair, the result is the second
-- argument.
abbrev pub nodes_if_apart : Option (ℕ × ℕ) → SratNodesView → SratNodesView
nodes_if_apart (Some numbers) given = unused_srat (why.Overlap numbers.0 numbers.1)
nodes_if_apart None given = given

-- the node of each address, from the kept blocks; None for an address without a node
abbrev pub nodes_by_blocks : List KeptBlock → ℕ → Option ℕ
nodes_by_blocks kept = node_at (numa_blocks_of kept)

-- the node of each address of memory to which the kept blocks give no node; it is the lowest node
-- of these blocks. None for any other address.
abbrev pub fallback_node : (ℕ → Bool) → List KeptBlock → ℕ → Option ℕ
fallback_node memory kept = node_if_uncovered memory (nodes_by_blocks kept) (lowest_node (numa_blocks_of kept))

-- the result by the kept blocks. The table isn't used if two of different nodes overlap, or if they
-- leave too much memory without a node.
unfoldable pub judge_kept_blocks : (ℕ → Bool) → List ℕ → List KeptBlock → SratNodesView
judge_kept_blocks memory domains kept =
    nodes_if_apart (first_overlap kept) (nodes_if_covering domains (nodes_by_blocks kept) (fallback_node memory kept))

-- the domains that a table names, in the order of their nodes
abbrev pub srat_domains : SratView → List ℕ
srat_domains lists = named_domains lists.processors lists.blocks

-- the result for a table that is present. The reasons not to use it are, in this order: no block is
-- kept, there are too many domains, there are too many blocks, kept blocks of different nodes
-- overlap, too much memory has no node.
unfoldable pub judge_srat_table : (ℕ → Bool) → SratView → SratNodesView
judge_srat_table memory lists =
    if not (is_any_kept memory lists.blocks) then unused_srat why.NoBlocks
    else (if nat_lt MAX_NODES (length (srat_domains lists)) then unused_srat why.TooManyDomains
    else (if nat_lt MAX_BLOCKS (count_with_addresses lists.blocks) then unused_srat why.TooManyBlocks
    else judge_kept_blocks memory (srat_domains lists) (keep_blocks memory (srat_domains lists) lists.blocks)))

-- the result for an SRAT, or for None if there is none. `off` says whether the option `numa=off`
-- was given, which comes before all other reasons.
abbrev pub judge_srat : (ℕ → Bool) → Bool → Option SratView → SratNodesView
judge_srat memory off None = if off then unused_srat why.Off else unused_srat why.Absent
judge_srat memory off (Some lists) = if off then unused_srat why.Off else judge_srat_table memory lists
