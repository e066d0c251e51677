-- The nodes of memory and the data of each node (`numa_init`, `numa_register_memblks`,
-- `alloc_node_data`).
use Rattle.std.specs.Prelude.{ℕ, zero, suc, ◌+◌, ◌^◌, Bool, false, not, is_some, if◌then◌else◌, Option, Some, None, List, [], ◌∷◌, ◌++◌}
use Rattle.bm_base.specs.Each.{each_from}
use Rattle.address_runs.specs.Runs.{range_of_run}
use Rattle.memblock_model.specs.declared.item.Item.{Item}
use Rattle.memblock_model.specs.declared.owner.Owner.TheVariants as owner
use Rattle.memblock_model.specs.Items.{memory_of, limit_of}
use Rattle.memblock_model.specs.Labels.{LabelView, Labels}
use Rattle.memblock_model.specs.Same.{same_node_or_none}
use Rattle.srat_reader.specs.Table.{SratView}
use Rattle.srat_nodes.specs.declared.reasons.Why.{Why}
use Rattle.srat_nodes.specs.declared.reasons.Why.TheVariants as why
use Rattle.bm_base.specs.declared.zone.TheConstants.{MAX_NODES}
use Rattle.srat_nodes.specs.NodeAt.{NumaBlock}
use Rattle.srat_nodes.specs.SratNodesView.{SratNodesView, judge_srat}
use Rattle.memblock_model.specs.declared.query.Request.{Request}
use Rattle.growth_model.specs.Growth.{set_range_node}
use Rattle.memblock_grow.specs.declared.stop.What.TheVariants as what
use Rattle.stage_steps.specs.Causes.{StageCause}
use Rattle.stage_steps.specs.Steps.{StageStep, ◌>>=◌, return_value, read_items, read_items_allocating, fold_steps}
use Rattle.stage_steps.specs.Requests.{change_or_stop, place_or_stop}
use Rattle.numa_nodes.specs.declared.stage.Nodes.{Nodes}

-- whether the byte is memory
abbrev pub is_memory_byte : List Item → ℕ → Bool
is_memory_byte items x = is_some (memory_of items x)

-- The ranges that get a node, each with its node. If the table of domains is used, they are the
-- runs of addresses of one node, and then the runs of memory that no block of the table covers.
-- Otherwise the only range is all addresses below `limit`, with node 0 (`dummy_numa_init`).
abbrev pub node_ranges_by : Why → ℕ → SratNodesView → List NumaBlock
node_ranges_by why.Used limit found = found.joined ++ found.rest
node_ranges_by reason limit found = record { base = 0; size = limit; value = 0 } ∷ []

abbrev pub node_ranges : ℕ → SratNodesView → List NumaBlock
node_ranges limit found = node_ranges_by found.why limit found

-- the step that gives a range its node (`memblock_set_node`)
abbrev pub set_block_node : Unit {0} → NumaBlock → StageStep StageCause (Unit {0})
set_block_node done r = change_or_stop (set_range_node (range_of_run r) r.value)

-- whether a byte with this label is memory of the node
abbrev pub is_of_node : ℕ → Option LabelView → Bool
is_of_node node None = false
is_of_node node (Some label) = same_node_or_none label.node (Some node)

-- whether some byte of memory has this node
abbrev pub has_node : Labels → ℕ → Bool
has_node f node = not (each_from (λ x. not (is_of_node node (f x))) 0 (2 ^ 64))

-- the nodes that have memory among the `n` nodes from `node` on, in ascending order
abbrev pub nodes_from : Labels → ℕ → ℕ → List ℕ
nodes_from f node zero = []
nodes_from f node (suc n) = if has_node f node then node ∷ nodes_from f (node + 1) n else nodes_from f (node + 1) n

-- the nodes that have memory (`N_MEMORY`)
unfoldable pub nodes_with_memory : Labels → List ℕ
nodes_with_memory f = nodes_from f 0 MAX_NODES

-- the request for the data of a node: its size in whole pages, aligned to a cache line, on the
-- node itself if there is room (`alloc_node_data`)
abbrev pub node_data_request : ℕ → Request
node_data_request node = record { size = 0x2B000; align = 64; min = 0; max = None; node = Some node; exact = false }

abbrev pub place_node_data : Unit {0} → ℕ → StageStep StageCause (Unit {0})
place_node_data done node =
    place_or_stop (what.NodeData node) (node_data_request node) (owner.NodeData node) >>= λ place. return_value tt

-- what contracts see of the nodes of a boot (`Nodes`)
pub record NodesView : Type 0 where
  pub why : Why
  pub domains : List ℕ
  pub uncovered : ℕ
  pub with_memory : List ℕ

abbrev pub nodes_view : Nodes → NodesView
nodes_view n = record { why = n.why; domains = n.domains.items; uncovered = n.uncovered; with_memory = n.with_memory.items }

abbrev pub nodes_view_from_judgement : SratNodesView → List ℕ → NodesView
nodes_view_from_judgement found nodes =
    record { why = found.why; domains = found.domains; uncovered = found.uncovered; with_memory = nodes }

-- the steps that allocate the data of each node that has memory
abbrev pub place_data_of_nodes : SratNodesView → List ℕ → StageStep StageCause NodesView
place_data_of_nodes found nodes = fold_steps place_node_data tt nodes >>= λ done. return_value (nodes_view_from_judgement found nodes)

-- the stage of the nodes after it has been decided (`found`) whether the table of domains is used
unfoldable pub assign_found_nodes : SratNodesView → StageStep StageCause NodesView
assign_found_nodes found =
    read_items_allocating (λ items. node_ranges (limit_of items) found) >>= λ ranges. (fold_steps set_block_node tt ranges
    >>= λ done. (read_items_allocating (λ items. nodes_with_memory (memory_of items)) >>= λ nodes. place_data_of_nodes found nodes))

-- The whole stage of the nodes. `table` is the firmware's table of domains, if there is one, and
-- `off` is the option `numa=off`. Before the first range gets its node, the stage decides from the
-- machine's memory whether the table is used.
unfoldable pub assign_nodes : Option SratView → Bool → StageStep StageCause NodesView
assign_nodes table off = read_items (λ items. judge_srat (is_memory_byte items) off table) >>= λ found. assign_found_nodes found
