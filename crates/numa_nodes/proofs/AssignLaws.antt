-- The parts of the stage, one after another, and what they read from the memory table.
use Rattle.std.proofs.Common.{◌≡◌, ◌^◌, ◌<◌, ℕ, Bool, is_some, Option, List, [], ◌∷◌, ◌++◌, Result, Ok, Err, refl, ◌∙◌, ap, arith}
use Rattle.std.proofs.lemmas.List.Elements.{All-cons}
use Rattle.bm_base.specs.Range.{RangeView}
use Rattle.address_runs.specs.Runs.{RunOf, value_at}
use Rattle.address_runs.specs.Edits.{IsEmptyFrom}
use Rattle.memblock_model.specs.declared.owner.Which.TheVariants as which
use Rattle.memblock_model.specs.declared.item.Item.{Item}
use Rattle.memblock_model.specs.Items.{limit_of, memory_of}
use Rattle.memblock_model.specs.Labels.{LabelView, Labels}
use Rattle.memblock_model.specs.Tables.{records_of}
use Rattle.memblock_model.proofs.TableLaws.{value_at-records}
use Rattle.memblock_ranges.specs.Tables.{TableView}
use Rattle.growth_model.specs.Bytes.{table_from_items}
use Rattle.srat_reader.specs.Table.{SratView}
use Rattle.srat_nodes.specs.declared.reasons.Why.{Why}
use Rattle.srat_nodes.specs.declared.reasons.Why.TheVariants as why
use Rattle.srat_nodes.specs.NodeAt.{NumaBlock}
use Rattle.srat_nodes.specs.SratNodesView.{SratNodesView, judge_srat}
use Rattle.srat_nodes.specs.Kept.{is_in_any_range}
use Rattle.srat_nodes.proofs.GivenLaws.{given-small}
use Rattle.memblock_grow.specs.declared.stop.StageStop.{StageStop}
use Rattle.memblock_grow.specs.declared.stop.StageStop.TheVariants as stop
use Rattle.stage_steps.specs.Causes.{StageCause, error_of_stage_cause}
use Rattle.stage_steps.specs.Steps.{StageStep, EndsAsStage, fold_steps, view_of_result, return_value, read_items_allocating, ◌>>=◌}
use Rattle.stage_steps.proofs.DoingLaws.{ends-first, ends-listed, ends-second, ends-wanting}
use Rattle.numa_nodes.specs.Assignment.{NodesView, assign_nodes, assign_found_nodes, place_node_data, set_block_node, is_memory_byte, nodes_view_from_judgement, nodes_with_memory, node_ranges_by, node_ranges, place_data_of_nodes}
use Rattle.numa_nodes.specs.Steps.{CanGetNodes}

-- `ranges_in` is the list of ranges. The next definitions are the steps after it, and the steps
-- after the list of nodes that have memory.
abbrev ranges_in : SratNodesView → List Item → List NumaBlock
ranges_in found items = node_ranges (limit_of items) found

abbrev pub after : SratNodesView → Unit {0} → StageStep StageCause NodesView
after found done = read_items_allocating (λ items. nodes_with_memory (memory_of items)) >>= λ nodes. place_data_of_nodes found nodes

abbrev by_ranges : SratNodesView → List NumaBlock → StageStep StageCause NodesView
by_ranges found ranges = fold_steps set_block_node tt ranges >>= after found

abbrev nodes_in : List Item → List ℕ
nodes_in items = nodes_with_memory (memory_of items)

-- how the stage ends if this program runs out of memory before anything is written
pub by-wanting : (items : List Item) (found : SratNodesView)
    → EndsAsStage {A = NodesView} (assign_found_nodes found) error_of_stage_cause (Err stop.Memory) items items
unfolding assign_found_nodes
by-wanting items found =
    ends-first stop.Memory error_of_stage_cause items items (read_items_allocating (ranges_in found)) (by_ranges found)
    (ends-wanting (ranges_in found) error_of_stage_cause items)

-- the stage ends as what follows the list of ranges
by-listed : (r : Result NodesView StageStop) (old new : List Item) (found : SratNodesView)
    → EndsAsStage (by_ranges found (ranges_in found old)) error_of_stage_cause r old new
    → EndsAsStage (assign_found_nodes found) error_of_stage_cause r old new
unfolding assign_found_nodes
by-listed r old new found rest =
    ends-second (ranges_in found old) r error_of_stage_cause old old new (read_items_allocating (ranges_in found)) (by_ranges found)
    (ends-listed (ranges_in found) error_of_stage_cause old) rest

pub by-ranges : (e : StageStop) (old new : List Item) (found : SratNodesView)
    → EndsAsStage {A = Unit {0}} (fold_steps set_block_node tt (node_ranges (limit_of old) found)) error_of_stage_cause (Err e) old new
    → EndsAsStage {A = NodesView} (assign_found_nodes found) error_of_stage_cause (Err e) old new
by-ranges e old new found was =
    by-listed (Err e) old new found
    (ends-first e error_of_stage_cause old new (fold_steps set_block_node tt (ranges_in found old)) (after found) was)

-- how the stage ends after the ranges have got their nodes
module _ (old mid : List Item) (found : SratNodesView)
    (was : EndsAsStage {A = Unit {0}} (fold_steps set_block_node tt (node_ranges (limit_of old) found)) error_of_stage_cause
    (Ok tt) old mid) where
  by-after : (r : Result NodesView StageStop) (new : List Item) → EndsAsStage (after found tt) error_of_stage_cause r mid new
      → EndsAsStage (assign_found_nodes found) error_of_stage_cause r old new
  by-after r new rest =
      by-listed r old new found
      (ends-second tt r error_of_stage_cause old mid new (fold_steps set_block_node tt (ranges_in found old)) (after found) was rest)

  -- this program runs out of memory for the list of nodes that have memory
  pub data-wanting : EndsAsStage {A = NodesView} (assign_found_nodes found) error_of_stage_cause (Err stop.Memory) old mid
  data-wanting =
      by-after (Err stop.Memory) mid
      (ends-first stop.Memory error_of_stage_cause mid mid (read_items_allocating nodes_in) (place_data_of_nodes found)
      (ends-wanting nodes_in error_of_stage_cause mid))

  -- the data of those nodes is placed
  by-data : (r : Result NodesView StageStop) (new : List Item)
      → EndsAsStage (place_data_of_nodes found (nodes_in mid)) error_of_stage_cause r mid new
      → EndsAsStage (assign_found_nodes found) error_of_stage_cause r old new
  by-data r new rest =
      by-after r new
      (ends-second (nodes_in mid) r error_of_stage_cause mid mid new (read_items_allocating nodes_in) (place_data_of_nodes found)
      (ends-listed nodes_in error_of_stage_cause mid) rest)

  pub data-told : (r : Result (Unit {0}) StageStop) (new : List Item)
      → EndsAsStage (fold_steps place_node_data tt (nodes_with_memory (memory_of mid))) error_of_stage_cause r mid new
      → EndsAsStage (assign_found_nodes found) error_of_stage_cause
      (view_of_result (λ done. nodes_view_from_judgement found (nodes_with_memory (memory_of mid))) r) old new
  data-told (Ok done) new placed =
      by-data (Ok (nodes_view_from_judgement found (nodes_in mid))) new
      (ends-second tt (Ok (nodes_view_from_judgement found (nodes_in mid))) error_of_stage_cause mid new new
      (fold_steps place_node_data tt (nodes_in mid))
      (λ done. return_value (nodes_view_from_judgement found (nodes_in mid))) placed (refl, refl))
  data-told (Err e) new placed =
      by-data (Err e) new
      (ends-first e error_of_stage_cause mid new (fold_steps place_node_data tt (nodes_in mid)) (λ done.
      return_value (nodes_view_from_judgement found (nodes_in mid))) placed)

-- the whole stage is the one after it has been decided whether the table is used
pub assign_nodes-is : (table : Option SratView) (off : Bool) (items : List Item)
    → assign_nodes table off items ≡ assign_found_nodes (judge_srat (is_memory_byte items) off table) items
unfolding assign_nodes
assign_nodes-is table off items = refl

-- the records of the memory table give each byte the label that the items give it
pub records-tell : (kernel : RangeView) (items : List Item) (records : List (RunOf LabelView)) (t : TableView) → records ≡ t.records
    → t ≡ table_from_items which.Memory kernel items → IsEmptyFrom (2 ^ 64) (memory_of items) → value_at records ≡ memory_of items
unfolding records_of
records-tell kernel items records t is table within =
    ap value_at (is ∙ ap (λ (s : TableView). s.records) table) ∙ value_at-records (memory_of items) within

pub ranges-tell : (items : List Item) (ranges : List RangeView) (records : List (RunOf LabelView))
    → ((x : ℕ) → is_in_any_range ranges x ≡ is_some (value_at records x)) → value_at records ≡ memory_of items
    → is_in_any_range ranges ≡ is_memory_byte items
ranges-tell items ranges records each same = λ i x. (each x ∙ ap (λ (f : Labels). is_some (f x)) same) i

-- if the table isn't used, all addresses below the limit are one range
pub ranges-cases : (P : List NumaBlock → Type 0) (reason : Why) (limit : ℕ) (j : SratNodesView)
    → (reason ≡ why.Used → P (j.joined ++ j.rest))
    → P (record { base = 0; size = limit; value = 0 } ∷ []) → P (node_ranges_by reason limit j)
ranges-cases P why.Used limit j used other = used refl
ranges-cases P why.Off limit j used other = other
ranges-cases P why.Absent limit j used other = other
ranges-cases P why.NoBlocks limit j used other = other
ranges-cases P why.TooManyDomains limit j used other = other
ranges-cases P why.TooManyBlocks limit j used other = other
ranges-cases P (why.Overlap m n) limit j used other = other
ranges-cases P (why.NotCovered frames) limit j used other = other

-- each range that gets a node has bytes, and its node is below 1,024
pub can-get : (limit : ℕ) (found : SratNodesView) (memory : ℕ → Bool) (off : Bool) (table : Option SratView) → 0 < limit
    → found ≡ judge_srat memory off table → CanGetNodes (node_ranges limit found)
can-get limit found memory off table some is =
    let j : SratNodesView = judge_srat memory off table in
    let below : NumaBlock = record { base = 0; size = limit; value = 0 } in
    rw is (ranges-cases CanGetNodes j.why limit j (λ used. given-small memory off table)
    (All-cons (λ (r : NumaBlock). (0 < r.size) × (r.value < 1024)) below [] (some, omega arith) (λ k d less. absurd (omega (arith, less)))))
