-- How the steps change memory and the limit: the ranges get their nodes, and nothing else changes.
use Rattle.std.proofs.Common.{◌≡◌, ◌≢◌, ℕ, Bool, is_some, Option, Some, None, List, [], ◌∷◌, ◌++◌, Result, Ok, Err, refl, sym, ◌∙◌, ap, subst, inl, inr}
use Rattle.std.proofs.lemmas.Bool.{cases_Bool}
use Rattle.std.specs.Option.{option_map}
use Rattle.std.proofs.lemmas.List.{append-nil}
use Rattle.std.proofs.lemmas.List.Sums.{fold-append}
use Rattle.bm_base.specs.Range.{RangeView, covers}
use Rattle.address_runs.specs.Edits.{relabel_range}
use Rattle.address_runs.specs.Runs.{range_of_run}
use Rattle.srat_reader.specs.Table.{SratView}
use Rattle.memblock_model.specs.declared.owner.Which.TheVariants as which
use Rattle.memblock_model.specs.declared.item.Item.{Item}
use Rattle.memblock_model.specs.declared.item.Item.TheVariants as item
use Rattle.memblock_model.specs.declared.owner.Owner.TheVariants as owner
use Rattle.memblock_model.specs.Items.{limit_after, limit_of, memory_after, memory_of, no_memory}
use Rattle.memblock_model.specs.Labels.{LabelView, Labels, with_node}
use Rattle.growth_model.specs.Requests.{StepsKeepMemory}
use Rattle.growth_model.specs.Growth.{make_table_room, memory_growth, set_range_node, max_records_added_by_split}
use Rattle.growth_model.specs.Change.{ChangeEffect, RefusedGrowth, followed_by, write_item}
use Rattle.growth_model.specs.Change.{items_after_change}
use Rattle.growth_model.proofs.QuietLaws.{memory_growth-quiet, quiet-grown}
use Rattle.memblock_grow.specs.declared.stop.What.TheVariants as what
use Rattle.stage_steps.specs.Causes.{StageCause}
use Rattle.stage_steps.specs.Steps.{StepEffect, ◌>>=◌, items_after_step, append_groups, continue_if_ok, fold_steps, return_value}
use Rattle.stage_steps.specs.Requests.{stop_if_refused}
use Rattle.stage_steps.specs.KeepsMemory.{KeepsMemory}
use Rattle.stage_steps.proofs.DoingLaws.{append_groups-append}
use Rattle.stage_steps.proofs.QuietLaws.{quiet-appended_limit, quiet-appended_memory, quiet-bind, quiet-placed, quiet-returns, quiet-listed, quiet-turn}
use Rattle.srat_nodes.specs.NodeAt.{NumaBlock}
use Rattle.srat_nodes.specs.SratNodesView.{SratNodesView, judge_srat}
use Rattle.numa_nodes.specs.Assignment.{NodesView, assign_nodes, assign_found_nodes, place_node_data, set_block_node, is_memory_byte, node_data_request, nodes_view_from_judgement, nodes_with_memory, node_ranges, place_data_of_nodes}
use Rattle.numa_nodes.proofs.AssignLaws.{after}

-- the growth of the memory table that may come before a range gets its node
abbrev growth : List Item → ChangeEffect
growth items = make_table_room which.Memory max_records_added_by_split memory_growth items

growth-quiet : (items : List Item) → StepsKeepMemory (growth items).steps
growth-quiet items = (quiet-grown which.Memory max_records_added_by_split memory_growth memory_growth-quiet).each items

-- a range that gets its node is an item after the growth, or only the growth if that was refused
set_block_node-cases : (P : List Item → Type 0) (first : ChangeEffect) (r : Option RefusedGrowth) (items others : List Item) (node : Item)
    → P (append_groups items first.steps ++ node ∷ []) → (r ≢ None → P (append_groups items first.steps))
    → P (append_groups items (followed_by first r (write_item node others)).steps)
set_block_node-cases P first None items others node whole refused = rw (append_groups-append items first.steps ((node ∷ []) ∷ [])) whole
set_block_node-cases P first (Some r) items others node whole refused = refused (λ is. cc)

set_block_node-by : (P : List Item → Type 0) (b : NumaBlock) (items : List Item)
    → P (append_groups items (growth items).steps ++ item.Node (range_of_run b) b.value ∷ [])
    → ((growth items).refused ≢ None → P (append_groups items (growth items).steps))
    → P (items_after_step items (set_block_node tt b items))
unfolding set_range_node
set_block_node-by P b items =
    set_block_node-cases P (growth items) (growth items).refused items (items_after_change items (growth items))
    (item.Node (range_of_run b) b.value)

none-refused : (first second : ChangeEffect) (r : Option RefusedGrowth) → first.refused ≡ r
    → stop_if_refused (followed_by first r second).refused ≡ Ok tt → r ≡ None
none-refused first second None is answered = refl
none-refused first second (Some r) is answered = let clash = rw is at answered in absurd (cc clash)

-- memory after each range got its node
unfoldable pub noded_all : List NumaBlock → Labels → Labels
noded_all [] f = f
noded_all (r ∷ rs) f = noded_all rs (relabel_range (range_of_run r) (with_node (Some r.value)) f)

node-item : (b : NumaBlock) (items : List Item)
    → memory_of (append_groups items (growth items).steps ++ item.Node (range_of_run b) b.value ∷ [])
    ≡ relabel_range (range_of_run b) (with_node (Some b.value)) (memory_of items)
node-item b items =
    fold-append memory_after no_memory (append_groups items (growth items).steps) (item.Node (range_of_run b) b.value ∷ [])
    ∙ ap (relabel_range (range_of_run b) (with_node (Some b.value))) (quiet-appended_memory items (growth items).steps (growth-quiet items))

set_block_node-memory : (b : NumaBlock) (items : List Item) → (set_block_node tt b items).answer ≡ Ok tt
    → memory_of (items_after_step items (set_block_node tt b items))
    ≡ relabel_range (range_of_run b) (with_node (Some b.value)) (memory_of items)
unfolding set_range_node
set_block_node-memory b items answered =
    set_block_node-by (λ (is : List Item). memory_of is ≡ relabel_range (range_of_run b) (with_node (Some b.value)) (memory_of items)) b
    items
    (node-item b items)
    (λ refused. absurd (refused (none-refused (growth items)
    (write_item (item.Node (range_of_run b) b.value) (items_after_change items (growth items))) (growth items).refused refl answered)))

map-some : (change : LabelView → LabelView) (o : Option LabelView) → is_some (option_map change o) ≡ is_some o
map-some change None = refl
map-some change (Some label) = refl

pub relabel_range-some : (range : RangeView) (change : LabelView → LabelView) (f : Labels) (x : ℕ)
    → is_some (relabel_range range change f x) ≡ is_some (f x)
relabel_range-some range change f x =
    elim (cases_Bool (covers range x)) as (λ _. is_some (relabel_range range change f x) ≡ is_some (f x)) [
      | inl here ↦ rw here (map-some change (f x))
      | inr not_here ↦ rw not_here refl
    ]

set_block_node-some : (x : ℕ) (b : NumaBlock) (items : List Item)
    → is_some (memory_of (items_after_step items (set_block_node tt b items)) x) ≡ is_some (memory_of items x)
set_block_node-some x b items =
    set_block_node-by (λ (is : List Item). is_some (memory_of is x) ≡ is_some (memory_of items x)) b items
    (rw (node-item b items) (relabel_range-some (range_of_run b) (with_node (Some b.value)) (memory_of items) x))
    (λ refused. rw (quiet-appended_memory items (growth items).steps (growth-quiet items)) refl)

set_block_node-limit : (b : NumaBlock) (items : List Item) → limit_of (items_after_step items (set_block_node tt b items)) ≡ limit_of items
set_block_node-limit b items =
    let same = quiet-appended_limit items (growth items).steps (growth-quiet items) in
    set_block_node-by (λ (is : List Item). limit_of is ≡ limit_of items) b items
    (fold-append limit_after 0 (append_groups items (growth items).steps) (item.Node (range_of_run b) b.value ∷ []) ∙ same)
    (λ refused. same)

-- node data doesn't change memory
quiet-data : (done : Unit {0}) (n : ℕ) → KeepsMemory (place_node_data done n)
quiet-data done n =
    quiet-bind _ _ (quiet-placed (what.NodeData n) (node_data_request n) (owner.NodeData n)) (λ place. quiet-returns tt)

quiet-with_data : (found : SratNodesView) (nodes : List ℕ) → KeepsMemory (place_data_of_nodes found nodes)
quiet-with_data found nodes =
    quiet-bind _ _ (quiet-turn place_node_data quiet-data tt nodes) (λ done. quiet-returns (nodes_view_from_judgement found nodes))

quiet-after : (found : SratNodesView) (done : Unit {0}) → KeepsMemory (after found done)
quiet-after found done =
    quiet-bind _ _ (quiet-listed (λ items. nodes_with_memory (memory_of items))) (quiet-with_data found)

-- what neither quiet steps nor nodes change, the whole stage doesn't change
module _ {V : Type 0} (seen_of : List Item → V)
    (quiet : (items : List Item) (steps : List (List Item)) → StepsKeepMemory steps → seen_of (append_groups items steps) ≡ seen_of items)
    (one : (b : NumaBlock) (items : List Item) → seen_of (items_after_step items (set_block_node tt b items)) ≡ seen_of items) where
  keeps-going : {E A B : Type 0} (items : List Item) (d : StepEffect E A) (answer : Result A E) (next : A → StepEffect E B)
      → seen_of (items_after_step items d) ≡ seen_of items
      → ((a : A) → seen_of (items_after_step (items_after_step items d) (next a)) ≡ seen_of (items_after_step items d))
      → seen_of (append_groups items (continue_if_ok d.steps answer next).steps) ≡ seen_of items
  keeps-going items d (Ok a) next first then = ap seen_of (append_groups-append items d.steps (next a).steps) ∙ then a ∙ first
  keeps-going items d (Err e) next first then = first

  keeps-turn : (rs : List NumaBlock) (items : List Item)
      → seen_of (items_after_step items (fold_steps set_block_node tt rs items)) ≡ seen_of items
  keeps-turn [] items = refl
  keeps-turn (r ∷ rs) items =
      keeps-going items (set_block_node tt r items) (set_block_node tt r items).answer (λ a.
      fold_steps set_block_node a rs (items_after_step items (set_block_node tt r items)))
      (one r items) (λ a. keeps-turn rs (items_after_step items (set_block_node tt r items)))

  pub keeps-all : (table : Option SratView) (off : Bool) (items : List Item)
      → seen_of (items_after_step items (assign_nodes table off items))
      ≡ seen_of items
  unfolding assign_nodes assign_found_nodes nodes_with_memory
  keeps-all table off items =
      let found : SratNodesView = judge_srat (is_memory_byte items) off table in
      let ranges : List NumaBlock = node_ranges (limit_of items) found in
      let start : List Item = items ++ [] in
      let d : StepEffect StageCause (Unit {0}) = fold_steps set_block_node tt ranges start in
      keeps-going start d d.answer (λ a. after found a (items_after_step start d)) (keeps-turn ranges start)
      (λ a. quiet (items_after_step start d) (after found a (items_after_step start d)).steps
      ((quiet-after found a).each (items_after_step start d)))
      ∙ ap seen_of (append-nil items)

pub keeps-memory : (table : Option SratView) (off : Bool) (items : List Item) (x : ℕ)
    → is_some (memory_of (items_after_step items (assign_nodes table off items)) x) ≡ is_some (memory_of items x)
keeps-memory table off items x =
    keeps-all (λ is. is_some (memory_of is x))
    (λ is steps quiet. ap (λ (f : Labels). is_some (f x)) (quiet-appended_memory is steps quiet)) (set_block_node-some x) table off items

pub keeps-limit : (table : Option SratView) (off : Bool) (items : List Item)
    → limit_of (items_after_step items (assign_nodes table off items)) ≡ limit_of items
keeps-limit table off items = keeps-all limit_of quiet-appended_limit set_block_node-limit table off items

-- if two steps in turn return a value, so did the first
went-on : {E A B : Type 0} (steps : List (List Item)) (answer : Result A E) (next : A → StepEffect E B) (b : B)
    → (continue_if_ok steps answer next).answer ≡ Ok b → (a : A) × (answer ≡ Ok a)
went-on steps (Ok a) next b is = (a, refl)
went-on steps (Err e) next b is = absurd (cc is)

-- if all ranges got their nodes, memory has them
turn-memory : (rs : List NumaBlock) (items : List Item) → (fold_steps set_block_node tt rs items).answer ≡ Ok tt
    → memory_of (items_after_step items (fold_steps set_block_node tt rs items)) ≡ noded_all rs (memory_of items)
unfolding noded_all
turn-memory [] items answered = refl
turn-memory (r ∷ rs) items answered =
    let d : StepEffect StageCause (Unit {0}) = set_block_node tt r items in
    let next : Unit {0} → StepEffect StageCause (Unit {0}) = λ a. fold_steps set_block_node a rs (items_after_step items d) in
    let first = went-on d.steps d.answer next tt answered in
    rw first.1 (ap memory_of (append_groups-append items d.steps (next tt).steps)
    ∙ turn-memory rs (items_after_step items d) (rw first.1 at answered)
    ∙ ap (noded_all rs) (set_block_node-memory r items first.1))

-- what is true after success: memory has the nodes of the ranges, and the nodes that are returned
-- are those that have memory
pub record IsBehind (items : List Item) (found : SratNodesView) (new : List Item) (set_range_node : NodesView) : Type 0 where
  pub memory : memory_of new ≡ noded_all (node_ranges (limit_of items) found) (memory_of items)
  pub nodes : set_range_node.with_memory ≡ nodes_with_memory (memory_of new)

data-nodes : (found : SratNodesView) (nodes : List ℕ) (items : List Item) (set_range_node : NodesView)
    → (place_data_of_nodes found nodes items).answer ≡ Ok set_range_node
    → set_range_node.with_memory ≡ nodes
data-nodes found nodes items set_range_node answered =
    let d : StepEffect StageCause (Unit {0}) = fold_steps place_node_data tt nodes items in
    let first = went-on d.steps d.answer (λ a.
    return_value (nodes_view_from_judgement found nodes) (items_after_step items d)) set_range_node answered in
    let same : nodes_view_from_judgement found nodes ≡ set_range_node = cc (rw first.1 at answered) in
    ap (λ (n : NodesView). n.with_memory) (sym same)

ended-by : (items : List Item) (found : SratNodesView) (set_range_node : NodesView) (d : StepEffect StageCause (Unit {0}))
    → (d.answer ≡ Ok tt → memory_of (items_after_step items d) ≡ noded_all (node_ranges (limit_of items) found) (memory_of items))
    → (continue_if_ok d.steps d.answer (λ a. after found a (items_after_step items d))).answer ≡ Ok set_range_node
    → IsBehind items found
    (append_groups items (continue_if_ok d.steps d.answer (λ a. after found a (items_after_step items d))).steps) set_range_node
ended-by items found set_range_node d all answered =
    let mid : List Item = items_after_step items d in
    let last : StepEffect StageCause NodesView = after found tt mid in
    let first = went-on d.steps d.answer (λ a. after found a mid) set_range_node answered in
    let still = ap memory_of (append_groups-append items d.steps last.steps)
    ∙ quiet-appended_memory mid last.steps ((quiet-after found tt).each mid) in
    rw first.1 (record {
      memory = still ∙ all first.1;
      nodes = data-nodes found (nodes_with_memory (memory_of mid)) (mid ++ []) set_range_node (rw first.1 at answered)
          ∙ ap nodes_with_memory (sym still);
    })

pub after-answer : (table : Option SratView) (off : Bool) (items : List Item) (set_range_node : NodesView)
    → (assign_nodes table off items).answer ≡ Ok set_range_node
    → IsBehind items (judge_srat (is_memory_byte items) off table) (items_after_step items (assign_nodes table off items)) set_range_node
unfolding assign_nodes assign_found_nodes
after-answer table off items set_range_node answered =
    let found : SratNodesView = judge_srat (is_memory_byte items) off table in
    let ranges : List NumaBlock = node_ranges (limit_of items) found in
    let from : List Item → StepEffect StageCause NodesView = λ start. (fold_steps set_block_node tt ranges >>= after found) start in
    subst (λ (start : List Item). (from start).answer ≡ Ok set_range_node
    → IsBehind items found (items_after_step start (from start)) set_range_node)
    (sym (append-nil items))
    (ended-by items found set_range_node (fold_steps set_block_node tt ranges items) (turn-memory ranges items))
    answered
