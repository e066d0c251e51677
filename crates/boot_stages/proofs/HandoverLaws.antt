-- What the bytes of both tables say of frames at the end of a boot.
use Rattle.std.proofs.Common.{◌≡◌, ◌∙◌, ℕ, ◌*◌, ◌/◌, ◌^◌, List, refl, ap, sym, arith}
use Rattle.address_runs.specs.Runs.{RunOf, value_at}
use Rattle.address_runs.specs.Edits.{IsEmptyFrom}
use Rattle.phys_store.specs.Bytes.{ExtentView}
use Rattle.memblock_model.specs.declared.item.Item.{Item}
use Rattle.memblock_model.specs.declared.owner.Which.{Which}
use Rattle.memblock_model.specs.declared.owner.Which.TheVariants as which
use Rattle.bm_base.specs.Range.{RangeView}
use Rattle.memblock_grow.specs.Invariant.{TablesMatchItems}
use Rattle.memblock_grow.specs.declared.places.AllocSettings.{AllocSettings}
use Rattle.memblock_model.specs.Items.{memory_of, owner_of}
use Rattle.memblock_model.specs.Labels.{Labels}
use Rattle.memblock_model.specs.Tables.{records_of, reserved_labels}
use Rattle.memblock_model.proofs.TableLaws.{value_at-records}
use Rattle.memblock_ranges.specs.declared.region.Head.{Head}
use Rattle.memblock_ranges.specs.declared.region.Heads.{Heads}
use Rattle.memblock_ranges.specs.Tables.{TablesView, table_in, IsInStore, TableView, head_of, records_of_head}
use Rattle.memblock_grow.specs.MemblockView.{MemblockView}
use Rattle.sparse_sections.proofs.NodedLaws.{noded-told}
use Rattle.stage_steps.specs.Nodes.{IsMemoryWithNodes}
use Rattle.memblock_frames.specs.Frames.{free_node_in, node_of_frame}
use Rattle.memblock_frames.specs.HeadRecords.{AreWholeFrames, HasRecords}
use Rattle.memblock_frames.proofs.StandLaws.{stands_ascending, stands_below, stands_free, stands_node, stands_whole}
use Rattle.zone_spans.specs.Spans.{spans_of}
use Rattle.buddy_blocks.specs.Frames.{Frames}
use Rattle.page_alloc.specs.declared.outcome.PageAnswer.{PageAnswer}
use Rattle.page_alloc.specs.Pages.{PageState, first_page_state}
use Rattle.slit_zonelists.specs.Lists.{ZoneListsView, zonelists_from_slit}
use Rattle.slit_zonelists.specs.Near.{page_state_after, page_answers_of}
use Rattle.numa_nodes.specs.Assignment.{nodes_view}
use Rattle.early_script.specs.LiveView.{LiveView}
use Rattle.growth_model.specs.Bytes.{Fill, table_from_items}
use Rattle.zone_spans.specs.declared.span.Span.{Span}
use Rattle.boot_model.specs.Boot.{InputsView, handover_frames, heads_of, spans_by_rule, spans_of_memory, finish_boot_by}
use Rattle.boot_model.specs.declared.extra.Profile.{Profile}
use Rattle.zone_spans.specs.Hull.{spans_by}
use Rattle.zone_spans.specs.declared.rule.ZoneRule.{ZoneRule}
use Rattle.boot_model.specs.View.{sections_view}
use Rattle.boot_stages.specs.declared.later.LaterResults.{LaterResults}
use Rattle.boot_stages.specs.Boots.{made_after_stages}

-- two tables with the records that the items give lie in the bytes, at the places of the heads
pub record Stand (items : List Item) (store : List ExtentView) (memory reserved : Head) : Type 0 where
  pub first : TableView
  pub second : TableView
  pub first_stands : IsInStore first store
  pub second_stands : IsInStore second store
  pub first_head : memory ≡ head_of first
  pub second_head : reserved ≡ head_of second
  pub first_says : value_at first.records ≡ memory_of items
  pub second_says : value_at second.records ≡ reserved_labels (owner_of items)
  pub noded : IsMemoryWithNodes (2 ^ 52) (memory_of items)

module _ {items : List Item} {store : List ExtentView} {memory reserved : Head} (s : Stand items store memory reserved) where
  pub memory-records : HasRecords store memory 4503599627370496
  memory-records =
      rw s.first_head (stands_below s.first store 4503599627370496 s.first_stands
      (λ x far. ap (λ (f : Labels). f x) s.first_says ∙ s.noded.within x (omega (arith, far))))

  pub memory-whole : AreWholeFrames (records_of_head store memory)
  memory-whole =
      rw s.first_head (stands_whole s.first store s.first_stands (λ x.
      ap (λ (f : Labels). f x) s.first_says ∙ s.noded.frames x ∙ ap (λ (f : Labels). f (4096 * (x / 4096))) (sym s.first_says)))

  pub reserved-records : HasRecords store reserved (2 ^ 64)
  reserved-records = rw s.second_head (stands_ascending s.second store s.second_stands)

  nodes-told : node_of_frame (value_at (records_of_head store memory)) ≡ node_of_frame (memory_of items)
  nodes-told = λ i frame.
      (ap (λ (h : Head). node_of_frame (value_at (records_of_head store h)) frame) s.first_head
      ∙ stands_node s.first store frame s.first_stands
      ∙ ap (λ (f : Labels). node_of_frame f frame) s.first_says) i

  pub spans-told : spans_of (node_of_frame (value_at (records_of_head store memory))) ≡ spans_of_memory items
  spans-told = ap spans_of nodes-told

  pub rule-told : (rule : ZoneRule) → spans_by rule (node_of_frame (value_at (records_of_head store memory))) ≡ spans_by_rule rule items
  rule-told rule = ap (spans_by rule) nodes-told

  pub free-told : (frame : ℕ)
      → free_node_in (value_at (records_of_head store memory)) (value_at (records_of_head store reserved)) frame ≡ handover_frames items
      frame
  free-told frame =
      rw (s.first_head, s.second_head) (stands_free s.first s.second store frame s.first_stands s.second_stands
      ∙ rw (s.first_says, s.second_says) refl)

-- memblock's own tables lie in its bytes
pub stand-by : (m : MemblockView) (store : List ExtentView) (heads : Heads)
    → heads ≡ record { memory = head_of m.tables.memory; reserved = head_of m.tables.reserved }
    → m.tables.memory ≡ table_from_items which.Memory m.kernel m.journal.items
    → m.tables.reserved ≡ table_from_items which.Reserved m.kernel m.journal.items
    → IsInStore (table_from_items which.Memory m.kernel m.journal.items) store
    → IsInStore (table_from_items which.Reserved m.kernel m.journal.items) store
    → IsMemoryWithNodes (2 ^ 52) (memory_of m.journal.items) → IsEmptyFrom (2 ^ 64) (reserved_labels (owner_of m.journal.items))
    → Stand m.journal.items store heads.memory heads.reserved
unfolding records_of
stand-by m store heads finish_boot first second first_stands second_stands noded within = record {
  first = table_from_items which.Memory m.kernel m.journal.items;
  second = table_from_items which.Reserved m.kernel m.journal.items;
  first_stands = first_stands;
  second_stands = second_stands;
  first_head = ap (λ (h : Heads). h.memory) finish_boot ∙ ap head_of first;
  second_head = ap (λ (h : Heads). h.reserved) finish_boot ∙ ap head_of second;
  first_says = noded-told (2 ^ 52) m.journal.items (omega arith) noded;
  second_says = value_at-records (reserved_labels (owner_of m.journal.items)) within;
  noded = noded;
}

-- the results of the boot, from what the boot made and from what the handover reads
pub finish_boot-by : (profile : Profile) (inputs : InputsView) (map : List (RunOf ℕ)) (m : MemblockView) (later : LaterResults)
    (ids : LiveView) (fills : List Fill)
    (items : List Item)
    (heads : Heads) (spans with_memory : List Span) (frames : Frames) (lists : ZoneListsView) (answers : List PageAnswer)
    (after : PageState)
    → m.kernel ≡ inputs.kernel → items ≡ m.journal.items → heads ≡ heads_of m.kernel m.journal.items
    → spans ≡ spans_by_rule profile.zones m.journal.items → with_memory ≡ spans_of_memory m.journal.items
    → frames ≡ handover_frames m.journal.items → lists ≡ zonelists_from_slit inputs.slit (nodes_view later.nodes).domains with_memory
    → answers ≡ page_answers_of lists (first_page_state frames) inputs.page_lines
    → after ≡ page_state_after lists (first_page_state frames) inputs.page_lines
    → record {
      width = inputs.width;
      map = map;
      options = inputs.options;
      items = items;
      heads = heads;
      nodes = nodes_view later.nodes;
      crash = later.crash;
      sections = sections_view later.roots later.placed;
      claim_answers = later.claim_answers.items;
      answers = later.answers.items;
      spans = spans;
      free = frames;
      lists = lists;
      page_answers = answers;
      after = after;
    } ≡ finish_boot_by profile inputs (made_after_stages inputs map m later ids fills)
finish_boot-by profile inputs map m later ids fills items heads spans with_memory frames lists answers after kernel same head_is span_is
    memory_is frame_is list_is told_is after_is =
    cc

-- memblock's tables have the records that its items give
pub tables-kept : (w : Which) (kernel : RangeView) (items : List Item) (t : TablesView) (aim : AllocSettings)
    → TablesMatchItems kernel items t aim
    → table_in w t ≡ table_from_items w kernel items
tables-kept which.Memory kernel items t aim kept = kept.memory
tables-kept which.Reserved kernel items t aim kept = kept.reserved
