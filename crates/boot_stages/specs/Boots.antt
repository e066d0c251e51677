-- How the boot continues once the e820 table has returned its map or an error, and what the stages
-- of the boot return.
use Rattle.std.specs.Prelude.{◌≡◌, ◌≢◌, ℕ, List, Vec, Option, Some, None, Result, Ok, Err}
use Rattle.std.specs.declared.alloc.Global.{Global}
use Rattle.address_runs.specs.Runs.{RunOf, value_at}
use Rattle.e820_sanitise.specs.declared.table.MapFault.{MapFault}
use Rattle.e820_sanitise.specs.declared.table.MapFault.TheVariants as faults
use Rattle.e820_sanitise.specs.declared.stop.MapStop.{MapStop}
use Rattle.e820_sanitise.specs.Stop.{judge_frames}
use Rattle.e820_model.specs.Usable.{types_below}
use Rattle.bm_base.specs.ResultSteps.{map_error}
use Rattle.phys_store.specs.Bytes.{ExtentView, byte_of}
use Rattle.memblock_model.specs.declared.owner.Which.{Which}
use Rattle.memblock_model.specs.declared.item.Item.{Item}
use Rattle.memblock_model.specs.Tables.{records_of}
use Rattle.memblock_ranges.specs.declared.region.Head.{Head}
use Rattle.memblock_ranges.specs.declared.region.Heads.{Heads}
use Rattle.memblock_ranges.specs.Tables.{TableView, IsInStore, head_of, records_of_head}
use Rattle.memblock_frames.specs.Frames.{free_node_in}
use Rattle.buddy_handover.specs.BuddyView.{BuddyView, node_of_free_frame}
use Rattle.boot_model.specs.declared.stop.Cause.TheVariants as causes
use Rattle.boot_model.specs.declared.stop.Stop.{Stop}
use Rattle.boot_model.specs.declared.stop.Stop.TheVariants as stops
use Rattle.numa_nodes.specs.Assignment.{nodes_view}
use Rattle.boot_model.specs.Boot.{ExtraView, InputsView, BootSoFar, begin_with_map, usable_frames_stage, later_stages, judge_map}
use Rattle.boot_stages.specs.declared.later.LaterResults.{LaterResults}
use Rattle.boot_model.specs.Stages.{run_each_stage}
use Rattle.boot_model.specs.Stop.{cause_of_map, stop_of}
use Rattle.boot_model.specs.View.{sections_view}
use Rattle.growth_model.specs.Bytes.{Fill, AreBytesFromHistory}
use Rattle.memblock_grow.specs.MemblockView.{MemblockView}
use Rattle.early_script.specs.declared.outcome.Answer.{Answer}
use Rattle.early_script.specs.LiveView.{LiveView}

-- what `Table::runs` returns: the runs of the finished map, each a range of addresses with an e820
-- type, or the error
abbrev pub TableMapResult : Type 0
TableMapResult = Result (Vec (RunOf ℕ) Global) MapFault

-- why the boot stops if the e820 table returns this error instead of the map: the map has too many
-- runs, or the program is out of memory
abbrev pub stop_of_map : MapFault → Stop
stop_of_map (faults.MapFull runs) = stops.MapFull runs
stop_of_map faults.Memory = stops.Memory

-- `Ok` of the map if there is no reason to refuse it; else the stop of the boot for the reason,
-- which is that no frame is usable or that too many are
abbrev pub map_or_stop : Option MapStop → List (RunOf ℕ) → Result (List (RunOf ℕ)) Stop
map_or_stop None map = Ok map
map_or_stop (Some reason) map = Err (stop_of (cause_of_map reason))

-- the map that the e820 table returned, if it has 1 to 2^32 usable frames below the address
-- `reach`, the limit of physical addresses. Otherwise why the boot stops: the number of usable
-- frames is refused, or the table returned an error.
abbrev pub accept_table_result : ℕ → TableMapResult → Result (List (RunOf ℕ)) Stop
accept_table_result reach (Ok runs) = map_or_stop (judge_frames (types_below reach (value_at runs.items))) runs.items
accept_table_result reach (Err fault) = Err (stop_of_map fault)

-- How the stages that accept the map (`judge_map`) end, by what the e820 table returned. If it
-- returned the map, they end as the check of the number of usable frames does. If the map has too
-- many runs, they stop the boot with `MapFull`. If the program was out of memory, this proposition
-- says nothing.
abbrev pub DecidesMapStages : InputsView → TableMapResult → Type 0
DecidesMapStages inputs (Ok runs) = judge_map inputs ≡ usable_frames_stage inputs (begin_with_map runs.items inputs.options)
DecidesMapStages inputs (Err (faults.MapFull runs)) = judge_map inputs ≡ Err (causes.MapFull runs)
DecidesMapStages inputs (Err faults.Memory) = Unit {0}

-- memblock's table `w` (memory or reserved) lies in the bytes of `store`, at the address that
-- `head` gives, and its records are those that the journal items `items` give
pub record IsStoredTable (w : Which) (items : List Item) (store : List ExtentView) (head : Head) : Type 0 where
  pub table : TableView
  pub stands : IsInStore table store
  pub head_is : head ≡ head_of table
  pub records : table.records ≡ records_of w items

-- For each frame, `buddy` and the records of memblock's two tables agree whether the frame is free,
-- and on which node. The records are read from the bytes of `store`, at the addresses that `heads`
-- gives.
abbrev pub IsFreeByStore : List ExtentView → Heads → BuddyView → Type 0
IsFreeByStore store heads buddy =
    (frame : ℕ) → node_of_free_frame buddy frame
    ≡ free_node_in (value_at (records_of_head store heads.memory)) (value_at (records_of_head store heads.reserved)) frame

-- each byte of memory has the value that results from the journal of `m` and from `fills`, the
-- writes of scripts to memory
abbrev pub HasBytesOfHistory : List Fill → MemblockView → Type 0
HasBytesOfHistory fills m = AreBytesFromHistory m.kernel m.journal.items fills (byte_of m.tables.store)

-- the state `made` of the boot, updated after lines of a script ran: the journal items are those of
-- memblock `m`, `ids` has the range of each ID that is in use, `fills` the writes to memory, and
-- `answers` the outcome of each line
abbrev pub made_after_lines : BootSoFar → MemblockView → LiveView → List Fill → List Answer → BootSoFar
made_after_lines made m ids fills answers = record made { items = m.journal.items; ids = ids; fills = fills; answers = answers }

-- The state of the boot after all stages. `inputs` are the inputs, `map` is the accepted map, and
-- `later` has the results of the stages after the map. Memblock `m` has the journal items. `ids`
-- has the range of each ID of a script that is in use, and `fills` the scripts' writes to memory.
abbrev pub made_after_stages : InputsView → List (RunOf ℕ) → MemblockView → LaterResults → LiveView → List Fill → BootSoFar
made_after_stages inputs map m later ids fills = record {
  map = map;
  options = inputs.options;
  items = m.journal.items;
  nodes = nodes_view later.nodes;
  crash = later.crash;
  sections = sections_view later.roots later.placed;
  ids = ids;
  fills = fills;
  claim_answers = later.claim_answers.items;
  answers = later.answers.items;
}

-- The stages after the map end without a stop. Their definition gives the state that is made of
-- memblock `m`, of the results `later`, and of some `ids` and `fills` of the scripts. The range of
-- the kernel's image is that of the inputs. Each byte of memory has the value that results from the
-- journal and from the scripts' writes (`fills`).
pub record StagesEndWith (extra : ExtraView) (inputs : InputsView) (map : List (RunOf ℕ)) (m : MemblockView)
    (later : LaterResults) : Type 0 where
  pub ids : LiveView
  pub fills : List Fill
  pub come : run_each_stage (later_stages extra inputs) (begin_with_map map inputs.options)
      ≡ Ok (made_after_stages inputs map m later ids fills)
  pub kernel : m.kernel ≡ inputs.kernel
  pub holds : HasBytesOfHistory fills m

-- unless `stop` is out of memory, the definition of the stages after the map ends with `stop` too
abbrev pub StagesStopWith : ExtraView → InputsView → List (RunOf ℕ) → Stop → Type 0
StagesStopWith extra inputs map stop =
    stop ≢ stops.Memory → map_error stop_of (run_each_stage (later_stages extra inputs) (begin_with_map map inputs.options)) ≡ Err stop
