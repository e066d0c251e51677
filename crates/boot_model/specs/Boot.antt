-- The boot: what `setup_arch` makes of the firmware's map and the command line, stage by stage.
use Rattle.std.specs.Prelude.{ℕ, ◌==◌, Bool, false, ◌&&◌, ◌||◌, List, [], ◌∷◌, ◌++◌, length, nat_lt, if◌then◌else◌, Option, Some, None, Result, Ok, Err}
use Rattle.std.specs.List.{list_any}
use Rattle.bm_base.specs.Range.{RangeView}
use Rattle.bm_base.specs.Width.{address_limit_of}
use Rattle.bm_base.specs.declared.width.Width.{Width}
use Rattle.address_runs.specs.Runs.{RunOf, lies_in}
use Rattle.e820_model.specs.declared.entry.TheConstants.{E820_TYPE_RAM, E820_TYPE_RESERVED_KERN, E820_MAX_ENTRIES}
use Rattle.e820_model.specs.declared.entry.Entry.{Entry}
use Rattle.e820_model.specs.Claims.{Claims, final_claims}
use Rattle.e820_model.specs.Map.{TypeAt, kinds, map_of}
use Rattle.e820_model.specs.Usable.{types_below}
use Rattle.e820_sanitise.specs.declared.stop.MapStop.{MapStop}
use Rattle.e820_sanitise.specs.Stop.{judge_frames}
use Rattle.boot_options.specs.Crash.{no_crash}
use Rattle.boot_options.specs.Options.{OptionsView}
use Rattle.memblock_model.specs.declared.item.Item.{Item}
use Rattle.memblock_model.specs.declared.owner.Which.TheVariants as which
use Rattle.memblock_ranges.specs.declared.region.Heads.{Heads}
use Rattle.memblock_ranges.specs.Tables.{head_of}
use Rattle.growth_model.specs.Bytes.{Fill, table_from_items}
use Rattle.growth_model.specs.Change.{RefusedGrowth}
use Rattle.early_memory.specs.EarlyInputs.{EarlyInputs, FrameRange}
use Rattle.early_memory.specs.FirstItems.{early_items}
use Rattle.script_reader.specs.declared.act.Line.{Line}
use Rattle.early_script.specs.declared.outcome.Answer.{Answer}
use Rattle.early_script.specs.LiveView.{LiveView}
use Rattle.early_script.specs.Lines.{ScriptSoFar, script_after_lines, lines_before_sections, lines_after_sections}
use Rattle.bm_base.specs.ResultSteps.{◌>>=◌}
use Rattle.memblock_model.specs.Items.{memory_of, owner_of}
use Rattle.memblock_model.specs.Tables.{reserved_labels}
use Rattle.srat_reader.specs.Table.{SratView}
use Rattle.srat_nodes.specs.declared.reasons.Why.TheVariants as why
use Rattle.stage_steps.specs.Steps.{StageStep, StepEffect, items_after_step}
use Rattle.numa_nodes.specs.Assignment.{NodesView, assign_nodes}
use Rattle.crash_kernel.specs.declared.crash.Crash.{Crash}
use Rattle.crash_kernel.specs.declared.crash.Crash.TheVariants as crash
use Rattle.crash_kernel.specs.Reservation.{reserve_crash_area_by}
use Rattle.memblock_frames.specs.Frames.{free_node_in, node_of_frame}
use Rattle.buddy_blocks.specs.Frames.{Frames}
use Rattle.page_alloc.specs.declared.act.PageLine.{PageLine}
use Rattle.page_alloc.specs.declared.outcome.PageAnswer.{PageAnswer}
use Rattle.page_alloc.specs.Pages.{PageState, first_page_state}
use Rattle.slit_zonelists.specs.SlitView.{SlitView}
use Rattle.slit_zonelists.specs.Lists.{ZoneListsView, zonelists_from_slit}
use Rattle.slit_zonelists.specs.Near.{page_state_after, page_answers_of}
use Rattle.zone_spans.specs.declared.span.Span.{Span}
use Rattle.zone_spans.specs.Spans.{spans_of}
use Rattle.zone_spans.specs.Hull.{spans_by}
use Rattle.zone_spans.specs.declared.rule.ZoneRule.{ZoneRule}
use Rattle.boot_model.specs.declared.extra.Profile.{Profile}
use Rattle.boot_model.specs.Added.{memory_bytes_of_map}
use Rattle.boot_model.specs.Profiles.{own_profile}
use Rattle.boot_model.specs.declared.stop.Cause.{Cause}
use Rattle.boot_model.specs.declared.stop.Cause.TheVariants as causes
use Rattle.boot_model.specs.First.{items_with_growths}
use Rattle.boot_model.specs.Sections.{SectionPlaces, no_sections, place_present_sections}
use Rattle.boot_model.specs.Stages.{run_each_stage}
use Rattle.boot_model.specs.Stop.{cause_of_growth, cause_of_map, cause_of_stage}

-- what the EFI memory map gives a boot: its entries, and the frames that the machine mirrors
pub record EfiMapView : Type 0 where
  pub entries : List Entry
  pub mirrors : List FrameRange

-- The inputs of a boot.
--
-- - from files: the entries of the zero page and its initrd, the entries of the extension, the
--   options of the command line, the table of domains (SRAT), the lines of both scripts, the table
--   of distances (SLIT), and the EFI memory map
-- - from the words of the command: the width of physical addresses, the place of the kernel, the
--   mirrored frames, and `upward`, which is true if searches go from the lowest address up
pub record InputsView : Type 0 where
  pub entries : List Entry
  pub initrd : Option RangeView
  pub extension : List Entry
  pub options : OptionsView
  pub domains : Option SratView
  pub width : Width
  pub kernel : RangeView
  pub mirrors : List FrameRange
  pub upward : Bool
  pub lines : List Line
  pub page_lines : List PageLine
  pub slit : Option SlitView
  pub efi : Option EfiMapView

-- What a boot is given besides its inputs: the profile, and the lines of early claims. The lines
-- are those of a script without `sections`.
pub record ExtraView : Type 0 where
  pub profile : Profile
  pub claims : List Line

-- what `bootmem` gives each boot: its own profile and no early claims
abbrev pub no_extra : ExtraView
no_extra = record { profile = own_profile; claims = [] }

-- the options of an empty command line
abbrev pub no_options : OptionsView
no_options = record { edits = []; crash = no_crash; numa_off = false; add_efi = false }

-- the inputs of a boot for which every input file is absent
abbrev pub inputs_without_files : Width → RangeView → InputsView
inputs_without_files width kernel = record {
  entries = [];
  initrd = None;
  extension = [];
  options = no_options;
  domains = None;
  width = width;
  kernel = kernel;
  mirrors = [];
  upward = false;
  lines = [];
  page_lines = [];
  slit = None;
  efi = None;
}

-- the limit of physical addresses, in bytes (`MAX_PHYSMEM_BITS`)
abbrev pub reach : InputsView → ℕ
reach inputs = address_limit_of inputs.width

-- the mirrored frames of the EFI map (`efi_find_mirror`)
abbrev pub efi_mirrors : Option EfiMapView → List FrameRange
efi_mirrors None = []
efi_mirrors (Some efi) = efi.mirrors

-- the mirrored frames: those that the command words name, and then those of the EFI map
abbrev pub all_mirrors : InputsView → List FrameRange
all_mirrors inputs = inputs.mirrors ++ efi_mirrors inputs.efi

-- the inputs of the early stages, before memory has nodes; the map is given apart from them
abbrev pub early_inputs : InputsView → EarlyInputs
early_inputs inputs = record {
  limit = reach inputs;
  kernel = inputs.kernel;
  initrd = inputs.initrd;
  mirrors = all_mirrors inputs;
  upward = inputs.upward;
}

-- What a boot has made so far: the map, the options, what happened to memory (oldest first), the
-- nodes, the outcome for the crash area, and the places of the sections. The last four fields are
-- of the early claims and the early script: the live IDs and the fills of both, and the outcomes of
-- the lines of each.
pub record BootSoFar : Type 0 where
  pub map : List (RunOf ℕ)
  pub options : OptionsView
  pub items : List Item
  pub nodes : NodesView
  pub crash : Crash
  pub sections : SectionPlaces
  pub ids : LiveView
  pub fills : List Fill
  pub claim_answers : List Answer
  pub answers : List Answer

-- What is reported at the end. Besides what the boot made, it has the width of physical
-- addresses, the heads of the two tables, the spans of the nodes, the free frames, the order of
-- zones for each node, and the answers of the page script with the state after it. It lacks the
-- live IDs and the fills, since they are in the bytes of memory.
pub record BootedView : Type 0 where
  pub width : Width
  pub map : List (RunOf ℕ)
  pub options : OptionsView
  pub items : List Item
  pub heads : Heads
  pub nodes : NodesView
  pub crash : Crash
  pub sections : SectionPlaces
  pub claim_answers : List Answer
  pub answers : List Answer
  pub spans : List Span
  pub free : Frames
  pub lists : ZoneListsView
  pub page_answers : List PageAnswer
  pub after : PageState

-- the nodes before any memory has one
abbrev pub no_nodes : NodesView
no_nodes = record { why = why.Absent; domains = []; uncovered = 0; with_memory = [] }

-- A stage takes what the earlier stages made. It returns what they made with its own part added,
-- or the cause for which the boot stops.
abbrev pub Stage : Type 0
Stage = BootSoFar → Result BootSoFar Cause

-- the entries of the EFI map, or none if there is no such map
abbrev pub efi_entries : Option EfiMapView → List Entry
efi_entries None = []
efi_entries (Some efi) = efi.entries

-- the entries of the EFI map if the command line asks for them (`add_efi_memmap`), else none
abbrev pub added_entries : InputsView → List Entry
added_entries inputs = if inputs.options.add_efi then efi_entries inputs.efi else []

-- the claims of the finished map: the typed ranges that the entries and the edits give
abbrev pub claims : InputsView → Claims
claims inputs = final_claims inputs.entries inputs.extension inputs.options.edits (added_entries inputs)

-- the heads of memblock's two tables (address, number of records and room of each) after `items`
abbrev pub heads_of : RangeView → List Item → Heads
heads_of kernel items = record {
  memory = head_of (table_from_items which.Memory kernel items);
  reserved = head_of (table_from_items which.Reserved kernel items);
}

-- the frames that go to the buddy lists, each with the node of its memory: all bytes of such a
-- frame are memory, and none is claimed (`memblock_free_all`)
abbrev pub handover_frames : List Item → Frames
handover_frames items = free_node_in (memory_of items) (reserved_labels (owner_of items))

-- for each node and zone, the frames from the node's first memory frame in the zone to its last
-- (`free_area_init`)
abbrev pub spans_of_memory : List Item → List Span
spans_of_memory items = spans_of (node_of_frame (memory_of items))

-- for each node and zone, the frames that the zone spans by the rule
abbrev pub spans_by_rule : ZoneRule → List Item → List Span
spans_by_rule rule items = spans_by rule (node_of_frame (memory_of items))

-- the limit of physical addresses of a boot that is over, in bytes
abbrev pub booted_address_limit : BootedView → ℕ
booted_address_limit finish_boot = address_limit_of finish_boot.width

-- for each node, the zones with memory, in the order in which an allocation for the node tries them
-- (`build_zonelists`)
abbrev pub booted_zonelists : InputsView → BootSoFar → ZoneListsView
booted_zonelists inputs made = zonelists_from_slit inputs.slit made.nodes.domains (spans_of_memory made.items)

-- what is reported of the boot; the page script runs on a copy of the frames that were handed over,
-- and none of them is allocated at first
abbrev pub finish_boot_by : Profile → InputsView → BootSoFar → BootedView
finish_boot_by profile inputs made = record {
  width = inputs.width;
  map = made.map;
  options = made.options;
  items = made.items;
  heads = heads_of inputs.kernel made.items;
  nodes = made.nodes;
  crash = made.crash;
  sections = made.sections;
  claim_answers = made.claim_answers;
  answers = made.answers;
  spans = spans_by_rule profile.zones made.items;
  free = handover_frames made.items;
  lists = booted_zonelists inputs made;
  page_answers = page_answers_of (booted_zonelists inputs made) (first_page_state (handover_frames made.items)) inputs.page_lines;
  after = page_state_after (booted_zonelists inputs made) (first_page_state (handover_frames made.items)) inputs.page_lines;
}

-- what is reported of a boot with `bootmem`'s own profile
abbrev pub finish_boot : InputsView → BootSoFar → BootedView
finish_boot inputs made = finish_boot_by own_profile inputs made

-- the state in which a boot with this map begins: nothing has happened to memory yet
abbrev pub begin_with_map : List (RunOf ℕ) → OptionsView → BootSoFar
begin_with_map map options = record {
  map = map;
  options = options;
  items = [];
  nodes = no_nodes;
  crash = crash.Nothing;
  sections = no_sections;
  ids = [];
  fills = [];
  claim_answers = [];
  answers = [];
}

-- the state in which a boot begins, with the map that its claims give
abbrev pub begin_boot : InputsView → BootSoFar
begin_boot inputs = begin_with_map (map_of (claims inputs)) inputs.options

-- the type of each address below the limit of physical addresses
abbrev pub types_in_reach : InputsView → TypeAt
types_in_reach inputs = types_below (reach inputs) (kinds (claims inputs))

-- stops the boot if the map has more runs than the kernel's table has room for (`E820_MAX_ENTRIES`)
abbrev pub map_size_stage : Stage
map_size_stage made = if nat_lt E820_MAX_ENTRIES (length made.map) then Err (causes.MapFull (length made.map)) else Ok made

-- stops the boot if there is a reason why the map is refused; else the state is unchanged
abbrev pub made_or_stop : Option MapStop → Stage
made_or_stop None made = Ok made
made_or_stop (Some reason) made = Err (cause_of_map reason)

-- stops the boot if no frame below the limit of physical addresses is usable, or too many are
-- (`e820__memblock_setup`)
abbrev pub usable_frames_stage : InputsView → Stage
usable_frames_stage inputs made = made_or_stop (judge_frames (types_in_reach inputs)) made

-- the stages that accept the map or stop the boot
abbrev pub map_stages : InputsView → List Stage
map_stages inputs = map_size_stage ∷ usable_frames_stage inputs ∷ []

-- the state after the stages that accept the map, or the cause for which one of them stops the
-- boot
abbrev pub judge_map : InputsView → Result BootSoFar Cause
judge_map inputs = run_each_stage (map_stages inputs) (begin_boot inputs)

-- the state before the next lines of the early script, from what the boot has made so far
abbrev pub script_state : RangeView → BootSoFar → ScriptSoFar
script_state kernel made = record {
  state = record { kernel = kernel; items = made.items; ids = made.ids };
  fills = made.fills;
  answers = made.answers;
}

-- what the boot has made after lines of the early script ended in the state `s`
abbrev pub with_script_state : BootSoFar → ScriptSoFar → BootSoFar
with_script_state made s = record made { items = s.state.items; ids = s.state.ids; fills = s.fills; answers = s.answers }

-- runs lines of the early script; if a line is refused, its outcome is recorded and the boot goes
-- on with the next line
abbrev pub script_stage : RangeView → List Line → Stage
script_stage kernel lines made = Ok (with_script_state made (script_after_lines (script_state kernel made) lines))

-- the state that the lines of early claims begin with
abbrev pub claims_state : RangeView → BootSoFar → ScriptSoFar
claims_state kernel made = record (script_state kernel made) { answers = made.claim_answers }

-- what was made, with the state in which the lines of early claims ended
abbrev pub with_claims_state : BootSoFar → ScriptSoFar → BootSoFar
with_claims_state made s = record made { items = s.state.items; ids = s.state.ids; fills = s.fills; claim_answers = s.answers }

-- Runs the lines of early claims as those of a script: if a line is refused, its outcome is
-- recorded and the next line follows. Their IDs stay live, and their outcomes are a list of their
-- own.
abbrev pub claims_stage : RangeView → List Line → Stage
claims_stage kernel lines made = Ok (with_claims_state made (script_after_lines (claims_state kernel made) lines))

-- puts the value of a stage into what the boot made, or stops the boot with the cause for the
-- stage's error
abbrev pub finish_stage : {E A : Type 0} → (E → Cause) → (A → BootSoFar → BootSoFar) → BootSoFar → Result A E → Result BootSoFar Cause
finish_stage cause put next (Ok a) = Ok (put a next)
finish_stage cause put next (Err error) = Err (cause error)

-- ends a stage made of steps: appends the items that its steps wrote, and then puts its value into
-- what the boot made, or stops the boot with the cause for its error
abbrev pub finish_steps : {E A : Type 0} → (E → Cause) → (A → BootSoFar → BootSoFar) → BootSoFar → StepEffect E A → Result BootSoFar Cause
finish_steps cause put made done = finish_stage cause put (record made { items = items_after_step made.items done }) done.answer

-- A stage of the boot that consists of the steps `doing`. `put` adds the value of the steps to what
-- the boot has made. `cause` gives the reason for which the boot stops if the steps fail.
abbrev pub stage_of_steps : {E A : Type 0} → (E → Cause) → (A → BootSoFar → BootSoFar) → StageStep E A → Stage
stage_of_steps cause put doing made = finish_steps cause put made (doing made.items)

-- makes the first claims, turns the map into memory in whole frames, and claims the first MiB
-- (`early_reserve_memory`, `e820__memblock_setup`, `reserve_real_mode`)
abbrev pub memory_stage : InputsView → Stage
memory_stage inputs made =
    stage_of_steps cause_of_growth (λ done next. next) (items_with_growths (early_items (early_inputs inputs) made.map)) made

-- what the boot has made, with its nodes replaced by `nodes`
abbrev pub made_with_nodes : NodesView → BootSoFar → BootSoFar
made_with_nodes nodes made = record made { nodes = nodes }

-- gives memory its nodes, and each node its data (`initmem_init`)
abbrev pub nodes_stage : InputsView → Stage
nodes_stage inputs = stage_of_steps cause_of_stage made_with_nodes (assign_nodes inputs.domains inputs.options.numa_off)

-- what the boot has made, with its outcome for the crash area replaced by `area`
abbrev pub made_with_crash_area : Crash → BootSoFar → BootSoFar
made_with_crash_area area made = record made { crash = area }

-- reserves the crash area by the profile's rule (`reserve_crashkernel`)
abbrev pub reserve_for_map : Profile → InputsView → List (RunOf ℕ) → StageStep RefusedGrowth Crash
reserve_for_map profile inputs map = reserve_crash_area_by profile.crash (memory_bytes_of_map (reach inputs) map) inputs.options.crash

abbrev pub crash_area_stage : Profile → InputsView → Stage
crash_area_stage profile inputs made = stage_of_steps cause_of_growth made_with_crash_area (reserve_for_map profile inputs made.map) made

-- what the boot has made, with its places of sections replaced by `sections`
abbrev pub made_with_sections : SectionPlaces → BootSoFar → BootSoFar
made_with_sections sections made = record made { sections = sections }

-- allocates the roots, the usage data and the maps of all sections that have memory (`sparse_init`)
abbrev pub sections_stage : InputsView → Stage
sections_stage inputs = stage_of_steps cause_of_stage made_with_sections (place_present_sections inputs.width)

-- The stages after the map, in their order. The early claims come once the first MiB is claimed,
-- before memory gets its nodes. The `sections` line of the early script says where among its lines
-- the sections are placed.
abbrev pub later_stages : ExtraView → InputsView → List Stage
later_stages extra inputs =
    memory_stage inputs ∷ claims_stage inputs.kernel extra.claims ∷ nodes_stage inputs ∷ crash_area_stage extra.profile inputs
    ∷ script_stage inputs.kernel (lines_before_sections inputs.lines)
    ∷ sections_stage inputs
    ∷ script_stage inputs.kernel (lines_after_sections inputs.lines) ∷ []

-- what the boot has made up to the handover (`setup_arch`, up to `mem_init`), with a profile and
-- early claims, or the cause for which it stops
unfoldable pub boot_with : ExtraView → InputsView → Result BootSoFar Cause
boot_with extra inputs = judge_map inputs >>= λ made. run_each_stage (later_stages extra inputs) made

-- what the boot has made with `bootmem`'s own profile and without early claims, or the cause for
-- which it stops
unfoldable pub boot : InputsView → Result BootSoFar Cause
boot inputs = boot_with no_extra inputs

-- what is reported of the boot with a profile and early claims, or the cause for which it stops
abbrev pub whole_boot_with : ExtraView → InputsView → Result BootedView Cause
whole_boot_with extra inputs = boot_with extra inputs >>= λ made. Ok (finish_boot_by extra.profile inputs made)

-- what is reported of the boot with `bootmem`'s own profile and without early claims, or the cause
-- for which it stops
abbrev pub whole_boot : InputsView → Result BootedView Cause
whole_boot inputs = boot inputs >>= λ made. Ok (finish_boot inputs made)

-- whether the address lies in a run of RAM or of the kernel's own memory
abbrev pub lies_in_memory : List (RunOf ℕ) → ℕ → Bool
lies_in_memory map x = list_any (λ r. lies_in r x && (r.value == E820_TYPE_RAM || r.value == E820_TYPE_RESERVED_KERN)) map
