-- A boot that isn't stopped gets its memory and its limit from its map. Each stage after the one
-- that makes memory leaves both as they are.
use Rattle.std.proofs.Common.{◌≡◌, ℕ, ◌/◌, ◌^◌, ◌<◌, ◌≤◌, ◌∙◌, ap, refl, arith, inl, inr, Bool, true, false, nat_lt, if◌then◌else◌, is_some, Option, Some, None, List, [], ◌∷◌, drop, Ok, sym}
use Rattle.std.specs.Option.{option_map}
use Rattle.std.proofs.lemmas.Bool.{cases_Bool}
use Rattle.std.proofs.lemmas.Bool.Decides.{nat_tests}
use Rattle.bm_base.specs.Range.{RangeView}
use Rattle.bm_base.specs.declared.width.Width.{Width}
use Rattle.address_runs.specs.Runs.{RunOf, value_at}
use Rattle.e820_model.specs.Claims.{Claims}
use Rattle.e820_model.specs.Map.{TypeAt, kinds, map_of}
use Rattle.e820_model.specs.Usable.{is_usable_frame, types_below}
use Rattle.memblock_model.specs.Labels.{LabelView, Labels, plain_label, with_mirror}
use Rattle.memblock_model.specs.Items.{limit_of, memory_of}
use Rattle.memblock_model.specs.declared.item.Item.{Item}
use Rattle.growth_model.specs.Requests.{StepsKeepMemory, carry_out_items}
use Rattle.growth_model.specs.Change.{ChangeEffect, items_after_change}
use Rattle.growth_model.proofs.QuietLaws.{quiet-limit, quiet-memory}
use Rattle.growth_model.specs.Bytes.{byte_from_history}
use Rattle.early_memory.specs.EarlyInputs.{FrameRange}
use Rattle.early_memory.specs.Memory.{is_mirrored, memory_end, mirrored_memory, usable_memory}
use Rattle.early_memory.specs.FirstItems.{early_items}
use Rattle.early_memory.proofs.MemoryLaws.{first_limit, first_memory}
use Rattle.early_memory.proofs.EndLaws.{memory_end-same}
use Rattle.script_reader.specs.declared.act.Line.{Line}
use Rattle.early_script.specs.Effects.{script_outcome_at_line, state_after_line}
use Rattle.early_script.specs.Lines.{ScriptSoFar, script_after_line, script_after_lines, lines_before_sections, lines_after_sections, line_effect}
use Rattle.early_script.proofs.QuietLaws.{acts-keep, act_effect-quiet}
use Rattle.boot_model.specs.Added.{memory_bytes_of_map}
use Rattle.boot_model.specs.declared.extra.Profile.{Profile}
use Rattle.boot_model.specs.Boot.{ExtraView, InputsView, BootSoFar, Stage, boot_with, claims, claims_stage, claims_state, early_inputs, crash_area_stage, memory_stage, nodes_stage, sections_stage, later_stages, judge_map, all_mirrors, made_with_crash_area, made_with_nodes, made_with_sections, reach, reserve_for_map, script_stage, script_state, types_in_reach}
use Rattle.boot_model.specs.Sections.{place_present_sections}
use Rattle.boot_model.specs.Stop.{cause_of_growth, cause_of_stage}
use Rattle.numa_nodes.specs.Assignment.{assign_nodes}
use Rattle.numa_nodes.proofs.MemoryLaws.{keeps-limit, keeps-memory}
use Rattle.crash_kernel.proofs.QuietLaws.{quiet-reserved_by}
use Rattle.stage_steps.specs.KeepsMemory.{KeepsMemory}
use Rattle.stage_steps.proofs.QuietLaws.{quiet-appended_limit, quiet-appended_memory, quiet-bind, quiet-listed, quiet-returns}
use Rattle.sparse_sections.proofs.QuietLaws.{quiet-roots}
use Rattle.section_maps.proofs.QuietLaws.{quiet-maps}
use Rattle.boot_model.specs.Stages.{run_each_stage}
use Rattle.boot_model.proofs.BootLaws.{claims_passed, accepted_map_is_unchanged, lines_passed, map_between}
use Rattle.boot_model.proofs.CarriedLaws.{memory_carried}
use Rattle.boot_model.proofs.ReachLaws.{reach-small}
use Rattle.boot_model.proofs.StageLaws.{AllKeep, Keeps, chain_keeps, goes_by, passes, steps_keep}

-- whether the byte is memory, after the items
abbrev pub held_by : BootSoFar → ℕ → Bool
held_by made x = is_some (memory_of made.items x)

-- the labels of memory, after the items
abbrev pub labels_by : BootSoFar → Labels
labels_by made = memory_of made.items

-- the limit of allocations, after the items
abbrev pub bound_by : BootSoFar → ℕ
bound_by made = limit_of made.items

-- each line of the script leaves memory as it is
lines_keep : {X : Type 0} (f : List Item → X)
    → ((items : List Item) (o : ChangeEffect) → StepsKeepMemory o.steps → f (items_after_change items o) ≡ f items)
    → (s : ScriptSoFar) (lines : List Line)
    → f (script_after_lines s lines).state.items ≡ f s.state.items
lines_keep f keeps s [] = refl
lines_keep f keeps s (line ∷ lines) =
    lines_keep f keeps (script_after_line s line) lines
    ∙ acts-keep f keeps (Ok (script_outcome_at_line s.state (line_effect s line))) s.state (state_after_line s.state (line_effect s line))
    (line_effect s line)
    (act_effect-quiet s.state (byte_from_history s.state.kernel s.state.items s.fills) line.act) (refl, refl)

-- lines of the script leave the labels as they are
pub lines_labels : (kernel : RangeView) (lines : List Line) → Keeps labels_by (script_stage kernel lines)
lines_labels kernel lines before last ends =
    ap labels_by (lines_passed kernel lines before last ends) ∙ lines_keep memory_of quiet-memory (script_state kernel before) lines

-- lines of the script leave the limit as it is
lines_bound : (kernel : RangeView) (lines : List Line) → Keeps bound_by (script_stage kernel lines)
lines_bound kernel lines before last ends =
    ap bound_by (lines_passed kernel lines before last ends) ∙ lines_keep limit_of quiet-limit (script_state kernel before) lines

-- lines of early claims leave the labels as they are
pub claims_labels : (kernel : RangeView) (lines : List Line) → Keeps labels_by (claims_stage kernel lines)
claims_labels kernel lines before last ends =
    ap labels_by (claims_passed kernel lines before last ends) ∙ lines_keep memory_of quiet-memory (claims_state kernel before) lines

-- lines of early claims leave the limit as it is
pub claims_bound : (kernel : RangeView) (lines : List Line) → Keeps bound_by (claims_stage kernel lines)
claims_bound kernel lines before last ends =
    ap bound_by (claims_passed kernel lines before last ends) ∙ lines_keep limit_of quiet-limit (claims_state kernel before) lines

-- the stage of nodes doesn't change which bytes are memory
nodes_hold : (inputs : InputsView) → Keeps held_by (nodes_stage inputs)
nodes_hold inputs =
    steps_keep held_by cause_of_stage made_with_nodes (assign_nodes inputs.domains inputs.options.numa_off) (λ a m. refl)
    (λ before. (λ i x. keeps-memory inputs.domains inputs.options.numa_off before.items x i))

-- the stage of nodes leaves the limit as it is
nodes_bound : (inputs : InputsView) → Keeps bound_by (nodes_stage inputs)
nodes_bound inputs =
    steps_keep bound_by cause_of_stage made_with_nodes (assign_nodes inputs.domains inputs.options.numa_off) (λ a m. refl)
    (λ before. keeps-limit inputs.domains inputs.options.numa_off before.items)

-- the stage of the crash area leaves the labels as they are
pub crash_labels : (profile : Profile) (inputs : InputsView) → Keeps labels_by (crash_area_stage profile inputs)
crash_labels profile inputs before last =
    steps_keep labels_by cause_of_growth made_with_crash_area (reserve_for_map profile inputs before.map) (λ a m. refl)
    (λ made. quiet-appended_memory made.items (reserve_for_map profile inputs before.map made.items).steps
    ((quiet-reserved_by profile.crash (memory_bytes_of_map (reach inputs) before.map) inputs.options.crash).each made.items)) before last

-- the stage of the crash area leaves the limit as it is
crash_bound : (profile : Profile) (inputs : InputsView) → Keeps bound_by (crash_area_stage profile inputs)
crash_bound profile inputs before last =
    steps_keep bound_by cause_of_growth made_with_crash_area (reserve_for_map profile inputs before.map) (λ a m. refl)
    (λ made. quiet-appended_limit made.items (reserve_for_map profile inputs before.map made.items).steps
    ((quiet-reserved_by profile.crash (memory_bytes_of_map (reach inputs) before.map) inputs.options.crash).each made.items)) before last

quiet_sections : (width : Width) → KeepsMemory (place_present_sections width)
unfolding place_present_sections
quiet_sections width = search (quiet-bind, quiet-listed, quiet-roots, quiet-maps, quiet-returns)

-- the stage of the sections leaves the labels as they are
pub section_labels : (inputs : InputsView) → Keeps labels_by (sections_stage inputs)
section_labels inputs =
    steps_keep labels_by cause_of_stage made_with_sections (place_present_sections inputs.width) (λ a m. refl)
    (λ before. quiet-appended_memory before.items (place_present_sections inputs.width before.items).steps
    ((quiet_sections inputs.width).each before.items))

-- the stage of the sections leaves the limit as it is
section_bound : (inputs : InputsView) → Keeps bound_by (sections_stage inputs)
section_bound inputs =
    steps_keep bound_by cause_of_stage made_with_sections (place_present_sections inputs.width) (λ a m. refl)
    (λ before. quiet-appended_limit before.items (place_present_sections inputs.width before.items).steps
    ((quiet_sections inputs.width).each before.items))

-- a stage that leaves the labels as they are doesn't change which bytes are memory
by_labels : (stage : Stage) → Keeps labels_by stage → Keeps held_by stage
by_labels stage keeps before last ends = let held : Labels → ℕ → Bool = λ f x. is_some (f x) in ap held (keeps before last ends)

-- the stages after the nodes leave the labels as they are
pub labels_keep : (extra : ExtraView) (inputs : InputsView) → AllKeep labels_by (drop 3 (later_stages extra inputs))
labels_keep extra inputs =
    let before = lines_labels inputs.kernel (lines_before_sections inputs.lines) in
    let after = lines_labels inputs.kernel (lines_after_sections inputs.lines) in
    (crash_labels extra.profile inputs, (before, (section_labels inputs, (after, tt))))

-- the stages after memory is made don't change which bytes are memory
memory_keep : (extra : ExtraView) (inputs : InputsView) → AllKeep held_by (drop 1 (later_stages extra inputs))
memory_keep extra inputs =
    let before = by_labels _ (lines_labels inputs.kernel (lines_before_sections inputs.lines)) in
    let after = by_labels _ (lines_labels inputs.kernel (lines_after_sections inputs.lines)) in (
      by_labels _ (claims_labels inputs.kernel extra.claims),
      (nodes_hold inputs, (by_labels _ (crash_labels extra.profile inputs), (before, (by_labels _ (section_labels inputs), (after, tt))))),
    )

-- the stages after memory is made leave the limit as it is
limit_keep : (extra : ExtraView) (inputs : InputsView) → AllKeep bound_by (drop 1 (later_stages extra inputs))
limit_keep extra inputs =
    let before = lines_bound inputs.kernel (lines_before_sections inputs.lines) in
    let after = lines_bound inputs.kernel (lines_after_sections inputs.lines) in (
      claims_bound inputs.kernel extra.claims,
      (nodes_bound inputs, (crash_bound extra.profile inputs, (before, (section_bound inputs, (after, tt))))),
    )

-- after the boot, which bytes are memory, and the limit, are as the stage left them that made
-- memory
pub record HasMemory (inputs : InputsView) (made : BootSoFar) : Type 0 where
  pub first : BootSoFar
  pub carried : carry_out_items (early_items (early_inputs inputs) (map_of (claims inputs))) [] ≡ Ok first.items
  pub memory : held_by made ≡ held_by first
  pub limit : limit_of made.items ≡ limit_of first.items

pub memory_made : (extra : ExtraView) (inputs : InputsView) (made : BootSoFar) → boot_with extra inputs ≡ Ok made → HasMemory inputs made
unfolding boot_with
memory_made extra inputs made ends =
    let judged = goes_by (judge_map inputs) (λ m. run_each_stage (later_stages extra inputs) m) made ends in
    let after = passes (memory_stage inputs) (drop 1 (later_stages extra inputs)) judged.middle made judged.rest in
    let known = accepted_map_is_unchanged inputs judged.middle judged.first in
    record {
      first = after.middle;
      carried = ap (λ (m : BootSoFar). carry_out_items (early_items (early_inputs inputs) m.map) m.items) (sym known.0)
          ∙ memory_carried inputs judged.middle after.middle after.first;
      memory = chain_keeps held_by (drop 1 (later_stages extra inputs)) (memory_keep extra inputs) after.middle made after.rest;
      limit = chain_keeps bound_by (drop 1 (later_stages extra inputs)) (limit_keep extra inputs) after.middle made after.rest;
    }

-- below the limit of physical addresses, the map has the types that the claims give
reached_same : (limit : ℕ) (c : Claims) (x : ℕ) → limit ≤ 2 ^ 52 → types_below limit (value_at (map_of c)) x ≡ types_below limit (kinds c) x
reached_same limit c x small =
    elim (cases_Bool (nat_lt x limit)) [
      | inl within ↦
          let low : x < limit = grind (arith, nat_tests) in rw within ((map_between c).within x (omega arith) (omega arith))
      | inr past ↦ rw past refl
    ]

pub types_same : (inputs : InputsView) → types_below (reach inputs) (value_at (map_of (claims inputs))) ≡ types_in_reach inputs
types_same inputs = λ i x. reached_same (reach inputs) (claims inputs) x (reach-small inputs) i

some_is : (b : Bool) → is_some (if b then Some plain_label else None) ≡ b
some_is true = refl
some_is false = refl

-- marking a byte as mirrored doesn't change whether it is memory
mapped_some : (mirrored : Bool) (o : Option LabelView) → is_some (if mirrored then option_map with_mirror o else o) ≡ is_some o
mapped_some true None = refl
mapped_some true (Some label) = refl
mapped_some false o = refl

mirrored_some : (mirrors : List FrameRange) (f : Labels) (x : ℕ) → is_some (mirrored_memory mirrors f x) ≡ is_some (f x)
mirrored_some mirrors f x = mapped_some (is_mirrored mirrors x) (f x)

-- a byte is memory exactly if its frame is usable
pub booted_memory_is_usable : (extra : ExtraView) (inputs : InputsView) (made : BootSoFar) (x : ℕ) → boot_with extra inputs ≡ Ok made
    → is_some (memory_of made.items x) ≡ is_usable_frame (types_in_reach inputs) (x / 4096)
booted_memory_is_usable extra inputs made x ends =
    let known : HasMemory inputs made = memory_made extra inputs made ends in
    let map : List (RunOf ℕ) = map_of (claims inputs) in
    let reached : TypeAt = types_below (reach inputs) (value_at map) in
    let first = first_memory (early_inputs inputs) map known.first.items (map_between (claims inputs)).runs known.carried x in
    ap (λ (h : ℕ → Bool). h x) known.memory ∙ ap is_some first
    ∙ mirrored_some (all_mirrors inputs) (usable_memory (reach inputs) (value_at map)) x
    ∙ some_is (is_usable_frame reached (x / 4096))
    ∙ ap (λ (t : TypeAt). is_usable_frame t (x / 4096)) (types_same inputs)

-- the limit is the end of the last usable frame
pub limit_is_memory_end : (extra : ExtraView) (inputs : InputsView) (made : BootSoFar) → boot_with extra inputs ≡ Ok made
    → limit_of made.items ≡ memory_end (reach inputs) (kinds (claims inputs))
limit_is_memory_end extra inputs made ends =
    let known : HasMemory inputs made = memory_made extra inputs made ends in
    known.limit ∙ first_limit (early_inputs inputs) (map_of (claims inputs)) known.first.items known.carried
    ∙ memory_end-same (reach inputs) (value_at (map_of (claims inputs))) (kinds (claims inputs)) (types_same inputs)
