-- Each call is one stage of the sequence. The first one that stops ends it.
use Rattle.std.proofs.Common.{◌≡◌, ◌∙◌, ℕ, ◌^◌, List, [], ◌∷◌, Ok, ap, drop, take}
use Rattle.address_runs.specs.Runs.{RunOf}
use Rattle.memblock_model.specs.declared.item.Item.{Item}
use Rattle.memblock_grow.specs.MemblockView.{MemblockView}
use Rattle.growth_model.specs.Requests.{carry_out_items}
use Rattle.stage_steps.specs.Causes.{refusal_for, error_of_stage_cause}
use Rattle.stage_steps.proofs.DoingLaws.{ends-begun}
use Rattle.early_memory.specs.FirstItems.{early_items}
use Rattle.early_script.specs.declared.outcome.Answer.{Answer}
use Rattle.early_script.specs.LiveView.{LiveView}
use Rattle.early_script.specs.Lines.{lines_before_sections, lines_after_sections}
use Rattle.numa_nodes.specs.declared.stage.Nodes.{Nodes}
use Rattle.numa_nodes.specs.Assignment.{assign_nodes, nodes_view}
use Rattle.crash_kernel.specs.declared.crash.Crash.{Crash}
use Rattle.boot_model.specs.Boot.{ExtraView, InputsView, BootSoFar, begin_with_map, claims_stage, early_inputs, crash_area_stage, memory_stage, nodes_stage, sections_stage, later_stages, made_with_crash_area, made_with_nodes, made_with_sections, reach, reserve_for_map, script_stage}
use Rattle.boot_model.specs.First.{items_with_growths}
use Rattle.boot_model.specs.Sections.{place_present_sections}
use Rattle.boot_model.specs.Stop.{cause_of_growth, cause_of_stage}
use Rattle.boot_model.specs.View.{extra_view, inputs_view, sections_view}
use Rattle.boot_model.proofs.MemoryLaws.{crash_labels, lines_labels}
use Rattle.boot_model.proofs.NodedLaws.{claimed_known, later_memory_has_nodes}
use Rattle.boot_model.proofs.ReachLaws.{reach-small}
use Rattle.boot_stages.specs.Boots.{StagesStopWith, made_after_lines}
use Rattle.boot_stages.proofs.ItemsLaws.{carried-by}
use Rattle.boot_stages.proofs.StagesLaws.{Row, noded-within, row-claims, row-first, row-lines, row-next, row-stops, steps-on, steps-stop, stops-so}
use Rattle.boot_stages.proofs.later.run_stages.Goals as goal
use Rattle.boot_stages.proofs.later.run_stages.Goals.{In_ok-crash, In_ok-make_memory, In_ok-nodes, In_ok-roots, In_ok-run_script_lines, In_ok-run_script_lines-2}

-- what is known after the first `n` stages
abbrev Behind : ExtraView → InputsView → List (RunOf ℕ) → ℕ → BootSoFar → MemblockView → LiveView → List Answer → Type 0
Behind extra inputs map n base m ids answers = Row inputs map (take n (later_stages extra inputs)) base m ids answers

-- this and the next three: what the boot made with the map alone, with the answers of early claims
-- too, with nodes too, and with the crash area too
abbrev with_map : InputsView → List (RunOf ℕ) → BootSoFar
with_map inputs map = begin_with_map map inputs.options

abbrev with_claims : InputsView → List (RunOf ℕ) → List Answer → BootSoFar
with_claims inputs map booted = record (with_map inputs map) { claim_answers = booted }

abbrev with_nodes : InputsView → List (RunOf ℕ) → List Answer → Nodes → BootSoFar
with_nodes inputs map booted nodes = made_with_nodes (nodes_view nodes) (with_claims inputs map booted)

abbrev with_crash : InputsView → List (RunOf ℕ) → List Answer → Nodes → Crash → BootSoFar
with_crash inputs map booted nodes area = made_with_crash_area area (with_nodes inputs map booted nodes)

row1 : (c : In_ok-make_memory) → Behind (extra_view c.args.extra.now) (inputs_view c.args.inputs.now) c.args.map.now 1
    (with_map (inputs_view c.args.inputs.now) c.args.map.now) c.make_memory.new.memblock [] []
row1 c =
    let inputs : InputsView = inputs_view c.args.inputs.now in
    row-next (row-first inputs c.args.map.now c.args.memblock.now c.requires.first c.requires.kernel c.requires.bytes)
    (memory_stage inputs) _ _
    (λ fills. steps-on cause_of_growth (λ done next.
    next) refusal_for (items_with_growths (early_items (early_inputs inputs) c.args.map.now)) _ _ tt
    c.in_ok-make_memory.ensures.ends) c.in_ok-make_memory.ensures.goes_on

row2 : (c : In_ok-run_script_lines) → Behind (extra_view c.args.extra.now) (inputs_view c.args.inputs.now) c.args.map.now 1
    (with_map (inputs_view c.args.inputs.now) c.args.map.now) c.make_memory.new.memblock [] []
    → Behind (extra_view c.args.extra.now) (inputs_view c.args.inputs.now) c.args.map.now 2
    (with_claims (inputs_view c.args.inputs.now) c.args.map.now c.run_script_lines.new.answers.items) c.run_script_lines.new.mb
    c.run_script_lines.new.live []
row2 c row =
    row-claims row (extra_view c.args.extra.now).claims _ _ _ c.in_ok-run_script_lines.ensures.kernel
    ((rw (c.new-live.ensures, c.new-claim_answers.ensures.items, c.deref.ensures.value) at c.in_ok-run_script_lines.ensures.ok) row.fills
    row.holds)

row3 : (c : In_ok-nodes) → Behind (extra_view c.args.extra.now) (inputs_view c.args.inputs.now) c.args.map.now 2
    (with_claims (inputs_view c.args.inputs.now) c.args.map.now c.run_script_lines.new.answers.items) c.run_script_lines.new.mb
    c.run_script_lines.new.live []
    → Behind (extra_view c.args.extra.now) (inputs_view c.args.inputs.now) c.args.map.now 3
    (with_nodes (inputs_view c.args.inputs.now) c.args.map.now c.run_script_lines.new.answers.items c.in_ok-nodes.nodes)
    c.assign.new.memblock c.run_script_lines.new.live []
row3 c row =
    let inputs : InputsView = inputs_view c.args.inputs.now in
    let booted = c.run_script_lines.new.answers.items in
    row-next row (nodes_stage inputs) _ _
    (λ fills. steps-on cause_of_stage made_with_nodes error_of_stage_cause (assign_nodes inputs.domains inputs.options.numa_off)
    (made_after_lines (with_claims inputs c.args.map.now booted) c.run_script_lines.new.mb c.run_script_lines.new.live fills []) _
    (nodes_view c.in_ok-nodes.nodes) (rw c.as_ref.ensures.value at c.in_ok-nodes.ensures.ends)) c.in_ok-nodes.ensures.goes_on

row4 : (c : In_ok-crash) → Behind (extra_view c.args.extra.now) (inputs_view c.args.inputs.now) c.args.map.now 3
    (with_nodes (inputs_view c.args.inputs.now) c.args.map.now c.run_script_lines.new.answers.items c.in_ok-nodes.nodes)
    c.assign.new.memblock c.run_script_lines.new.live []
    → Behind (extra_view c.args.extra.now) (inputs_view c.args.inputs.now) c.args.map.now 4
    (with_crash (inputs_view c.args.inputs.now) c.args.map.now c.run_script_lines.new.answers.items c.in_ok-nodes.nodes c.in_ok-crash.crash)
    c.reserve_by_rule.new.memblock c.run_script_lines.new.live []
row4 c row =
    let inputs : InputsView = inputs_view c.args.inputs.now in
    let profile = c.args.extra.now.profile in
    let booted = c.run_script_lines.new.answers.items in
    row-next row (crash_area_stage profile inputs) _ _
    (λ fills. steps-on cause_of_growth made_with_crash_area refusal_for (reserve_for_map profile inputs c.args.map.now)
    (made_after_lines (with_nodes inputs c.args.map.now booted c.in_ok-nodes.nodes) c.assign.new.memblock
    c.run_script_lines.new.live fills [])
    _ c.in_ok-crash.crash
    (rw (c.memory_bytes_of_map-added.ensures.sum, c.reach.ensures) at c.in_ok-crash.ensures.ends)) c.in_ok-crash.ensures.goes_on

row5 : (c : In_ok-run_script_lines-2) → Behind (extra_view c.args.extra.now) (inputs_view c.args.inputs.now) c.args.map.now 4
    (with_crash (inputs_view c.args.inputs.now) c.args.map.now c.run_script_lines.new.answers.items c.in_ok-nodes.nodes c.in_ok-crash.crash)
    c.reserve_by_rule.new.memblock c.run_script_lines.new.live []
    → Behind (extra_view c.args.extra.now) (inputs_view c.args.inputs.now) c.args.map.now 5
    (with_crash (inputs_view c.args.inputs.now) c.args.map.now c.run_script_lines.new.answers.items c.in_ok-nodes.nodes c.in_ok-crash.crash)
    c.run_script_lines-2.new.mb c.run_script_lines-2.new.live c.run_script_lines-2.new.answers.items
row5 c row =
    let inputs : InputsView = inputs_view c.args.inputs.now in
    let lines = c.split_at_sections.ensures.before ∙ ap lines_before_sections c.deref-2.ensures.value in
    row-lines row (lines_before_sections inputs.lines) _ _ _ c.in_ok-run_script_lines-2.ensures.kernel
    ((rw (c.new-answers.ensures.items, lines) at c.in_ok-run_script_lines-2.ensures.ok) row.fills row.holds)

row6 : (c : In_ok-roots) → Behind (extra_view c.args.extra.now) (inputs_view c.args.inputs.now) c.args.map.now 5
    (with_crash (inputs_view c.args.inputs.now) c.args.map.now c.run_script_lines.new.answers.items c.in_ok-nodes.nodes c.in_ok-crash.crash)
    c.run_script_lines-2.new.mb c.run_script_lines-2.new.live c.run_script_lines-2.new.answers.items
    → Behind (extra_view c.args.extra.now) (inputs_view c.args.inputs.now) c.args.map.now 6
    (made_with_sections (sections_view c.in_ok-roots.roots c.in_ok-roots.placed)
    (with_crash (inputs_view c.args.inputs.now) c.args.map.now c.run_script_lines.new.answers.items c.in_ok-nodes.nodes
    c.in_ok-crash.crash)) c.place_sections.new.memblock c.run_script_lines-2.new.live c.run_script_lines-2.new.answers.items
row6 c row =
    let inputs : InputsView = inputs_view c.args.inputs.now in
    row-next row (sections_stage inputs) _ _
    (λ fills. steps-on cause_of_stage made_with_sections error_of_stage_cause (place_present_sections inputs.width)
    (made_after_lines
    (with_crash inputs c.args.map.now c.run_script_lines.new.answers.items c.in_ok-nodes.nodes c.in_ok-crash.crash)
    c.run_script_lines-2.new.mb c.run_script_lines-2.new.live fills
    c.run_script_lines-2.new.answers.items) _ (sections_view c.in_ok-roots.roots c.in_ok-roots.placed) c.in_ok-roots.ensures.ends)
    c.in_ok-roots.ensures.goes_on

pub returns-clause-run : goal.returns-clause-run
returns-clause-run c =
    let inputs : InputsView = inputs_view c.args.inputs.now in
    let at = goal.at.returns-clause-run c in
    let row = row6 at.In_ok-roots (row5 at.In_ok-run_script_lines-2 (row4 at.In_ok-crash (row3 at.In_ok-nodes
    (row2 at.In_ok-run_script_lines (row1 at.In_ok-make_memory))))) in
    let lines = c.split_at_sections.ensures.after ∙ ap lines_after_sections c.deref-2.ensures.value in
    let last = row-lines row (lines_after_sections inputs.lines) _ _ _ c.in_ok-run_script_lines-3.ensures.kernel
    ((rw lines at c.in_ok-run_script_lines-3.ensures.ok) row.fills row.holds) in
    record { ids = c.run_script_lines-3.new.live; fills = last.fills; come = last.come; kernel = last.kernel; holds = last.holds }

-- the goals for stops
pub returns-in_err-make_memory-clause-stopped : goal.returns-in_err-make_memory-clause-stopped
returns-in_err-make_memory-clause-stopped c =
    let extra : ExtraView = extra_view c.args.extra.now in
    let inputs : InputsView = inputs_view c.args.inputs.now in
    let map : List (RunOf ℕ) = c.args.map.now in
    stops-so _ _ (StagesStopWith extra inputs map) c.from_residual.ensures.1 (λ stop booted other.
    row-stops (row-first inputs map c.args.memblock.now c.requires.first c.requires.kernel c.requires.bytes) (memory_stage inputs)
    (drop 1 (later_stages extra inputs)) stop (steps-stop cause_of_growth (λ done next. next) refusal_for
    (items_with_growths (early_items (early_inputs inputs) map)) _ _ _ stop c.in_err-make_memory.ensures.ends booted other))

pub returns-in_err-nodes-clause-stopped : goal.returns-in_err-nodes-clause-stopped
returns-in_err-nodes-clause-stopped c =
    let extra : ExtraView = extra_view c.args.extra.now in
    let inputs : InputsView = inputs_view c.args.inputs.now in
    let at = goal.at.returns-in_err-nodes-clause-stopped c in
    stops-so _ _ (StagesStopWith extra inputs c.args.map.now) c.from_residual-in_err-nodes.ensures.1 (λ stop booted other.
    row-stops (row2 at.In_ok-run_script_lines (row1 at.In_ok-make_memory)) (nodes_stage inputs) (drop 3 (later_stages extra inputs)) stop
    (steps-stop cause_of_stage made_with_nodes error_of_stage_cause (assign_nodes inputs.domains inputs.options.numa_off)
    (made_after_lines (with_claims inputs c.args.map.now c.run_script_lines.new.answers.items) c.run_script_lines.new.mb
    c.run_script_lines.new.live _ []) _ _ stop (rw c.as_ref.ensures.value at c.in_err-nodes.ensures.ends) booted other))

pub returns-in_err-crash-clause-stopped : goal.returns-in_err-crash-clause-stopped
returns-in_err-crash-clause-stopped c =
    let extra : ExtraView = extra_view c.args.extra.now in
    let inputs : InputsView = inputs_view c.args.inputs.now in
    let at = goal.at.returns-in_err-crash-clause-stopped c in
    stops-so _ _ (StagesStopWith extra inputs c.args.map.now) c.from_residual-in_err-crash.ensures.1 (λ stop booted other.
    row-stops (row3 at.In_ok-nodes (row2 at.In_ok-run_script_lines (row1 at.In_ok-make_memory)))
    (crash_area_stage extra.profile inputs) (drop 4 (later_stages extra inputs)) stop
    (steps-stop cause_of_growth made_with_crash_area refusal_for (reserve_for_map extra.profile inputs c.args.map.now)
    (made_after_lines (with_nodes inputs c.args.map.now c.run_script_lines.new.answers.items c.in_ok-nodes.nodes) c.assign.new.memblock
    c.run_script_lines.new.live _ []) _ _ stop
    (rw (c.memory_bytes_of_map-added.ensures.sum, c.reach.ensures) at c.in_err-crash.ensures.ends) booted other))

pub returns-in_err-roots-clause-stopped : goal.returns-in_err-roots-clause-stopped
returns-in_err-roots-clause-stopped c =
    let extra : ExtraView = extra_view c.args.extra.now in
    let inputs : InputsView = inputs_view c.args.inputs.now in
    let at = goal.at.returns-in_err-roots-clause-stopped c in
    stops-so _ _ (StagesStopWith extra inputs c.args.map.now) c.from_residual-in_err-roots.ensures.1 (λ stop booted other.
    row-stops (row5 at.In_ok-run_script_lines-2 (row4 at.In_ok-crash (row3 at.In_ok-nodes
    (row2 at.In_ok-run_script_lines (row1 at.In_ok-make_memory)))))
    (sections_stage inputs)
    (drop 6 (later_stages extra inputs)) stop
    (steps-stop cause_of_stage made_with_sections error_of_stage_cause (place_present_sections inputs.width)
    (made_after_lines
    (with_crash inputs c.args.map.now c.run_script_lines.new.answers.items c.in_ok-nodes.nodes c.in_ok-crash.crash)
    c.run_script_lines-2.new.mb c.run_script_lines-2.new.live _
    c.run_script_lines-2.new.answers.items) _ _ stop c.in_err-roots.ensures.ends booted other))

-- the goals for what the calls require
pub assign-requires-clause-limit : goal.assign-requires-clause-limit
assign-requires-clause-limit c =
    let inputs : InputsView = inputs_view c.args.inputs.now in
    let at = goal.at.assign-requires-clause-limit c in
    let row = row2 at.In_ok-run_script_lines (row1 at.In_ok-make_memory) in
    (claimed_known inputs (extra_view c.args.extra.now).claims (with_map inputs c.args.map.now) _ c.requires.judged row.come).some

pub reserve_by_rule-requires : goal.reserve_by_rule-requires
reserve_by_rule-requires c =
    let inputs : InputsView = inputs_view c.args.inputs.now in
    record {
      begun = ends-begun (Ok (nodes_view c.in_ok-nodes.nodes)) error_of_stage_cause c.run_script_lines.new.mb.journal.items _
          (assign_nodes inputs.domains inputs.options.numa_off) c.in_ok-run_script_lines.ensures.begun
          (rw c.as_ref.ensures.value at c.in_ok-nodes.ensures.ends);
      in_reach = c.memory_bytes_of_map-added.ensures.in_reach;
    }

pub place_sections-requires-clause-noded : goal.place_sections-requires-clause-noded
place_sections-requires-clause-noded c =
    let extra : ExtraView = extra_view c.args.extra.now in
    let inputs : InputsView = inputs_view c.args.inputs.now in
    let at = goal.at.place_sections-requires-clause-noded c in
    let row = row5 at.In_ok-run_script_lines-2 (row4 at.In_ok-crash (row3 at.In_ok-nodes
    (row2 at.In_ok-run_script_lines (row1 at.In_ok-make_memory)))) in
    noded-within (reach inputs) (2 ^ 52) _
    (later_memory_has_nodes inputs extra.claims (with_map inputs c.args.map.now) _
    (crash_area_stage extra.profile inputs ∷ script_stage inputs.kernel (lines_before_sections inputs.lines) ∷ [])
    c.requires.judged (crash_labels extra.profile inputs, (lines_labels inputs.kernel (lines_before_sections inputs.lines), tt)) row.come)
    (reach-small inputs)
