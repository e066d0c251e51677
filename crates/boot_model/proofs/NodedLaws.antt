-- Memory after the map was turned into it, and memory after the nodes were assigned: what later
-- stages may rely on.
use Rattle.std.proofs.Common.{◌≡◌, ℕ, ◌*◌, ◌/◌, ◌<◌, ◌≤◌, ◌^◌, ◌∙◌, false, Option, Some, None, List, [], ◌∷◌, drop, Ok, refl, ap, sym, inl, inr, arith}
use Rattle.std.proofs.lemmas.Bool.{cases_lt, false_from_ne_true}
use Rattle.address_runs.specs.Runs.{RunOf, value_at}
use Rattle.address_runs.specs.Edits.{IsEmptyFrom}
use Rattle.e820_model.specs.Map.{TypeAt, map_of}
use Rattle.e820_model.specs.Usable.{is_usable_frame, types_below, usable_frames}
use Rattle.e820_model.proofs.UsableLaws.{count_none}
use Rattle.memblock_model.specs.declared.item.Item.{Item}
use Rattle.memblock_model.specs.Labels.{LabelView, Labels, plain_label}
use Rattle.memblock_model.specs.Items.{limit_of, memory_of}
use Rattle.growth_model.specs.Requests.{carry_out_items}
use Rattle.early_memory.specs.EarlyInputs.{FrameRange}
use Rattle.early_memory.specs.Memory.{memory_end, mirrored_memory, usable_memory}
use Rattle.early_memory.specs.FirstItems.{early_items}
use Rattle.early_memory.proofs.MemoryLaws.{first_limit, first_memory}
use Rattle.early_memory.proofs.EndLaws.{end_reached, memory_below, memory_end-is, mirrored_below}
use Rattle.early_memory.proofs.MirrorLaws.{mirrored-alike}
use Rattle.stage_steps.specs.Nodes.{IsConstantInFrames, IsMemoryWithNodes}
use Rattle.numa_nodes.specs.Assignment.{assign_nodes}
use Rattle.numa_nodes.proofs.NodedLaws.{answer-noded}
use Rattle.bm_base.specs.Range.{RangeView}
use Rattle.script_reader.specs.declared.act.Line.{Line}
use Rattle.boot_model.specs.Boot.{ExtraView, InputsView, BootSoFar, Stage, boot_with, claims, claims_stage, early_inputs, memory_stage, nodes_stage, later_stages, judge_map, all_mirrors, made_with_nodes, reach}
use Rattle.boot_model.specs.First.{IsFirstMemory}
use Rattle.boot_model.specs.Stages.{run_each_stage}
use Rattle.boot_model.specs.Stop.{cause_of_stage}
use Rattle.boot_model.proofs.BootLaws.{frames_within, accepted_map_is_unchanged, map_between}
use Rattle.boot_model.proofs.CarriedLaws.{memory_carried}
use Rattle.boot_model.proofs.MemoryLaws.{claims_bound, claims_labels, labels_by, labels_keep, types_same}
use Rattle.boot_model.proofs.ReachLaws.{reach-below}
use Rattle.boot_model.proofs.StageLaws.{AllKeep, chain_keeps, goes_by, passes, steps_answered}

-- no memory lies at or above `at` if each byte of memory lies below it
none_from : (at : ℕ) (f : Labels) (x : ℕ) (o : Option LabelView) → f x ≡ o → ((label : LabelView) → f x ≡ Some label → x < at) → at ≤ x
    → f x ≡ None
none_from at f x None is below far = is
none_from at f x (Some label) is below far = absurd (omega (arith, below label is))

past_end : (limit : ℕ) (f : TypeAt) (mirrors : List FrameRange) (at : ℕ) → memory_end limit f ≤ at
    → IsEmptyFrom at (mirrored_memory mirrors (usable_memory limit f))
past_end limit f mirrors at high x far =
    none_from at (mirrored_memory mirrors (usable_memory limit f)) x (mirrored_memory mirrors (usable_memory limit f) x) refl
    (λ label is. (let low : x < memory_end limit f = mirrored_below limit f mirrors x label is in omega arith)) far

-- marking ranges of whole frames as mirrored keeps one label in each frame
mirrored_whole : (mirrors : List FrameRange) (f : Labels) → IsConstantInFrames f → IsConstantInFrames (mirrored_memory mirrors f)
mirrored_whole mirrors f whole x =
    let frame : x / 4096 ≡ (4096 * (x / 4096)) / 4096 = omega arith in
    mirrored-alike mirrors f x (4096 * (x / 4096)) frame (whole x)

-- if memory ends at 0, no frame is usable
no_frame_low : (limit : ℕ) (f : TypeAt) (frame : ℕ) → memory_end limit f ≡ 0 → is_usable_frame (types_below limit f) frame ≡ false
no_frame_low limit f frame zero = false_from_ne_true _ (λ usable.
    let number : (4096 * frame) / 4096 ≡ frame = omega arith in
    omega (arith, memory_below limit f (4096 * frame) plain_label (rw (number, usable) refl)))

end_some : (limit : ℕ) (f : TypeAt) → 0 < usable_frames (types_below limit f) → 0 < memory_end limit f
unfolding usable_frames
end_some limit f some = elim (cases_lt 0 (memory_end limit f)) [
  | inl above ↦ above
  | inr below ↦
      let none : usable_frames (types_below limit f) ≡ 0 =
      count_none _ (2 ^ 52) (λ frame low. no_frame_low limit f frame (omega arith)) in
      absurd (omega arith)
]

-- what is known of memory after it was made from an accepted map
pub first_known : (inputs : InputsView) (made : BootSoFar) (items : List Item) → judge_map inputs ≡ Ok made
    → carry_out_items (early_items (early_inputs inputs) made.map) made.items ≡ Ok items → IsFirstMemory (reach inputs) items
first_known inputs made items ends carried =
    let known = accepted_map_is_unchanged inputs made ends in
    let map : List (RunOf ℕ) = map_of (claims inputs) in
    let from : carry_out_items (early_items (early_inputs inputs) map) [] ≡ Ok items =
    ap (λ (m : BootSoFar). carry_out_items (early_items (early_inputs inputs) m.map) m.items) (sym known.0) ∙ carried in
    let memory : memory_of items ≡ mirrored_memory (all_mirrors inputs) (usable_memory (reach inputs) (value_at map)) = λ i x.
    first_memory (early_inputs inputs) map items (map_between (claims inputs)).runs from x i in
    let limit : limit_of items ≡ memory_end (reach inputs) (value_at map) =
    first_limit (early_inputs inputs) map items from in
    let below : memory_end (reach inputs) (value_at map) ≤ reach inputs =
    (end_reached (reach inputs) (value_at map) _ (memory_end-is (reach inputs) (value_at map))).0 in
    let some : 0 < usable_frames (types_below (reach inputs) (value_at map)) = rw (types_same inputs) (frames_within _ known.1).0 in
    let whole : IsConstantInFrames (usable_memory (reach inputs) (value_at map)) = λ x.
    let same : (4096 * (x / 4096)) / 4096 ≡ x / 4096 = omega arith in rw same refl in
    record {
      frames = rw memory (mirrored_whole (all_mirrors inputs) (usable_memory (reach inputs) (value_at map)) whole);
      within = rw memory (past_end (reach inputs) (value_at map) (all_mirrors inputs) (reach inputs) below);
      low = rw memory (past_end (reach inputs) (value_at map) (all_mirrors inputs) (limit_of items) (omega (arith, limit)));
      some = rw limit (end_some (reach inputs) (value_at map) some);
    }

-- what is known of memory after the nodes were assigned
pub nodes_known : (inputs : InputsView) (before last : BootSoFar) → IsFirstMemory (reach inputs) before.items
    → nodes_stage inputs before ≡ Ok last
    → IsMemoryWithNodes (reach inputs) (labels_by last)
nodes_known inputs before last first ends =
    let told = steps_answered cause_of_stage made_with_nodes (assign_nodes inputs.domains inputs.options.numa_off) before last ends in
    rw told.same (answer-noded (reach inputs) inputs.domains inputs.options.numa_off before.items told.value told.answer
    (reach-below inputs)
    first.frames first.within first.low)

-- early claims leave memory and the limit as they are
pub first_after_claims : (reach : ℕ) (kernel : RangeView) (lines : List Line) (before last : BootSoFar) → IsFirstMemory reach before.items
    → claims_stage kernel lines before ≡ Ok last → IsFirstMemory reach last.items
first_after_claims reach kernel lines before last first ends =
    let labels : memory_of last.items ≡ memory_of before.items = claims_labels kernel lines before last ends in
    let limit : limit_of last.items ≡ limit_of before.items = claims_bound kernel lines before last ends in
    record {
      frames = rw labels first.frames;
      within = rw labels first.within;
      low = rw (labels, limit) first.low;
      some = rw limit first.some;
    }

-- memory after the early claims, if the boot goes on with the map
pub claimed_known : (inputs : InputsView) (lines : List Line) (first made : BootSoFar) → judge_map inputs ≡ Ok first
    → run_each_stage (memory_stage inputs ∷ claims_stage inputs.kernel lines ∷ []) first ≡ Ok made → IsFirstMemory (reach inputs) made.items
claimed_known inputs lines first made judged ends =
    let after = passes (memory_stage inputs) (claims_stage inputs.kernel lines ∷ []) first made ends in
    let early = passes (claims_stage inputs.kernel lines) [] after.middle made after.rest in
    let known = first_known inputs first after.middle.items judged (memory_carried inputs first after.middle after.first) in
    let same : early.middle ≡ made = cc (early.rest) in
    rw (← same) (first_after_claims (reach inputs) inputs.kernel lines after.middle early.middle known early.first)

-- memory has its nodes after any later stages that leave its labels, for example at the end of the
-- boot
pub later_memory_has_nodes : (inputs : InputsView) (lines : List Line) (first made : BootSoFar) (rest : List Stage)
    → judge_map inputs ≡ Ok first
    → AllKeep labels_by rest
    → run_each_stage (memory_stage inputs ∷ claims_stage inputs.kernel lines ∷ nodes_stage inputs ∷ rest) first ≡ Ok made
    → IsMemoryWithNodes (reach inputs) (memory_of made.items)
later_memory_has_nodes inputs lines first made rest judged keep ends =
    let after = passes (memory_stage inputs) (claims_stage inputs.kernel lines ∷ nodes_stage inputs ∷ rest) first made ends in
    let early = passes (claims_stage inputs.kernel lines) (nodes_stage inputs ∷ rest) after.middle made after.rest in
    let nodes = passes (nodes_stage inputs) rest early.middle made early.rest in
    let known = first_known inputs first after.middle.items judged (memory_carried inputs first after.middle after.first) in
    let claimed = first_after_claims (reach inputs) inputs.kernel lines after.middle early.middle known early.first in
    rw (chain_keeps labels_by rest keep nodes.middle made nodes.rest) (nodes_known inputs early.middle nodes.middle claimed nodes.first)

pub noded_told : (extra : ExtraView) (inputs : InputsView) (made : BootSoFar) → boot_with extra inputs ≡ Ok made
    → IsMemoryWithNodes (reach inputs) (memory_of made.items)
unfolding boot_with
noded_told extra inputs made ends =
    let judged = goes_by (judge_map inputs) (λ m. run_each_stage (later_stages extra inputs) m) made ends in
    later_memory_has_nodes inputs extra.claims judged.middle made (drop 3 (later_stages extra inputs)) judged.first
    (labels_keep extra inputs) judged.rest
