-- Facts about a boot that isn't stopped.
use Rattle.std.proofs.Common.{◌≡◌, ℕ, ◌+◌, ◌*◌, ◌^◌, ◌<◌, ◌≤◌, ◌∙◌, sym, ap, refl, arith, inl, inr, Bool, ◌||◌, true, false, ◌==◌, nat_lt, if◌then◌else◌, Option, Some, None, List, [], ◌∷◌, drop, length, Ok, Err}
use Rattle.std.proofs.lemmas.Bool.{cases_Bool}
use Rattle.std.proofs.lemmas.Bool.Decides.{nat_tests}
use Rattle.std.proofs.Math.Bool.{or-false}
use Rattle.bm_base.specs.Range.{RangeView}
use Rattle.address_runs.specs.Runs.{RunOf, run_end, lies_in, value_at, AreRuns, runs_of}
use Rattle.address_runs.proofs.RunsLaws.{IsRunsBetween, from_runs, none_below, rest_from}
use Rattle.e820_model.specs.Claims.{Claims}
use Rattle.e820_model.specs.Map.{kinds, map_of, same_kind}
use Rattle.e820_model.specs.Usable.{is_memory, is_usable_frame, usable_frames}
use Rattle.e820_model.specs.declared.entry.TheConstants.{E820_MAX_ENTRIES}
use Rattle.bm_base.specs.Each.{each_in}
use Rattle.bm_base.specs.Frames.{bytes_of_frame}
use Rattle.bm_base.proofs.EachLaws.{each_in-same}
use Rattle.e820_model.proofs.ClaimLaws.{same_kind_decides_equality}
use Rattle.early_memory.specs.FirstItems.{early_items}
use Rattle.e820_sanitise.specs.declared.stop.MapStop.{MapStop}
use Rattle.e820_sanitise.specs.declared.stop.MapStop.TheVariants as reasons
use Rattle.e820_sanitise.specs.Stop.{judge_frames}
use Rattle.boot_model.specs.declared.stop.Cause.{Cause}
use Rattle.script_reader.specs.declared.act.Line.{Line}
use Rattle.early_script.specs.Lines.{script_after_lines, lines_before_sections, lines_after_sections}
use Rattle.boot_model.specs.Boot.{ExtraView, InputsView, BootSoFar, begin_boot, crash_area_stage, with_script_state, boot_with, claims, claims_stage, claims_state, early_inputs, with_claims_state, usable_frames_stage, memory_stage, map_size_stage, later_stages, lies_in_memory, judge_map, map_stages, reach, reserve_for_map, made_with_crash_area, made_with_nodes, made_with_sections, script_stage, script_state, types_in_reach, made_or_stop}
use Rattle.numa_nodes.specs.Assignment.{assign_nodes}
use Rattle.boot_model.specs.First.{items_with_growths}
use Rattle.boot_model.specs.Sections.{place_present_sections}
use Rattle.boot_model.specs.Stop.{cause_of_growth, cause_of_stage}
use Rattle.boot_model.proofs.ReachLaws.{reach-small}
use Rattle.boot_model.proofs.StageLaws.{AllKeep, Keeps, chain_keeps, goes_by, passes, steps_keep}
use Rattle.boot_model.specs.Stages.{run_each_stage}

-- what is known of the map if the boot accepts it
pub record AcceptsMap (inputs : InputsView) (made : BootSoFar) : Type 0 where
  pub map : made.map ≡ map_of (claims inputs)
  pub fits : nat_lt E820_MAX_ENTRIES (length (map_of (claims inputs))) ≡ false
  pub judged : judge_frames (types_in_reach inputs) ≡ None

-- the stage that checks the size of the map changes nothing unless it stops the boot
pub room_passed : (full : Bool) (cause : Cause) (before after : BootSoFar) → (if full then Err cause else Ok before) ≡ Ok after
    → (full ≡ false) × (before ≡ after)
room_passed true cause before after ends = absurd (cc)
room_passed false cause before after ends = (refl, cc)

-- the stage that counts usable frames changes nothing unless it stops the boot
pub frames_passed : (reason : Option MapStop) (before after : BootSoFar) → made_or_stop reason before ≡ Ok after
    → (reason ≡ None) × (before ≡ after)
frames_passed None before after ends = (refl, cc)
frames_passed (Some reason) before after ends = absurd (cc)

-- the stages that accept the map change nothing: what was made is still what the boot began with
pub accepted_map_is_unchanged : (inputs : InputsView) (made : BootSoFar) → judge_map inputs ≡ Ok made
    → (made ≡ begin_boot inputs) × (judge_frames (types_in_reach inputs) ≡ None)
    × (nat_lt E820_MAX_ENTRIES (length (map_of (claims inputs))) ≡ false)
accepted_map_is_unchanged inputs made ends =
    let after_room = passes map_size_stage (drop 1 (map_stages inputs)) (begin_boot inputs) made ends in
    let after_frames = passes (usable_frames_stage inputs) (drop 2 (map_stages inputs)) after_room.middle made after_room.rest in
    let room = room_passed _ _ (begin_boot inputs) after_room.middle after_room.first in
    let frames = frames_passed _ after_room.middle after_frames.middle after_frames.first in
    let last : after_frames.middle ≡ made = cc in
    (sym (room.1 ∙ frames.1 ∙ last), frames.0, room.0)

-- the lines of a script leave the map as it is
pub lines_passed : (kernel : RangeView) (lines : List Line) (before after : BootSoFar) → script_stage kernel lines before ≡ Ok after
    → after ≡ with_script_state before (script_after_lines (script_state kernel before) lines)
lines_passed kernel lines before after ends = cc

pub lines_map : (kernel : RangeView) (lines : List Line) → Keeps (λ (made : BootSoFar). made.map) (script_stage kernel lines)
lines_map kernel lines before after ends = ap (λ (m : BootSoFar). m.map) (lines_passed kernel lines before after ends)

-- the lines of early claims leave the map as it is
pub claims_passed : (kernel : RangeView) (lines : List Line) (before after : BootSoFar) → claims_stage kernel lines before ≡ Ok after
    → after ≡ with_claims_state before (script_after_lines (claims_state kernel before) lines)
claims_passed kernel lines before after ends = cc

claims_map : (kernel : RangeView) (lines : List Line) → Keeps (λ (made : BootSoFar). made.map) (claims_stage kernel lines)
claims_map kernel lines before after ends = ap (λ (m : BootSoFar). m.map) (claims_passed kernel lines before after ends)

-- each stage after the map was accepted leaves the map as it is
pub later_keep : (extra : ExtraView) (inputs : InputsView) → AllKeep (λ (made : BootSoFar). made.map) (later_stages extra inputs)
later_keep extra inputs =
    let map : BootSoFar → List (RunOf ℕ) = λ made. made.map in
    let memory : Keeps map (memory_stage inputs) = λ before after ends. steps_keep map cause_of_growth (λ done next. next)
    (items_with_growths (early_items (early_inputs inputs) before.map)) (λ a m. refl) (λ last. refl) before after ends in
    let nodes = steps_keep map cause_of_stage made_with_nodes (assign_nodes inputs.domains inputs.options.numa_off) (λ a m. refl) (λ before.
    refl) in
    let crash : Keeps map (crash_area_stage extra.profile inputs) = λ before after ends. steps_keep map cause_of_growth made_with_crash_area
    (reserve_for_map extra.profile inputs before.map) (λ a m. refl) (λ last. refl) before after ends in
    let early = claims_map inputs.kernel extra.claims in
    let sections = steps_keep map cause_of_stage made_with_sections (place_present_sections inputs.width) (λ a m. refl) (λ before. refl) in
    let before = lines_map inputs.kernel (lines_before_sections inputs.lines) in
    let after = lines_map inputs.kernel (lines_after_sections inputs.lines) in
    (memory, (early, (nodes, (crash, (before, (sections, (after, tt)))))))

pub goes_on : (extra : ExtraView) (inputs : InputsView) (made : BootSoFar) → boot_with extra inputs ≡ Ok made → AcceptsMap inputs made
unfolding boot_with
goes_on extra inputs made ends =
    let judged_map = goes_by (judge_map inputs) (λ m. run_each_stage (later_stages extra inputs) m) made ends in
    let known = accepted_map_is_unchanged inputs judged_map.middle judged_map.first in
    record {
      map =
          chain_keeps (λ (m : BootSoFar). m.map) (later_stages extra inputs)
          (later_keep extra inputs) judged_map.middle made judged_map.rest
          ∙ ap (λ (m : BootSoFar). m.map) known.0;
      fits = known.2;
      judged = known.1;
    }

-- the map has the type that the claims give to each address below 2^64
pub map_between : (c : Claims) → IsRunsBetween (kinds c) 0 (2 ^ 64) (map_of c)
unfolding map_of runs_of
map_between c = from_runs same_kind same_kind_decides_equality (kinds c) (2 ^ 64) 0

-- for sorted runs, the type at an address is memory exactly if the address lies in a run of RAM or
-- of the kernel's own memory
pub memory_lies : (rs : List (RunOf ℕ)) (x : ℕ) → AreRuns rs → is_memory (value_at rs x) ≡ lies_in_memory rs x
memory_lies [] x runs = refl
memory_lies (r ∷ rs) x runs =
    let rest : is_memory (value_at rs x) ≡ lies_in_memory rs x = memory_lies rs x runs.2 in
    elim (cases_Bool (lies_in r x)) [
      | inl inside ↦
          let nothing = none_below (run_end r) x rs runs.2 (rest_from r rs runs) (grind (arith, nat_tests)) in
          rw (inside, ← rest, nothing) (sym (or-false (r.value == 1 || r.value == 128)))
      | inr outside ↦ rw outside rest
    ]

-- the runs of the map determine which frames are usable
pub usable_lies : (extra : ExtraView) (inputs : InputsView) (made : BootSoFar) (frame : ℕ) → boot_with extra inputs ≡ Ok made
    → 4096 * frame + 4096 ≤ reach inputs
    → is_usable_frame (types_in_reach inputs) frame ≡ each_in (bytes_of_frame frame) (lies_in_memory made.map)
unfolding is_usable_frame
usable_lies extra inputs made frame ends low =
    let c : Claims = claims inputs in
    let between = map_between c in
    each_in-same (bytes_of_frame frame) _ _ (λ x from below. (
    let low_x : nat_lt x (reach inputs) ≡ true = grind (arith, nat_tests) in
    let far : reach inputs ≤ 2 ^ 52 = reach-small inputs in
    let value : value_at (map_of c) x ≡ kinds c x = between.within x (omega arith) (omega (arith, far)) in
    let lies : is_memory (kinds c x) ≡ lies_in_memory (map_of c) x = ap is_memory (sym value) ∙ memory_lies (map_of c) x between.runs in
    rw (low_x, (goes_on extra inputs made ends).map) lies))

-- each address below 2^64 has in the map the type that the claims give it
pub map_has_claimed_types : (extra : ExtraView) (inputs : InputsView) (made : BootSoFar) (x : ℕ) → boot_with extra inputs ≡ Ok made
    → x < 2 ^ 64
    → value_at made.map x ≡ kinds (claims inputs) x
map_has_claimed_types extra inputs made x ends low =
    rw (goes_on extra inputs made ends).map ((map_between (claims inputs)).within x (omega arith) (omega arith))

-- a number of frames for which the boot doesn't stop is 1 to 2^32
pub frames_within : (n : ℕ) → (if n == 0 then Some reasons.NoRam else (if nat_lt (2 ^ 32) n then Some (reasons.TooMuchRam n) else
    None)) ≡ None
    → (0 < n) × (n ≤ 2 ^ 32)
frames_within n fine = grind (arith, nat_tests)

-- a map that the boot accepts has 1 to 2^32 usable frames
pub accepted_map_has_usable_frames : (extra : ExtraView) (inputs : InputsView) (made : BootSoFar) → boot_with extra inputs ≡ Ok made
    → (0 < usable_frames (types_in_reach inputs)) × (usable_frames (types_in_reach inputs) ≤ 2 ^ 32)
accepted_map_has_usable_frames extra inputs made ends =
    frames_within (usable_frames (types_in_reach inputs)) (goes_on extra inputs made ends).judged

-- a map that the boot accepts fits in the kernel's table
pub accepted_map_fits : (extra : ExtraView) (inputs : InputsView) (made : BootSoFar) → boot_with extra inputs ≡ Ok made
    → length made.map ≤ E820_MAX_ENTRIES
accepted_map_fits extra inputs made ends = let known = goes_on extra inputs made ends in rw known.map (grind (arith, nat_tests, known.fits))
