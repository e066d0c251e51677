-- A boot stops with `NoRam` only if no frame is usable.
use Rattle.std.proofs.Common.{◌≡◌, ℕ, ◌^◌, ◌==◌, Bool, true, false, nat_lt, if◌then◌else◌, List, [], ◌∷◌, length, Some, None, Result, Ok, Err, refl, arith}
use Rattle.std.proofs.lemmas.Bool.Decides.{nat_tests}
use Rattle.std.specs.Prelude.{IfErr}
use Rattle.bm_base.specs.ResultSteps.{◌>>=◌}
use Rattle.e820_model.specs.Usable.{usable_frames}
use Rattle.e820_model.specs.declared.entry.TheConstants.{E820_MAX_ENTRIES}
use Rattle.e820_sanitise.specs.declared.stop.MapStop.TheVariants as reasons
use Rattle.growth_model.specs.Change.{RefusedGrowth}
use Rattle.early_memory.specs.FirstItems.{early_items}
use Rattle.stage_steps.specs.Causes.{StageCause, NoPlace, NoTablePlace}
use Rattle.stage_steps.specs.Steps.{StageStep, items_after_step}
use Rattle.numa_nodes.specs.Assignment.{assign_nodes}
use Rattle.boot_model.specs.declared.stop.Cause.{Cause}
use Rattle.boot_model.specs.declared.stop.Cause.TheVariants as causes
use Rattle.boot_model.specs.Boot.{ExtraView, InputsView, BootSoFar, Stage, begin_boot, boot_with, reserve_for_map, stage_of_steps, early_inputs, later_stages, judge_map, map_stages, made_with_crash_area, made_with_nodes, made_with_sections, types_in_reach, made_or_stop, finish_stage}
use Rattle.boot_model.specs.First.{items_with_growths}
use Rattle.boot_model.specs.Sections.{place_present_sections}
use Rattle.boot_model.specs.Stages.{run_each_stage}
use Rattle.boot_model.specs.Stop.{cause_of_growth, cause_of_stage}

-- `NoRam` claims that no frame is usable; other causes claim nothing
abbrev IsTold : ℕ → Cause → Type 0
IsTold frames cause = cause ≡ causes.NoRam → frames ≡ 0

-- each error that one of the stages may return satisfies `P`
AllErr : (Cause → Type 0) → List Stage → Type 0
AllErr P [] = Unit {0}
AllErr P (one ∷ stages) = ((made : BootSoFar) → IfErr (one made) P) × AllErr P stages

then_errs : (P : Cause → Type 0) (said : Result BootSoFar Cause) (next : Stage) → IfErr said P → ((made : BootSoFar) → IfErr (next made) P)
    → IfErr (said >>= next) P
then_errs P (Ok made) next first rest = rest made
then_errs P (Err cause) next first rest = first

chain_errs : (P : Cause → Type 0) (stages : List Stage) → AllErr P stages → (made : BootSoFar) → IfErr (run_each_stage stages made) P
unfolding AllErr
chain_errs P [] all made = tt
chain_errs P (one ∷ stages) all made = then_errs P (one made) (run_each_stage stages) (all.0 made) (chain_errs P stages all.1)

-- the check of the map's size never stops with `NoRam`
room_errs : (frames : ℕ) (full : Bool) (runs : ℕ) (made : BootSoFar)
    → IfErr (if full then Err (causes.MapFull runs) else Ok made) (IsTold frames)
room_errs frames true runs made = λ same. absurd (cc same)
room_errs frames false runs made = tt

frames_errs : (frames : ℕ) (none many : Bool) (made : BootSoFar) → (frames == 0) ≡ none
    → IfErr (made_or_stop (if none then Some reasons.NoRam else (if many then Some (reasons.TooMuchRam frames) else None)) made)
    (IsTold frames)
frames_errs frames true many made is = λ same. grind (arith, nat_tests, is)
frames_errs frames false true made is = λ same. absurd (cc same)
frames_errs frames false false made is = tt

-- each cause with which a stage of steps stops is that of an error of its steps
answer_errs : {E A : Type 0} (P : Cause → Type 0) (cause : E → Cause) (put : A → BootSoFar → BootSoFar) (next : BootSoFar)
    (answer : Result A E) → ((e : E) → P (cause e)) → IfErr (finish_stage cause put next answer) P
answer_errs P cause put next (Ok a) errs = tt
answer_errs P cause put next (Err e) errs = errs e

steps_errs : {E A : Type 0} (frames : ℕ) (cause : E → Cause) (put : A → BootSoFar → BootSoFar) (doing : StageStep E A)
    → ((e : E) → IsTold frames (cause e)) → (made : BootSoFar) → IfErr (stage_of_steps cause put doing made) (IsTold frames)
steps_errs frames cause put doing booted made =
    answer_errs (IsTold frames) cause put (record made { items = items_after_step made.items (doing made.items) })
    (doing made.items).answer booted

growth_told : (frames : ℕ) (refused : RefusedGrowth) → IsTold frames (cause_of_growth refused)
growth_told frames refused = λ same. absurd (cc same)

stage_told : (frames : ℕ) (why : StageCause) → IsTold frames (cause_of_stage why)
stage_told frames (NoPlace thing) = λ same. absurd (cc same)
stage_told frames (NoTablePlace w room) = λ same. absurd (cc same)

-- the errors of the stages that accept the map satisfy `IsTold`
map_errs : (inputs : InputsView) → AllErr (IsTold (usable_frames (types_in_reach inputs))) (map_stages inputs)
unfolding AllErr
map_errs inputs =
    let frames : ℕ = usable_frames (types_in_reach inputs) in
    let room = λ (made : BootSoFar). room_errs frames (nat_lt E820_MAX_ENTRIES (length made.map)) (length made.map) made in
    (room, ((λ made. frames_errs frames (frames == 0) (nat_lt (2 ^ 32) frames) made refl), tt))

later_errs : (extra : ExtraView) (inputs : InputsView) → AllErr (IsTold (usable_frames (types_in_reach inputs))) (later_stages extra inputs)
unfolding AllErr
later_errs extra inputs =
    let frames : ℕ = usable_frames (types_in_reach inputs) in
    let memory = λ (made : BootSoFar). steps_errs frames cause_of_growth (λ done next. next)
    (items_with_growths (early_items (early_inputs inputs) made.map)) (growth_told frames) made in
    let nodes = steps_errs frames cause_of_stage made_with_nodes (assign_nodes inputs.domains inputs.options.numa_off)
    (stage_told frames) in
    let crash = λ (made : BootSoFar). steps_errs frames cause_of_growth made_with_crash_area (reserve_for_map extra.profile inputs made.map)
    (growth_told frames) made in
    let sections = steps_errs frames cause_of_stage made_with_sections (place_present_sections inputs.width) (stage_told frames) in
    (memory, ((λ made. tt), (nodes, (crash, ((λ made. tt), (sections, ((λ made. tt), tt)))))))

told_of : (said : Result BootSoFar Cause) (frames : ℕ) → IfErr said (IsTold frames) → said ≡ Err causes.NoRam → frames ≡ 0
told_of (Ok made) frames errs is = absurd (cc is)
told_of (Err cause) frames errs is = errs (cc is)

pub no_ram_told : (extra : ExtraView) (inputs : InputsView) → boot_with extra inputs ≡ Err causes.NoRam
    → usable_frames (types_in_reach inputs) ≡ 0
unfolding boot_with
no_ram_told extra inputs stops =
    let frames : ℕ = usable_frames (types_in_reach inputs) in
    told_of (boot_with extra inputs) frames
    (then_errs (IsTold frames) (judge_map inputs) (λ made. run_each_stage (later_stages extra inputs) made)
    (chain_errs (IsTold frames) (map_stages inputs) (map_errs inputs) (begin_boot inputs))
    (chain_errs (IsTold frames) (later_stages extra inputs) (later_errs extra inputs))) stops
