-- How the boot ends, from what the e820 table returns for its map.
use Rattle.std.proofs.Common.{◌≡◌, ◌≢◌, ℕ, Bool, true, false, nat_lt, if◌then◌else◌, List, length, Option, Some, None, Result, Ok, Err, Vec, Global, refl, subst, ap, ◌∙◌}
use Rattle.std.specs.Prelude.{IfOk}
use Rattle.address_runs.specs.Runs.{RunOf, value_at, IsRunsOf}
use Rattle.bm_base.specs.Answers.{Answers}
use Rattle.bm_base.specs.ResultSteps.{◌>>=◌, map_error}
use Rattle.e820_model.specs.declared.entry.TheConstants.{E820_MAX_ENTRIES}
use Rattle.e820_model.specs.Claims.{Claims, final_claims}
use Rattle.e820_model.specs.declared.entry.Entry.{Entry}
use Rattle.e820_model.specs.declared.entry.Edit.{Edit}
use Rattle.e820_model.specs.Map.{TypeAt, kinds, map_of}
use Rattle.e820_model.specs.Usable.{types_below}
use Rattle.e820_sanitise.specs.declared.table.MapFault.TheVariants as faults
use Rattle.e820_sanitise.specs.Room.{map_if_room}
use Rattle.e820_sanitise.specs.declared.stop.MapStop.{MapStop}
use Rattle.e820_sanitise.specs.Stop.{judge_frames}
use Rattle.boot_model.specs.declared.stop.Cause.{Cause}
use Rattle.boot_model.specs.declared.stop.Stop.{Stop}
use Rattle.boot_model.specs.declared.stop.Stop.TheVariants as stops
use Rattle.boot_model.specs.Boot.{ExtraView, InputsView, BootSoFar, added_entries, begin_boot, begin_with_map, boot_with, claims, usable_frames_stage, later_stages, judge_map, reach, BootedView, finish_boot_by, whole_boot_with, types_in_reach, made_or_stop}
use Rattle.boot_model.specs.Stages.{run_each_stage}
use Rattle.boot_model.specs.Stop.{stop_of}
use Rattle.boot_stages.proofs.StagesLaws.{stopped}
use Rattle.boot_stages.specs.Boots.{DecidesMapStages, TableMapResult, accept_table_result, map_or_stop}

-- a result followed by a step that changes nothing is that result
answered : {A E : Type 0} (said : Result A E) → (said >>= λ x. Ok x) ≡ said
answered (Ok x) = refl
answered (Err e) = refl

-- if the table returned a map, the map wasn't full, and is the one that the table has
told_room : (full : Bool) (runs : ℕ) (map items : List (RunOf ℕ)) → (if full then Err (faults.MapFull runs) else Ok map) ≡ Ok items
    → (full ≡ false) × (map ≡ items)
told_room true runs map items is = absurd (cc)
told_room false runs map items is = (refl, cc)

told_full : (full : Bool) (runs : ℕ) (map : List (RunOf ℕ)) (finish_boot : ℕ) → (if full then Err (faults.MapFull runs) else Ok map)
    ≡ Err (faults.MapFull finish_boot)
    → (full ≡ true) × (runs ≡ finish_boot)
told_full true runs map finish_boot is = (refl, cc)
told_full false runs map finish_boot is = absurd (cc)

pub decided : (inputs : InputsView) (answer : TableMapResult)
    → Answers faults.Memory (λ runs. runs.items) answer (map_if_room (map_of (claims inputs)))
    → DecidesMapStages inputs answer
decided inputs (Ok runs) answers =
    let c : List (RunOf ℕ) = map_of (claims inputs) in
    let known = told_room (nat_lt E820_MAX_ENTRIES (length c)) (length c) c runs.items answers in
    rw known.0 (answered (usable_frames_stage inputs (begin_boot inputs)))
    ∙ ap (λ (map : List (RunOf ℕ)). usable_frames_stage inputs (begin_with_map map inputs.options)) known.1
decided inputs (Err (faults.MapFull runs)) answers =
    let c : List (RunOf ℕ) = map_of (claims inputs) in
    let known = told_full (nat_lt E820_MAX_ENTRIES (length c)) (length c) c runs (answers (λ same. cc same)) in
    rw (known.0, known.1) refl
decided inputs (Err faults.Memory) answers = tt

-- the state in which the stages get the map
abbrev pub made_of : InputsView → Vec (RunOf ℕ) Global → BootSoFar
made_of inputs runs = begin_with_map runs.items inputs.options

judged_same : (inputs : InputsView) (reason : Option MapStop) (runs : Vec (RunOf ℕ) Global) (result : Result (Vec (RunOf ℕ) Global) Stop)
    → Answers stops.Memory (λ map. map.items) result (map_or_stop reason runs.items)
    → Answers stops.Memory (made_of inputs) result (map_error stop_of (made_or_stop reason (made_of inputs runs)))
judged_same inputs None runs (Ok map) answers =
    let same : runs.items ≡ map.items = cc in
    ap (λ (items : List (RunOf ℕ)). Ok (begin_with_map items inputs.options)) same
judged_same inputs None runs (Err stop) answers = λ other. absurd (cc (answers other))
judged_same inputs (Some reason) runs (Ok map) answers = absurd (cc)
judged_same inputs (Some reason) runs (Err stop) answers = λ other. cc (answers other)

-- what the table returned, accepted or refused by the boot, is how the stages that accept the map
-- end
pub map_answers : (inputs : InputsView) (answer : TableMapResult) → Answers faults.Memory (λ runs. runs.items) answer
    (map_if_room (map_of (claims inputs)))
    → IfOk answer (λ runs. IsRunsOf (kinds (claims inputs)) runs.items) → (result : Result (Vec (RunOf ℕ) Global) Stop)
    → Answers stops.Memory (λ map. map.items) result (accept_table_result (reach inputs) answer)
    → Answers stops.Memory (made_of inputs) result (map_error stop_of (judge_map inputs))
map_answers inputs (Ok runs) maps are result answers =
    let kinds_are : value_at runs.items ≡ kinds (claims inputs) = λ i x. are.each x i in
    let P : TypeAt → Type 0 = λ f. Answers stops.Memory (λ (map : Vec (RunOf ℕ) Global). map.items) result
    (map_or_stop (judge_frames (types_below (reach inputs) f)) runs.items) in
    rw (decided inputs (Ok runs) maps) (judged_same inputs (judge_frames (types_in_reach inputs)) runs result (subst P kinds_are answers))
map_answers inputs (Err (faults.MapFull runs)) maps are (Ok map) answers = absurd (cc)
map_answers inputs (Err (faults.MapFull runs)) maps are (Err stop) answers =
    λ other. rw (decided inputs (Err (faults.MapFull runs)) maps) (cc (answers other))
map_answers inputs (Err faults.Memory) maps are (Ok map) answers = absurd (cc)
map_answers inputs (Err faults.Memory) maps are (Err stop) answers = λ other. absurd (other (cc (answers other)))

-- replacing the error of a result leaves its value as it is
pub ok_without_error_change : {A E F : Type 0} (f : E → F) (said : Result A E) (a : A) → map_error f said ≡ Ok a → said ≡ Ok a
ok_without_error_change f (Ok b) a is = let same : b ≡ a = cc in ap (λ (x : _). Ok x) same
ok_without_error_change f (Err e) a is = absurd (cc)

-- a stop of the boot is a stop of the boot with its report
pub boot_stop_is_reported : {X : Type 0} (view : X → BootedView) (extra : ExtraView) (inputs : InputsView) (answer : Result X Stop)
    (stop : Stop) → answer ≡ Err stop
    → (stop ≢ stops.Memory → map_error stop_of (boot_with extra inputs) ≡ Err stop)
    → Answers stops.Memory view answer (map_error stop_of (whole_boot_with extra inputs))
boot_stop_is_reported view extra inputs answer stop is stops_so =
    rw is (λ other. stopped (boot_with extra inputs) (λ made. Ok (finish_boot_by extra.profile inputs made)) stop (stops_so other))

pub boot_stops : (extra : ExtraView) (inputs : InputsView) (stop : Stop)
    → Answers stops.Memory (made_of inputs) (Err stop) (map_error stop_of (judge_map inputs))
    → stop ≢ stops.Memory → map_error stop_of (boot_with extra inputs) ≡ Err stop
unfolding boot_with
boot_stops extra inputs stop answers other =
    stopped (judge_map inputs) (λ made. run_each_stage (later_stages extra inputs) made) stop (answers other)

-- if the boot goes on with the map, only the stages after it remain
pub boot_is_later_stages : (extra : ExtraView) (inputs : InputsView) (made : BootSoFar) → map_error stop_of (judge_map inputs) ≡ Ok made
    → boot_with extra inputs ≡ run_each_stage (later_stages extra inputs) made
unfolding boot_with
boot_is_later_stages extra inputs made judged =
    ap (λ (said : Result BootSoFar Cause). said >>= λ m.
    run_each_stage (later_stages extra inputs) m) (ok_without_error_change stop_of (judge_map inputs) made judged)

pub boot_told : (extra : ExtraView) (inputs : InputsView) (made : BootSoFar) → boot_with extra inputs ≡ Ok made
    → whole_boot_with extra inputs ≡ Ok (finish_boot_by extra.profile inputs made)
boot_told extra inputs made comes =
    ap (λ (said : Result BootSoFar Cause). said >>= λ m. Ok (finish_boot_by extra.profile inputs m)) comes

-- the claims of the finished table are those of the boot's map
pub claims-told : (inputs : InputsView) (c : Claims) (entries extension : List Entry) (edits : List Edit) (more : List Entry)
    → c ≡ final_claims entries extension edits more
    → entries ≡ inputs.entries → extension ≡ inputs.extension → edits ≡ inputs.options.edits → more ≡ added_entries inputs
    → claims inputs ≡ c
claims-told inputs c entries extension edits more is first second third fourth = cc
