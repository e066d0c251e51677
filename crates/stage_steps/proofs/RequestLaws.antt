-- Changes and allocations as steps: how a call that carries one out ends.
use Rattle.std.proofs.Common.{◌≡◌, ◌≢◌, inl, inr, ⊎_elim, ℕ, Option, Some, None, List, Result, Ok, Err, refl, sym, ◌∙◌, ap}
use Rattle.bm_base.specs.ResultSteps.{map_error}
use Rattle.memblock_model.specs.declared.owner.Owner.{Owner}
use Rattle.memblock_model.specs.declared.item.Item.{Item}
use Rattle.growth_model.specs.declared.refusal.Refusal.{Refusal}
use Rattle.growth_model.specs.declared.refusal.Refusal.TheVariants as refusal
use Rattle.memblock_model.specs.declared.query.Request.{Request}
use Rattle.growth_model.specs.Change.{Change}
use Rattle.growth_model.specs.Growth.{claim_range}
use Rattle.growth_model.specs.Request.{place_for}
use Rattle.growth_model.specs.Ends.{StopsBeforeStep, EndsAsChange, Allocates}
use Rattle.growth_model.proofs.EndLaws.{cut-first, EndsAsChange-error}
use Rattle.memblock_grow.specs.declared.stop.What.{What}
use Rattle.memblock_grow.specs.declared.stop.StageStop.{StageStop}
use Rattle.memblock_grow.specs.declared.stop.StageStop.TheVariants as stop
use Rattle.stage_steps.specs.Causes.{StageCause, NoPlace, NoTablePlace, refusal_for, error_of_stage_cause, stop_for_refusal}
use Rattle.stage_steps.specs.Steps.{StepEffect, StageStep, items_after_step, return_value, EndsAsStage}
use Rattle.stage_steps.specs.Requests.{fail_if_refused, make_change, stop_if_refused, change_or_stop, claim_found_place, place_or_stop, if_no_place, or_else}
use Rattle.stage_steps.proofs.DoingLaws.{append_groups-joined, ends-second, ends-first}

-- a change
pub ends-change : (r : Result (Unit {0}) Refusal) (old new : List Item) (change : Change) → EndsAsChange r old new change
    → EndsAsStage (make_change change) refusal_for r old new
ends-change (Ok x) old new change h = (ap fail_if_refused h.0, h.1 ∙ sym (append_groups-joined old (change old).steps))
ends-change (Err refusal.NoGap) old new change h = absurd h
ends-change (Err (refusal.NoGapForTable w room)) old new change h =
    inl (record { which = w; room = room }, ap fail_if_refused h.0, refl, h.1 ∙ sym (append_groups-joined old (change old).steps))
ends-change (Err refusal.Memory) old new change cut = inr (refl, cut)

-- a change that the boot can't do without, for any request
module _ (thing : What) where
  pub ends-carried : (r : Result (Unit {0}) Refusal) (old new : List Item) (change : Change) → EndsAsChange r old new change
      → EndsAsStage (change_or_stop change) error_of_stage_cause (map_error (stop_for_refusal thing) r) old new
  ends-carried (Ok x) old new change h =
      (ap stop_if_refused h.0, h.1 ∙ sym (append_groups-joined old (change old).steps))
  ends-carried (Err refusal.NoGap) old new change h = absurd h
  ends-carried (Err (refusal.NoGapForTable w room)) old new change h =
      inl (NoTablePlace w room, ap stop_if_refused h.0, refl, h.1 ∙ sym (append_groups-joined old (change old).steps))
  ends-carried (Err refusal.Memory) old new change cut = inr (refl, cut)

  -- an allocation
  placed_by : (place : Option ℕ) (r : Result ℕ Refusal) (old new : List Item) (size : ℕ) (who : Owner)
      → Allocates r old new place size who
      → EndsAsStage (claim_found_place thing place size who) error_of_stage_cause (map_error (stop_for_refusal thing) r) old new
  placed_by None r old new size who h = rw h.0 (inl (NoPlace thing, refl, refl, h.1))
  placed_by (Some place) (Ok base) old new size who h =
      let claim : Change = claim_range (record { base = place; size = size }) who in
      ends-second tt (Ok base) error_of_stage_cause old new new (change_or_stop claim) (λ done.
      return_value place) (ends-carried (Ok tt) old new claim h.1)
      (rw h.0 refl, refl)
  placed_by (Some place) (Err e) old new size who h =
      let claim : Change = claim_range (record { base = place; size = size }) who in
      ends-first (stop_for_refusal thing e) error_of_stage_cause old new (change_or_stop claim) (λ done. return_value place)
      (ends-carried (Err e) old new claim (EndsAsChange-error ℕ (Unit {0}) e old new claim h.1))

  pub ends-placed : (r : Result ℕ Refusal) (old new : List Item) (q : Request) (who : Owner)
      → Allocates r old new (place_for q old) q.size who
      → EndsAsStage (place_or_stop thing q who) error_of_stage_cause (map_error (stop_for_refusal thing) r) old new
  unfolding place_or_stop
  ends-placed (Ok base) old new q who h = placed_by (place_for q old) (Ok base) old new q.size who h
  ends-placed (Err e) old new q who h = placed_by (place_for q old) (Err e) old new q.size who h

-- how a step ends that is tried if another one found no place
module _ {A : Type 0} (first other : StageStep StageCause A) (old : List Item) where
  -- a step that writes what the first step wrote, and returns
  abbrev sent : StageStep StageCause (Unit {0})
  sent items = record { steps = (first items).steps; answer = Ok tt }

  pub else-first : (a : A) (new : List Item) → EndsAsStage first error_of_stage_cause (Ok a) old new
      → EndsAsStage (or_else first other) error_of_stage_cause (Ok a) old new
  else-first a new h = rw h.0 (refl, h.1)

  cut_by : (new : List Item) (answer : Result A StageCause) (steps : List (List Item)) (then : StepEffect StageCause A)
      → StopsBeforeStep old new steps → StopsBeforeStep old new (if_no_place steps answer then).steps
  cut_by new (Ok a) steps then cut = cut
  cut_by new (Err (NoPlace thing)) steps then cut = cut-first old new steps then.steps cut
  cut_by new (Err (NoTablePlace w room)) steps then cut = cut

  -- the first step failed, or the program was out of memory in it
  stopped_by : (e : StageStop) (new : List Item) → ((thing : What) → e ≢ stop.NoPlace thing) → (why : StageCause)
      → (first old).answer ≡ Err why → e ≡ error_of_stage_cause (Some why) → new ≡ items_after_step old (first old)
      → EndsAsStage {A = A} (or_else first other) error_of_stage_cause (Err e) old new
  stopped_by e new place_or_stop (NoPlace thing) is same stands = absurd (place_or_stop thing same)
  stopped_by e new place_or_stop (NoTablePlace w room) is same stands = rw is (inl (NoTablePlace w room, refl, same, stands))

  pub else-stops : (e : StageStop) (new : List Item) → ((thing : What) → e ≢ stop.NoPlace thing)
      → EndsAsStage {A = A} first error_of_stage_cause (Err e) old new
      → EndsAsStage {A = A} (or_else first other) error_of_stage_cause (Err e) old new
  else-stops e new place_or_stop h = ⊎_elim
      (λ told. stopped_by e new place_or_stop told.0 told.1 told.2 told.3)
      (λ cut. inr (cut.0, cut_by new (first old).answer (first old).steps (other (items_after_step old (first old))) cut.1)) h

  -- the first step found no place, so both end as the other one
  second_by : (r : Result A StageStop) (thing : What) (mid new : List Item) → EndsAsStage other error_of_stage_cause r mid new
      → (why : StageCause)
      → (first old).answer ≡ Err why → stop.NoPlace thing ≡ error_of_stage_cause (Some why) → mid ≡ items_after_step old (first old)
      → EndsAsStage (or_else first other) error_of_stage_cause r old new
  second_by r thing mid new rest (NoTablePlace w room) is same stands = absurd (cc same)
  second_by (Ok a) thing mid new rest (NoPlace t) is same stands =
      rw is (ends-second tt (Ok a) error_of_stage_cause old mid new sent (λ done. other) (refl, stands) rest)
  second_by (Err e) thing mid new rest (NoPlace t) is same stands =
      rw is (ends-second tt (Err e) error_of_stage_cause old mid new sent (λ done. other) (refl, stands) rest)

  pub else-second : (r : Result A StageStop) (thing : What) (mid new : List Item)
      → EndsAsStage {A = A} first error_of_stage_cause (Err (stop.NoPlace thing)) old mid → EndsAsStage other error_of_stage_cause r mid new
      → EndsAsStage (or_else first other) error_of_stage_cause r old new
  else-second r thing mid new h rest = ⊎_elim
      (λ told. second_by r thing mid new rest told.0 told.1 told.2 told.3)
      (λ cut. let clash : stop.NoPlace thing ≡ stop.Memory = cut.0 in cc) h
