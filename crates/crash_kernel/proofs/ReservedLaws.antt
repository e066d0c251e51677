-- How the parts of the stage end, from how the calls in them end.
use Rattle.std.proofs.Common.{◌≡◌, ◌≢◌, ℕ, Bool, if◌then◌else◌, Option, Some, None, List, [], ◌∷◌, ◌++◌, Result, Ok, Err, refl, sym, ◌∙◌, ap}
use Rattle.bm_base.specs.Range.{RangeView}
use Rattle.memblock_model.specs.declared.owner.Which.TheVariants as which
use Rattle.memblock_model.specs.declared.owner.Owner.{Owner}
use Rattle.memblock_model.specs.declared.owner.Owner.TheVariants as owner
use Rattle.memblock_model.specs.declared.item.Item.{Item}
use Rattle.memblock_model.specs.declared.item.Item.TheVariants as item
use Rattle.memblock_model.specs.Items.{memory_of}
use Rattle.growth_model.specs.declared.refusal.Refusal.{Refusal}
use Rattle.growth_model.specs.Change.{Change, ChangeEffect, RefusedGrowth, followed_by, write_item}
use Rattle.growth_model.specs.Growth.{claim_range, make_table_room, count_uncovered_pieces, reserved_growth}
use Rattle.growth_model.specs.Ends.{EndsAsChange}
use Rattle.stage_steps.specs.Causes.{refusal_for}
use Rattle.stage_steps.specs.Steps.{StageStep, StepEffect, ◌>>=◌, items_after_step, continue_if_ok, return_value, EndsAsStage}
use Rattle.stage_steps.specs.Requests.{make_change, fail_if_refused}
use Rattle.stage_steps.proofs.DoingLaws.{ends-second, ends-first, ends-returns}
use Rattle.stage_steps.proofs.RequestLaws.{ends-change}
use Rattle.boot_options.specs.Crash.{CrashOptionView}
use Rattle.crash_kernel.specs.declared.request.AreaRequest.{AreaRequest}
use Rattle.crash_kernel.specs.declared.crash.Crash.{Crash}
use Rattle.crash_kernel.specs.declared.crash.Crash.TheVariants as crash
use Rattle.crash_kernel.specs.Total.{memory_bytes}
use Rattle.crash_kernel.specs.Request.{request_by}
use Rattle.crash_kernel.specs.declared.rule.CrashRule.{CrashRule}
use Rattle.crash_kernel.specs.Places.{low_range, low_size, main_range, needs_low_part}
use Rattle.crash_kernel.specs.Reservation.{reserve_low_part, reserve_crash_area_by, reserve_request, claim_low_part, claim_area}

-- a change followed by an outcome ends as the change does, with that outcome
pub change-then : (a : Crash) (old new : List Item) (change : Change) → EndsAsChange {T = Unit {0}} (Ok tt) old new change
    → EndsAsStage (make_change change >>= λ done. return_value a) refusal_for (Ok a) old new
change-then a old new change h =
    ends-second tt (Ok a) refusal_for old new new (make_change change) (λ done. return_value a) (ends-change (Ok tt) old new change h)
    (ends-returns a refusal_for new)

pub change-fails : (e : Refusal) (old new : List Item) (change : Change) (next : Unit {0} → StageStep RefusedGrowth Crash)
    → EndsAsChange {T = Unit {0}} (Err e) old new change → EndsAsStage {A = Crash} (make_change change >>= next) refusal_for (Err e) old new
change-fails e old new change next h = ends-first e refusal_for old new (make_change change) next (ends-change (Err e) old new change h)

-- the low part ends as its definition says, if `low` is the range that the search found
pub low-at : (items : List Item) (main : RangeView) (size : ℕ) (low : Option RangeView) → low ≡ low_range size items
    → reserve_low_part main size items ≡ claim_low_part main low items
unfolding reserve_low_part
low-at items main size low found = rw found refl

-- the rest of the stage after the claim of the area
pub main-then : (r : Result Crash Refusal) (old mid new : List Item) (low : ℕ) (area : AreaRequest) (main : RangeView) (b : Bool)
    → b ≡ needs_low_part main low → EndsAsChange {T = Unit {0}} (Ok tt) old mid (claim_range main owner.Crash)
    → EndsAsStage (if b then reserve_low_part main low else return_value (crash.At main None)) refusal_for r mid new
    → EndsAsStage (claim_area area low (Some main)) refusal_for r old new
main-then r old mid new low area main b is claim h =
    ends-second tt r refusal_for old mid new (make_change (claim_range main owner.Crash))
    (λ done. if needs_low_part main low then reserve_low_part main low else return_value (crash.At main None))
    (ends-change (Ok tt) old mid (claim_range main owner.Crash) claim) (rw is at h)

pub main-fails : (e : Refusal) (old new : List Item) (low : ℕ) (area : AreaRequest) (main : RangeView)
    → EndsAsChange {T = Unit {0}} (Err e) old new (claim_range main owner.Crash)
    → EndsAsStage (claim_area area low (Some main)) refusal_for (Err e) old new
main-fails e old new low area main h =
    change-fails e old new (claim_range main owner.Crash)
    (λ done. if needs_low_part main low then reserve_low_part main low else return_value (crash.At main None)) h

-- the rest of the stage after the total, the request and the range are known
module _ (rule : CrashRule) (added : ℕ) (items : List Item) (asked : CrashOptionView) (total : ℕ) where
  pub area-at : (area : Option AreaRequest) → total ≡ memory_bytes (memory_of items) → area ≡ request_by rule total added asked
      → reserve_crash_area_by rule added asked items ≡ reserve_request (low_size asked) area items
  unfolding reserve_crash_area_by
  area-at area counted is = rw (is, counted) refl

  pub main-at : (area : AreaRequest) (main : Option RangeView) → total ≡ memory_bytes (memory_of items)
      → Some area ≡ request_by rule total added asked → main ≡ main_range area.size area.placement items
      → reserve_crash_area_by rule added asked items ≡ claim_area area (low_size asked) main items
  main-at area main counted is found = rw (area-at (Some area) counted is, found) refl

-- a stage without steps ends only with the outcome that it returns
pub idle-ok : (a told : Crash) (old new : List Item) (f : StageStep RefusedGrowth Crash) → EndsAsStage f refusal_for (Ok a) old new
    → f old ≡ return_value told old → ◌≡◌ {A = Result Crash Refusal} (Ok a) (Ok told)
idle-ok a told old new f h is =
    let same : a ≡ told = cc (sym h.0 ∙ ap (λ (t : StepEffect RefusedGrowth Crash). t.answer) is) in rw same refl

-- a list of steps with a step in its middle isn't empty
some-step : (before after : List (List Item)) (one : List Item) → (before ++ one ∷ []) ++ after ≢ []
some-step [] after one = λ is. cc
some-step (s ∷ ss) after one = λ is. cc

-- a change that ends with a written item has a step
writes : (told : Crash) (items : List Item) (first : ChangeEffect) (refused : Option RefusedGrowth) (i : Item)
    (next : Unit {0} → StepEffect RefusedGrowth Crash) → first.refused ≡ refused
    → continue_if_ok (followed_by first refused (write_item i items)).steps
    (fail_if_refused (followed_by first refused (write_item i items)).refused) next
    ≢ return_value told items
writes told items first None i next same = λ is.
    some-step first.steps (next tt).steps (i ∷ []) (ap (λ (t : StepEffect RefusedGrowth Crash). t.steps) is)
writes told items first (Some r) i next same = λ is.
    let none = rw same at (ap (λ (t : StepEffect RefusedGrowth Crash). t.answer) is) in cc none

-- a stage that begins with a claim has a step
pub claim-writes : (told : Crash) (items : List Item) (range : RangeView) (who : Owner) (next : Unit {0} → StageStep RefusedGrowth Crash)
    → (make_change (claim_range range who) >>= next) items ≢ return_value told items
unfolding claim_range
claim-writes told items range who next =
    let first : ChangeEffect = make_table_room which.Reserved (count_uncovered_pieces which.Reserved range) (reserved_growth range) items in
    writes told items first first.refused (item.Claim range who) (λ done.
    next done (items_after_step items (make_change (claim_range range who) items))) refl
