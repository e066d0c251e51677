-- Sequences of allocations change neither memory, nor its nodes, nor the limit, wherever they end.
use Rattle.std.proofs.Common.{◌≡◌, List, [], ◌∷◌, ℕ, Option, Some, None, Result, Ok, Err, refl, ◌∙◌, ap}
use Rattle.memblock_model.specs.declared.owner.Owner.{Owner}
use Rattle.memblock_model.specs.declared.item.Item.{Item}
use Rattle.memblock_model.specs.Items.{memory_of, limit_of}
use Rattle.memblock_model.specs.declared.query.Request.{Request}
use Rattle.growth_model.specs.Change.{Change}
use Rattle.growth_model.specs.Request.{place_for}
use Rattle.growth_model.specs.Requests.{StepsKeepMemory}
use Rattle.growth_model.proofs.MemoryItemLaws.{quiet-append}
use Rattle.growth_model.proofs.QuietLaws.{IsQuiet, claim_range-quiet, quiet-memory, quiet-limit}
use Rattle.memblock_grow.specs.declared.stop.What.{What}
use Rattle.stage_steps.specs.Causes.{StageCause, NoPlace, NoTablePlace}
use Rattle.stage_steps.specs.Steps.{StepEffect, StageStep, append_groups, items_after_step, return_value, fail_with, read_items, read_items_allocating, continue_if_ok, ◌>>=◌, fold_steps}
use Rattle.stage_steps.specs.Requests.{make_change, change_or_stop, claim_found_place, place_or_stop, if_no_place, or_else}
use Rattle.stage_steps.specs.KeepsMemory.{KeepsMemory}
use Rattle.stage_steps.proofs.DoingLaws.{append_groups-joined}

module _ {E A : Type 0} where
  pub quiet-returns : (a : A) → KeepsMemory (return_value {E = E} a)
  quiet-returns a = record { each = λ items. tt }

  pub quiet-stops : (e : E) → KeepsMemory (fail_with {A = A} e)
  quiet-stops e = record { each = λ items. tt }

  pub quiet-seen : (f : List Item → A) → KeepsMemory (read_items {E = E} f)
  quiet-seen f = record { each = λ items. tt }

  pub quiet-listed : (f : List Item → A) → KeepsMemory (read_items_allocating {E = E} f)
  quiet-listed f = record { each = λ items. (refl, tt) }

module _ {E A B : Type 0} where
  quiet_going : (steps : List (List Item)) (answer : Result A E) (next : A → StepEffect E B) → StepsKeepMemory steps
      → ((a : A) → StepsKeepMemory (next a).steps) → StepsKeepMemory (continue_if_ok steps answer next).steps
  quiet_going steps (Ok a) next quiet then = quiet-append steps (next a).steps quiet (then a)
  quiet_going steps (Err e) next quiet then = quiet

  pub quiet-bind : (f : StageStep E A) (next : A → StageStep E B) → KeepsMemory f → ((a : A) → KeepsMemory (next a))
      → KeepsMemory (f >>= next)
  quiet-bind f next quiet then = record {
    each = λ items. quiet_going (f items).steps (f items).answer (λ a. next a (items_after_step items (f items))) (quiet.each items)
        (λ a. (then a).each (items_after_step items (f items)));
  }

pub quiet-turn : {E S X : Type 0} (f : S → X → StageStep E S) → ((s : S) (x : X) → KeepsMemory (f s x)) → (s : S) (xs : List X)
    → KeepsMemory (fold_steps f s xs)
quiet-turn f quiet s [] = quiet-returns s
quiet-turn f quiet s (x ∷ xs) = quiet-bind (f s x) (λ next. fold_steps f next xs) (quiet s x) (λ next. quiet-turn f quiet next xs)

pub quiet-changes : (change : Change) → IsQuiet change → KeepsMemory (make_change change)
quiet-changes change quiet = record { each = quiet.each }

pub quiet-carried : (change : Change) → IsQuiet change → KeepsMemory (change_or_stop change)
quiet-carried change quiet = record { each = quiet.each }

quiet-placed_at : (thing : What) (place : Option ℕ) (size : ℕ) (who : Owner) → KeepsMemory (claim_found_place thing place size who)
quiet-placed_at thing None size who = quiet-stops (NoPlace thing)
quiet-placed_at thing (Some place) size who =
    quiet-bind _ _ (quiet-carried _ (claim_range-quiet (record { base = place; size = size }) who)) (λ done. quiet-returns place)

pub quiet-placed : (thing : What) (q : Request) (who : Owner) → KeepsMemory (place_or_stop thing q who)
unfolding place_or_stop
quiet-placed thing q who = record { each = λ items. (quiet-placed_at thing (place_for q items) q.size who).each items }

module _ {A : Type 0} where
  quiet_unless : (steps : List (List Item)) (answer : Result A StageCause) (other : StepEffect StageCause A) → StepsKeepMemory steps
      → StepsKeepMemory other.steps → StepsKeepMemory (if_no_place steps answer other).steps
  quiet_unless steps (Ok a) other quiet then = quiet
  quiet_unless steps (Err (NoPlace thing)) other quiet then = quiet-append steps other.steps quiet then
  quiet_unless steps (Err (NoTablePlace w room)) other quiet then = quiet

  pub quiet-else : (first other : StageStep StageCause A) → KeepsMemory first → KeepsMemory other → KeepsMemory (or_else first other)
  quiet-else first other quiet then = record {
    each = λ items. quiet_unless (first items).steps (first items).answer (other (items_after_step items (first items))) (quiet.each items)
        (then.each (items_after_step items (first items)));
  }

-- memory and the limit stay the same

pub quiet-appended_memory : (items : List Item) (steps : List (List Item)) → StepsKeepMemory steps
    → memory_of (append_groups items steps) ≡ memory_of items
quiet-appended_memory items steps quiet = ap memory_of (append_groups-joined items steps)
    ∙ quiet-memory items (record { steps = steps; refused = None }) quiet

pub quiet-appended_limit : (items : List Item) (steps : List (List Item)) → StepsKeepMemory steps
    → limit_of (append_groups items steps) ≡ limit_of items
quiet-appended_limit items steps quiet = ap limit_of (append_groups-joined items steps)
    ∙ quiet-limit items (record { steps = steps; refused = None }) quiet
