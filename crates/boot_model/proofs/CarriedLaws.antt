-- The stage that carries out a list of items ends after the last item, or before the first item
-- whose growth is refused.
use Rattle.std.proofs.Common.{◌≡◌, List, [], ◌∷◌, ◌++◌, Option, Some, None, Result, Ok, Err, refl, sym, ◌∙◌, ap}
use Rattle.bm_base.specs.ResultSteps.{◌>>=◌}
use Rattle.memblock_model.specs.declared.item.Item.{Item}
use Rattle.growth_model.specs.Change.{ChangeEffect, RefusedGrowth, items_of_steps}
use Rattle.growth_model.specs.Requests.{carry_out_items, change_writing_item, unless_refused}
use Rattle.stage_steps.specs.Steps.{StepEffect, items_after_step, append_groups, continue_if_ok}
use Rattle.stage_steps.specs.Requests.{fail_if_refused}
use Rattle.stage_steps.proofs.DoingLaws.{append_groups-append, append_groups-joined}
use Rattle.early_memory.specs.FirstItems.{early_items}
use Rattle.boot_model.specs.Boot.{InputsView, BootSoFar, early_inputs, memory_stage}
use Rattle.boot_model.specs.First.{items_with_growths}
use Rattle.boot_model.specs.Stop.{cause_of_growth}
use Rattle.boot_model.proofs.StageLaws.{steps_answered}

-- the items after the stage, or its error
abbrev items_by : List Item → StepEffect RefusedGrowth (Unit {0}) → Result (List Item) RefusedGrowth
items_by items d = d.answer >>= λ done. Ok (items_after_step items d)

step_said : (steps : List (List Item)) (refused : Option RefusedGrowth) (is items : List Item)
    → carry_out_items is (append_groups items steps)
    ≡ items_by (append_groups items steps) (items_with_growths is (append_groups items steps))
    → (unless_refused refused (items ++ items_of_steps steps) >>= λ next. carry_out_items is next)
    ≡ items_by items (continue_if_ok steps (fail_if_refused refused) (λ done. items_with_growths is (append_groups items steps)))
step_said steps None is items rest =
    let d : StepEffect RefusedGrowth (Unit {0}) = items_with_growths is (append_groups items steps) in
    ap (carry_out_items is) (sym (append_groups-joined items steps)) ∙ rest
    ∙ ap (λ (t : List Item). d.answer >>= λ done. Ok t) (sym (append_groups-append items steps d.steps))
step_said steps (Some r) is items rest = refl

pub carried_said : (is items : List Item) → carry_out_items is items ≡ items_by items (items_with_growths is items)
unfolding carry_out_items items_with_growths
carried_said [] items = refl
carried_said (i ∷ is) items =
    let o : ChangeEffect = change_writing_item i items in
    step_said o.steps o.refused is items (carried_said is (append_groups items o.steps))

-- if the stage that makes memory doesn't stop, it ends after all of its items
pub memory_carried : (inputs : InputsView) (made next : BootSoFar) → memory_stage inputs made ≡ Ok next
    → carry_out_items (early_items (early_inputs inputs) made.map) made.items ≡ Ok next.items
memory_carried inputs made next ends =
    let told = steps_answered cause_of_growth (λ done last.
    last) (items_with_growths (early_items (early_inputs inputs) made.map)) made next ends in
    carried_said (early_items (early_inputs inputs) made.map) made.items
    ∙ rw told.answer (ap (λ (m : BootSoFar). Ok m.items) (sym told.same))

items_are : (items last : List Item) (d : StepEffect RefusedGrowth (Unit {0})) (answer : Result (Unit {0}) RefusedGrowth)
    → d.answer ≡ answer
    → items_by items d ≡ Ok last → (d.answer ≡ Ok tt) × (items_after_step items d ≡ last)
items_are items last d (Ok done) is ends = let told = rw is at ends in (is, cc told)
items_are items last d (Err refused) is ends = let told = rw is at ends in absurd (cc told)

pub memory_made_by : (inputs : InputsView) (made : BootSoFar) (items : List Item)
    → carry_out_items (early_items (early_inputs inputs) made.map) made.items ≡ Ok items
    → memory_stage inputs made ≡ Ok (record made { items = items })
memory_made_by inputs made items ends =
    let wanted : List Item = early_items (early_inputs inputs) made.map in
    let told = items_are made.items items (items_with_growths wanted made.items) _ refl (sym (carried_said wanted made.items) ∙ ends) in
    rw (told.0, told.1) refl
