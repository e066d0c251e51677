-- Steps of a stage. Each writes items (recorded changes of memblock) to the journal and returns a
-- value or an error. The definitions say what several steps in turn do, and how a call that carries
-- them out ends.
use Rattle.std.specs.Prelude.{◌≡◌, ◌⊎◌, Option, Some, None, List, [], ◌∷◌, ◌++◌, Result, Ok, Err}
use Rattle.memblock_model.specs.declared.item.Item.{Item}
use Rattle.growth_model.specs.Ends.{StopsBeforeStep}

-- what a step does: the groups of items that it writes, each as a whole or not at all, and the
-- value that it returns, or its error
pub record StepEffect (E A : Type 0) : Type 0 where
  pub steps : List (List Item)
  pub answer : Result A E

abbrev pub StageStep : Type 0 → Type 0 → Type 0
StageStep E A = List Item → StepEffect E A

-- the items, followed by those of all groups
abbrev pub append_groups : List Item → List (List Item) → List Item
append_groups items [] = items
append_groups items (s ∷ ss) = append_groups (items ++ s) ss

module _ {E A : Type 0} where
  abbrev pub items_after_step : List Item → StepEffect E A → List Item
  items_after_step items d = append_groups items d.steps

  -- `return_value` writes nothing and returns the value; `fail_with` writes nothing and fails with
  -- the error
  abbrev pub return_value : A → StageStep E A
  return_value a items = record { steps = []; answer = Ok a }

  abbrev pub fail_with : E → StageStep E A
  fail_with e items = record { steps = []; answer = Err e }

  -- writes nothing and returns a value that is computed from the items so far
  abbrev pub read_items : (List Item → A) → StageStep E A
  read_items f items = record { steps = []; answer = Ok (f items) }

  -- Returns a value that is computed from the items so far and is stored in memory of this program,
  -- which may run out. The step counts as one group, which has no items: a call that runs out of
  -- memory ends before that group.
  abbrev pub read_items_allocating : (List Item → A) → StageStep E A
  read_items_allocating f items = record { steps = [] ∷ []; answer = Ok (f items) }

-- if the first step returned a value, the next one follows with that value; an error ends the
-- sequence
abbrev pub continue_if_ok : {E A B : Type 0} → List (List Item) → Result A E → (A → StepEffect E B) → StepEffect E B
continue_if_ok steps (Ok a) next = record { steps = steps ++ (next a).steps; answer = (next a).answer }
continue_if_ok steps (Err e) next = record { steps = steps; answer = Err e }

infixl 10 ◌>>=◌
abbrev pub ◌>>=◌ : {E A B : Type 0} → StageStep E A → (A → StageStep E B) → StageStep E B
(f >>= next) items = continue_if_ok (f items).steps (f items).answer (λ a. next a (items_after_step items (f items)))

-- one step for each element of the list, in order. The first step gets the value `s`, and each
-- other one the value that the step before it returned.
abbrev pub fold_steps : {E S X : Type 0} → (S → X → StageStep E S) → S → List X → StageStep E S
fold_steps f s [] = return_value s
fold_steps f s (x ∷ xs) = f s x >>= λ next. fold_steps f next xs

-- How a call that carries out a stage ends. It returns the stage's value, and all groups are
-- written. Or it returns the error for the stage's cause, and all groups up to that error are
-- written. Or this program is out of memory (`error None`) before a group, and the groups before
-- that one are written.
abbrev pub EndsAsStepEffect : {E F A : Type 0} → StepEffect E A → (Option E → F) → Result A F → List Item → List Item → Type 0
EndsAsStepEffect d error (Ok a) old new = (d.answer ≡ Ok a) × (new ≡ items_after_step old d)
EndsAsStepEffect {E} d error (Err e) old new =
    ((why : E) × (d.answer ≡ Err why) × (e ≡ error (Some why)) × (new ≡ items_after_step old d))
    ⊎ ((e ≡ error None) × StopsBeforeStep old new d.steps)

abbrev pub EndsAsStage : {E F A : Type 0} → StageStep E A → (Option E → F) → Result A F → List Item → List Item → Type 0
EndsAsStage stage error result old new = EndsAsStepEffect (stage old) error result old new

-- the result of a call with `view` applied to its value, which is how contracts see the value; an
-- error stays as it is
abbrev pub view_of_result : {E A B : Type 0} → (A → B) → Result A E → Result B E
view_of_result view (Ok a) = Ok (view a)
view_of_result view (Err e) = Err e
