-- Changes and allocations as steps of a stage.
use Rattle.std.specs.Prelude.{ℕ, Option, Some, None, List, ◌++◌, Result, Ok, Err}
use Rattle.memblock_model.specs.declared.item.Item.{Item}
use Rattle.memblock_model.specs.declared.owner.Owner.{Owner}
use Rattle.memblock_model.specs.declared.query.Request.{Request}
use Rattle.growth_model.specs.Change.{RefusedGrowth, Change}
use Rattle.growth_model.specs.Growth.{claim_range}
use Rattle.growth_model.specs.Request.{place_for}
use Rattle.memblock_grow.specs.declared.stop.What.{What}
use Rattle.stage_steps.specs.Causes.{StageCause, NoPlace, NoTablePlace}
use Rattle.stage_steps.specs.Steps.{StepEffect, StageStep, ◌>>=◌, items_after_step, return_value, fail_with}

-- a change of memblock as a step. It fails if a table has to grow and no place is found for it; the
-- error names that table and its room.
abbrev pub fail_if_refused : Option RefusedGrowth → Result (Unit {0}) RefusedGrowth
fail_if_refused None = Ok tt
fail_if_refused (Some r) = Err r

abbrev pub make_change : Change → StageStep RefusedGrowth (Unit {0})
make_change change items = record { steps = (change items).steps; answer = fail_if_refused (change items).refused }

-- a change of memblock as a step. The boot stops with `NoTablePlace` if a table has to grow and no
-- place is found for it.
abbrev pub stop_if_refused : Option RefusedGrowth → Result (Unit {0}) StageCause
stop_if_refused None = Ok tt
stop_if_refused (Some r) = Err (NoTablePlace r.which r.room)

abbrev pub change_or_stop : Change → StageStep StageCause (Unit {0})
change_or_stop change items = record { steps = (change items).steps; answer = stop_if_refused (change items).refused }

-- an allocation as a step of the boot: it claims the place that is found and returns its address
-- (`memblock_alloc_range_nid`). The boot stops if no place is found, or if a table has to grow and
-- no place is found for it.
abbrev pub claim_found_place : What → Option ℕ → ℕ → Owner → StageStep StageCause ℕ
claim_found_place thing None size who = fail_with (NoPlace thing)
claim_found_place thing (Some place) size who =
    change_or_stop (claim_range (record { base = place; size = size }) who) >>= λ done. return_value place

unfoldable pub place_or_stop : What → Request → Owner → StageStep StageCause ℕ
place_or_stop thing r who items = claim_found_place thing (place_for r items) r.size who items

-- `or_else first other`: the first step, and the other one after it only if the first failed with
-- `NoPlace`. The result is then that of the other step.
abbrev pub if_no_place : {A : Type 0} → List (List Item) → Result A StageCause → StepEffect StageCause A → StepEffect StageCause A
if_no_place steps (Ok a) other = record { steps = steps; answer = Ok a }
if_no_place steps (Err (NoPlace thing)) other = record { steps = steps ++ other.steps; answer = other.answer }
if_no_place steps (Err (NoTablePlace w room)) other = record { steps = steps; answer = Err (NoTablePlace w room) }

abbrev pub or_else : {A : Type 0} → StageStep StageCause A → StageStep StageCause A → StageStep StageCause A
or_else first other items = if_no_place (first items).steps (first items).answer (other (items_after_step items (first items)))
