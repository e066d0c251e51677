-- One step for each element of a list: the sequence ends as its remaining steps end.
use Rattle.std.proofs.Common.{◌≡◌, ℕ, ◌+◌, ◌<◌, ◌≤◌, List, ◌∷◌, drop, get_or, length, Result, Ok, Err, refl, sym, ◌∙◌, ap}
use Rattle.std.proofs.lemmas.List.{drop_all, drop_more}
use Rattle.memblock_model.specs.declared.owner.Owner.TheVariants as owner
use Rattle.memblock_model.specs.declared.item.Item.{Item}
use Rattle.memblock_model.specs.declared.query.Request.{Request}
use Rattle.memblock_grow.specs.declared.stop.What.TheVariants as what
use Rattle.memblock_grow.specs.declared.stop.StageStop.{StageStop}
use Rattle.stage_steps.specs.Causes.{StageCause, error_of_stage_cause}
use Rattle.stage_steps.specs.Steps.{StageStep, EndsAsStage, fold_steps, view_of_result, return_value}
use Rattle.stage_steps.specs.Requests.{place_or_stop}
use Rattle.stage_steps.proofs.DoingLaws.{ends-first, ends-second}
use Rattle.numa_nodes.specs.Assignment.{place_node_data, node_data_request}

-- all steps end as those from index i on
pub record Turns {X : Type 0} (step : Unit {0} → X → StageStep StageCause (Unit {0})) (xs : List X) (i : ℕ)
    (old here : List Item) : Type 0 where
  pub ends : (r : Result (Unit {0}) StageStop) (new : List Item)
      → EndsAsStage (fold_steps step tt (drop i xs)) error_of_stage_cause r here new
      → EndsAsStage (fold_steps step tt xs) error_of_stage_cause r old new

module _ {X : Type 0} {step : Unit {0} → X → StageStep StageCause (Unit {0})} {xs : List X} {i : ℕ} {old here : List Item}
    (turns : Turns step xs i old here) where
  drop-next : (x d : X) → i < length xs → x ≡ get_or xs i d → drop i xs ≡ x ∷ drop (i + 1) xs
  drop-next x d below is = drop_more xs i d below ∙ ap (λ (y : X). y ∷ drop (i + 1) xs) (sym is)

  -- one step further, if the next step returned
  pub turn-next : (x d : X) (mid : List Item) → i < length xs → x ≡ get_or xs i d
      → EndsAsStage (step tt x) error_of_stage_cause (Ok tt) here mid → Turns step xs (i + 1) old mid
  turn-next x d mid below is was = record {
    ends = λ r new rest. turns.ends r new (rw (drop-next x d below is) (ends-second tt r error_of_stage_cause here mid new (step tt x)
        (λ next. fold_steps step next (drop (i + 1) xs)) was rest));
  }

  -- the sequence ends with the error of the next step, if that failed
  pub turn-stops : (x d : X) (new : List Item) (e : StageStop) → i < length xs → x ≡ get_or xs i d
      → EndsAsStage {A = Unit {0}} (step tt x) error_of_stage_cause (Err e) here new
      → EndsAsStage {A = Unit {0}} (fold_steps step tt xs) error_of_stage_cause (Err e) old new
  turn-stops x d new e below is was =
      turns.ends (Err e) new (rw (drop-next x d below is) (ends-first e error_of_stage_cause here new (step tt x)
      (λ next. fold_steps step next (drop (i + 1) xs)) was))

  -- the sequence has ended if no step remains
  pub turn-done : length xs ≤ i → EndsAsStage {A = Unit {0}} (fold_steps step tt xs) error_of_stage_cause (Ok tt) old here
  turn-done all = turns.ends (Ok tt) here (rw (drop_all i xs all) (refl, refl))

-- the data of a node, by its allocation
pub data-placed : (r : Result ℕ StageStop) (n : ℕ) (here new : List Item) (q : Request) → q ≡ node_data_request n
    → EndsAsStage (place_or_stop (what.NodeData n) q (owner.NodeData n)) error_of_stage_cause r here new
    → EndsAsStage (place_node_data tt n) error_of_stage_cause (view_of_result (λ base. tt) r) here new
data-placed (Ok base) n here new q is was =
    ends-second base (Ok tt) error_of_stage_cause here new new (place_or_stop (what.NodeData n) (node_data_request n) (owner.NodeData n))
    (λ place. return_value tt) (rw is at was) (refl, refl)
data-placed (Err e) n here new q is was =
    ends-first e error_of_stage_cause here new (place_or_stop (what.NodeData n) (node_data_request n) (owner.NodeData n))
    (λ place. return_value tt)
    (rw is at was)
