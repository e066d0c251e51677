-- Steps that don't change memory. They claim and free ranges, and make tables grow.
use Rattle.std.specs.Prelude.{List}
use Rattle.memblock_model.specs.declared.item.Item.{Item}
use Rattle.growth_model.specs.Requests.{StepsKeepMemory}
use Rattle.stage_steps.specs.Steps.{StageStep}

-- the step writes no item that changes which bytes are memory or their nodes, whatever items came
-- before it
pub record KeepsMemory {E A : Type 0} (f : StageStep E A) : Type 0 where
  pub each : (items : List Item) → StepsKeepMemory (f items).steps
