-- The stage that makes memory from the map, and what is true of memory after it, before nodes are
-- assigned (`e820__memblock_setup`).
use Rattle.std.specs.Prelude.{ℕ, ◌<◌, List}
use Rattle.address_runs.specs.Edits.{IsEmptyFrom}
use Rattle.memblock_model.specs.declared.item.Item.{Item}
use Rattle.memblock_model.specs.Items.{limit_of, memory_of}
use Rattle.growth_model.specs.Change.{RefusedGrowth}
use Rattle.growth_model.specs.Requests.{change_writing_item}
use Rattle.stage_steps.specs.Steps.{StageStep, fold_steps}
use Rattle.stage_steps.specs.Nodes.{IsConstantInFrames}
use Rattle.stage_steps.specs.Requests.{make_change}

-- writes the items to the journal one after another. If an item needs more room in a table of
-- memblock, the items of that growth come before it.
unfoldable pub items_with_growths : List Item → StageStep RefusedGrowth (Unit {0})
items_with_growths wanted = fold_steps (λ done i. make_change (change_writing_item i)) tt wanted

-- Memory consists of whole frames, each with one label, below the limit of physical addresses. The
-- limit of allocations is above 0, and all memory lies below it.
pub record IsFirstMemory (reach : ℕ) (items : List Item) : Type 0 where
  pub frames : IsConstantInFrames (memory_of items)
  pub within : IsEmptyFrom reach (memory_of items)
  pub low : IsEmptyFrom (limit_of items) (memory_of items)
  pub some : 0 < limit_of items
