-- Definitions that only the proofs and the contracts of private functions use.
use Rattle.std.specs.Prelude.{ℕ, ◌<◌, Bool, Some, List}
use Rattle.std.specs.List.{list_any, All}
use Rattle.address_runs.specs.Runs.{RunOf}
use Rattle.memblock_model.specs.Labels.{LabelView}
use Rattle.memblock_model.specs.Same.{same_node_or_none}
use Rattle.memblock_grow.specs.MemblockView.{MemblockView}
use Rattle.memblock_grow.specs.Continues.{ContinuesMemblock}
use Rattle.srat_nodes.specs.NodeAt.{NumaBlock}

-- some record of the memory table has the node
abbrev pub has_record_of_node : List (RunOf LabelView) → ℕ → Bool
has_record_of_node records node = list_any (λ (r : RunOf LabelView). same_node_or_none r.value.node (Some node)) records

-- no range is empty, and the node of each is below 1,024
abbrev pub CanGetNodes : List NumaBlock → Type 0
CanGetNodes ranges = All (λ (r : NumaBlock). (0 < r.size) × (r.value < 1024)) ranges

-- if `ContinuesMemblock` holds from some earlier state of the memblock to `old`, it also holds from
-- that state to `new`
abbrev pub KeepsContinuesMemblock : MemblockView → MemblockView → Type 0
KeepsContinuesMemblock old new = (start : MemblockView) → ContinuesMemblock start old → ContinuesMemblock start new
