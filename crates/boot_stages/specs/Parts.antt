-- The journal items (recorded changes of memblock) of a boot until the first MiB is claimed, in the
-- three parts in which the code writes them.
use Rattle.std.specs.Prelude.{ℕ, List, [], ◌∷◌, ◌++◌}
use Rattle.address_runs.specs.Runs.{RunOf}
use Rattle.memblock_model.specs.declared.owner.Owner.TheVariants as owner
use Rattle.memblock_model.specs.declared.item.Item.{Item}
use Rattle.memblock_model.specs.declared.item.Item.TheVariants as item
use Rattle.early_memory.specs.declared.low.TheConstants.{ISA_END_ADDRESS}
use Rattle.early_memory.specs.EarlyInputs.{EarlyInputs}
use Rattle.early_memory.specs.FirstItems.{direction_items, early_claims, items_of_map, mirror_items, range_up_to}

-- the journal items before memory is added: the claims of the kernel's image, the first 64 KiB and
-- the initrd, the allocation limit of 1 MiB, and the direction of searches if they go upward
abbrev pub items_before_memory : EarlyInputs → List Item
items_before_memory e = early_claims e.kernel e.initrd ++ (item.Limit ISA_END_ADDRESS ∷ direction_items e.upward)

-- the journal items that add the map's memory, trim it to whole frames, and mark the mirrored
-- frames
abbrev pub items_for_memory_of_map : EarlyInputs → List (RunOf ℕ) → List Item
items_for_memory_of_map e map = items_of_map e.limit map ++ (item.Trim ∷ mirror_items e.mirrors)

-- the journal items that set the allocation limit to the address `end`, where memory ends, and
-- claim the first MiB
abbrev pub limit_items : ℕ → List Item
limit_items end = item.Limit end ∷ item.Claim (range_up_to ISA_END_ADDRESS) owner.Low1M ∷ []
