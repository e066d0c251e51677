-- The journal items (recorded changes of memblock) that a boot is to write before any node is
-- known, in order. They depend only on the inputs of the boot.
use Rattle.std.specs.Prelude.{ℕ, ◌-◌, ◌==◌, Bool, true, false, ◌&&◌, nat_lt, min, if◌then◌else◌, Option, Some, None, List, [], ◌∷◌, ◌++◌}
use Rattle.bm_base.specs.Range.{RangeView}
use Rattle.address_runs.specs.Runs.{RunOf, run_end, range_of_run, value_at}
use Rattle.e820_model.specs.declared.entry.TheConstants.{E820_TYPE_SOFT_RESERVED}
use Rattle.e820_model.specs.Usable.{is_memory}
use Rattle.memblock_model.specs.declared.owner.Owner.TheVariants as owner
use Rattle.memblock_model.specs.declared.item.Item.{Item}
use Rattle.memblock_model.specs.declared.item.Item.TheVariants as item
use Rattle.early_memory.specs.declared.low.TheConstants.{ISA_END_ADDRESS, LOW_END}
use Rattle.early_memory.specs.EarlyInputs.{EarlyInputs, FrameRange, bytes_of_frames}
use Rattle.early_memory.specs.Memory.{memory_end}

-- the range of all addresses below `at`
abbrev pub range_up_to : ℕ → RangeView
range_up_to at = record { base = 0; size = at }

-- the claim of the initrd, if there is one (`early_reserve_initrd`)
abbrev pub initrd_claims : Option RangeView → List Item
initrd_claims None = []
initrd_claims (Some range) = item.Claim range owner.Initrd ∷ []

-- the claims that are made before memory is known: the kernel's image, the first 64 KiB and the
-- initrd (`early_reserve_memory`)
abbrev pub early_claims : RangeView → Option RangeView → List Item
early_claims kernel initrd = item.Claim kernel owner.Kernel ∷ item.Claim (range_up_to LOW_END) owner.Low64K ∷ initrd_claims initrd

-- the part of the run that lies below the limit
abbrev pub part_below : ℕ → RunOf ℕ → RangeView
part_below limit r = record { base = r.base; size = min (run_end r) limit - r.base }

-- the items for a run of the map (the loop body of `e820__memblock_setup`). Memory that firmware
-- keeps for a driver is claimed. RAM and the kernel's own memory are added, as far as they lie
-- below the limit of physical addresses. A run of any other type gives no item.
abbrev pub items_of_run : ℕ → RunOf ℕ → List Item
items_of_run limit r =
    if r.value == E820_TYPE_SOFT_RESERVED then item.Claim (range_of_run r) owner.Soft ∷ []
    else (if is_memory (Some r.value) && nat_lt r.base limit then item.Mem (part_below limit r) ∷ [] else [])

abbrev pub items_of_map : ℕ → List (RunOf ℕ) → List Item
items_of_map limit [] = []
items_of_map limit (r ∷ rs) = items_of_run limit r ++ items_of_map limit rs

-- `true`: the one item by which searches go from the lowest address up. `false`: no item, since
-- searches go from the highest address down by default (`memblock_set_bottom_up` in `setup_arch`).
abbrev pub direction_items : Bool → List Item
direction_items true = item.Upward true ∷ []
direction_items false = []

-- the items that mark the frames that firmware mirrors, range by range (`efi_find_mirror`)
abbrev pub mirror_items : List FrameRange → List Item
mirror_items [] = []
mirror_items (r ∷ rs) = item.Mirror (bytes_of_frames r) ∷ mirror_items rs

-- The items after the map. Memory is trimmed to whole frames (`memblock_trim_memory`), and some of
-- it is marked as mirrored. The limit is set to the end of the last usable frame
-- (`memblock_set_current_limit`), and the first MiB is claimed (`reserve_real_mode`).
abbrev pub items_after_map : List FrameRange → ℕ → List Item
items_after_map mirrors end =
    item.Trim ∷ (mirror_items mirrors ++ (item.Limit end ∷ item.Claim (range_up_to ISA_END_ADDRESS) owner.Low1M ∷ []))

-- all items of the early stages for these inputs and this map, in order. The limit of allocations
-- is the end of the first MiB until all memory has been added (`setup_arch`).
abbrev pub early_items : EarlyInputs → List (RunOf ℕ) → List Item
early_items e map =
    early_claims e.kernel e.initrd
    ++ (item.Limit ISA_END_ADDRESS ∷ (direction_items e.upward
    ++ (items_of_map e.limit map ++ items_after_map e.mirrors (memory_end e.limit (value_at map)))))
