-- Examples: how the boot's first stages end for small results of the e820 table, and the journal
-- items of a small memory.
use Rattle.std.proofs.Common.{◌≡◌, inr, ⊎_elim, ℕ, true, List, [], ◌∷◌, None, Err, refl, arith}
use Rattle.bm_base.specs.Range.{RangeView}
use Rattle.address_runs.specs.Runs.{RunOf}
use Rattle.memblock_model.specs.declared.owner.Owner.TheVariants as owner
use Rattle.memblock_model.specs.declared.item.Item.{Item}
use Rattle.memblock_model.specs.declared.item.Item.TheVariants as item
use Rattle.growth_model.specs.declared.refusal.Refusal.TheVariants as refusal
use Rattle.stage_steps.specs.Causes.{refusal_for}
use Rattle.stage_steps.specs.Steps.{EndsAsStage}
use Rattle.early_memory.specs.EarlyInputs.{EarlyInputs}
use Rattle.boot_model.specs.First.{items_with_growths}
use Rattle.boot_stages.specs.Parts.{items_before_memory, limit_items, items_for_memory_of_map}

abbrev one_run : List (RunOf ℕ)
one_run = record { base = 0x1000; size = 0x1000; value = 1 } ∷ []

-- the range of a kernel's image, for `early`
abbrev image : RangeView
image = record { base = 0x1000000; size = 0x2000000 }

-- a boot with this kernel, no initrd, frames 1 and 2 mirrored, and searches that go upward
abbrev early : EarlyInputs
early = record { limit = 0x2000; kernel = image; initrd = None; mirrors = record { first = 1; count = 2 } ∷ []; upward = true }

-- the journal items of a boot with `early` and one run of RAM, in the three parts in which the code
-- writes them
parts : (items_before_memory early ≡ item.Claim image owner.Kernel ∷ item.Claim (record { base = 0; size = 0x10000 }) owner.Low64K
    ∷ item.Limit 0x100000 ∷ item.Upward true ∷ [])
    × (items_for_memory_of_map early one_run ≡ item.Mem (record { base = 0x1000; size = 0x1000 }) ∷ item.Trim
    ∷ item.Mirror (record { base = 0x1000; size = 0x2000 }) ∷ [])
    × (limit_items 0x4000 ≡ item.Limit 0x4000 ∷ item.Claim (record { base = 0; size = 0x100000 }) owner.Low1M ∷ [])
parts = (refl, refl, refl)

-- a stage may end as out of memory before its first item is written
wanting_first : EndsAsStage {A = Unit {0}} (items_with_growths (item.Trim ∷ [])) refusal_for (Err refusal.Memory) [] []
unfolding items_with_growths
wanting_first = inr (refl, record { count = 0; short = omega arith; stands = refl })

-- a stage without items never ends as out of memory
never_for_nothing : (old new : List Item) → EndsAsStage {A = Unit {0}} (items_with_growths []) refusal_for (Err refusal.Memory) old new → ⊥
unfolding items_with_growths
never_for_nothing old new ends = ⊎_elim (λ booted. cc booted.1) (λ cut. omega (arith, cut.1.short)) ends
