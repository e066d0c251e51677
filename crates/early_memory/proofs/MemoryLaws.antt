-- Memory and the limit after the whole list, whatever growth came between.
use Rattle.std.proofs.Common.{◌≡◌, ℕ, Bool, true, false, Option, Some, None, List, [], ◌∷◌, ◌++◌, Ok, refl, ◌∙◌, ap}
use Rattle.std.proofs.lemmas.List.{append-nil}
use Rattle.std.proofs.lemmas.List.Sums.{fold-append}
use Rattle.std.specs.List.{fold}
use Rattle.bm_base.specs.Range.{RangeView}
use Rattle.address_runs.specs.Runs.{RunOf, value_at, AreRuns}
use Rattle.e820_model.specs.Usable.{types_below}
use Rattle.memblock_model.specs.declared.owner.Owner.TheVariants as owner
use Rattle.memblock_model.specs.declared.item.Item.{Item}
use Rattle.memblock_model.specs.declared.item.Item.TheVariants as item
use Rattle.memblock_model.specs.Labels.{Labels}
use Rattle.memblock_model.specs.Items.{memory_after, memory_of, no_memory, limit_after, limit_of, trim_frames}
use Rattle.growth_model.specs.Requests.{carry_out_items}
use Rattle.growth_model.proofs.MemoryItemLaws.{memory_of-same, limit_of-same}
use Rattle.growth_model.proofs.CarriedLaws.{carried-memory}
use Rattle.early_memory.specs.declared.low.TheConstants.{ISA_END_ADDRESS}
use Rattle.early_memory.specs.EarlyInputs.{EarlyInputs, FrameRange}
use Rattle.early_memory.specs.Memory.{memory_end, mirrored_memory, usable_memory}
use Rattle.early_memory.specs.FirstItems.{items_after_map, direction_items, early_claims, early_items, items_of_map, mirror_items, range_up_to}
use Rattle.early_memory.proofs.MapItemLaws.{added_memory, trimmed_memory}
use Rattle.early_memory.proofs.MirrorLaws.{mirrors-memory}

-- the items before the map don't change memory, and set the limit to the first MiB
begins : (kernel : RangeView) (initrd : Option RangeView) (upward : Bool) (is : List Item)
    → (memory_of (early_claims kernel initrd ++ (item.Limit ISA_END_ADDRESS ∷ (direction_items upward ++ is))) ≡ memory_of is)
    × (limit_of (early_claims kernel initrd ++ (item.Limit ISA_END_ADDRESS ∷ (direction_items upward ++ is)))
    ≡ fold limit_after ISA_END_ADDRESS is)
begins kernel None true is = (refl, refl)
begins kernel None false is = (refl, refl)
begins kernel (Some range) true is = (refl, refl)
begins kernel (Some range) false is = (refl, refl)

mirrors-limit : (mirrors : List FrameRange) (at : ℕ) (is : List Item)
    → fold limit_after at (mirror_items mirrors ++ is) ≡ fold limit_after at is
mirrors-limit [] at is = refl
mirrors-limit (r ∷ rs) at is = mirrors-limit rs at is

-- without growth the map becomes memory, is trimmed, and some of it is mirrored; the later items
-- don't change that
mapped : (e : EarlyInputs) (map : List (RunOf ℕ)) (last : List Item) → AreRuns map → ((f : Labels) → fold memory_after f last ≡ f) → (x : ℕ)
    → memory_of (early_claims e.kernel e.initrd ++ (item.Limit ISA_END_ADDRESS ∷ (direction_items e.upward
    ++ (items_of_map e.limit map ++ (item.Trim ∷ (mirror_items e.mirrors ++ last)))))) x
    ≡ mirrored_memory e.mirrors (usable_memory e.limit (value_at map)) x
mapped e map last runs quiet x =
    let added : Labels = fold memory_after no_memory (items_of_map e.limit map) in
    let closing : List Item = item.Trim ∷ (mirror_items e.mirrors ++ last) in
    let trimmed_is : trim_frames added ≡ usable_memory e.limit (value_at map) = λ i y.
    trimmed_memory (types_below e.limit (value_at map)) added (λ z. added_memory e.limit map z runs) y i in
    ap (λ (h : Labels). h x) ((begins e.kernel e.initrd e.upward (items_of_map e.limit map ++ closing)).0
    ∙ fold-append memory_after no_memory (items_of_map e.limit map) closing
    ∙ fold-append memory_after (trim_frames added) (mirror_items e.mirrors) last ∙ quiet _)
    ∙ mirrors-memory e.mirrors (trim_frames added) x ∙ ap (λ (h : Labels). mirrored_memory e.mirrors h x) trimmed_is

-- the memory after the list as far as the mirrored frames
pub mirrored-first : (e : EarlyInputs) (map : List (RunOf ℕ)) → AreRuns map → (x : ℕ)
    → memory_of (early_claims e.kernel e.initrd ++ (item.Limit ISA_END_ADDRESS ∷ (direction_items e.upward
    ++ (items_of_map e.limit map ++ (item.Trim ∷ mirror_items e.mirrors))))) x
    ≡ mirrored_memory e.mirrors (usable_memory e.limit (value_at map)) x
mirrored-first e map runs x = let all = mapped e map [] runs (λ f. refl) x in rw append-nil at all

-- the memory after the list was carried out from the beginning
pub first_memory : (e : EarlyInputs) (map : List (RunOf ℕ)) (items : List Item) → AreRuns map
    → carry_out_items (early_items e map) [] ≡ Ok items
    → (x : ℕ) → memory_of items x ≡ mirrored_memory e.mirrors (usable_memory e.limit (value_at map)) x
first_memory e map items runs ends x =
    ap (λ (h : Labels). h x) (memory_of-same items (early_items e map) (carried-memory (early_items e map) [] items ends))
    ∙ mapped e map (item.Limit (memory_end e.limit (value_at map)) ∷ item.Claim (range_up_to ISA_END_ADDRESS) owner.Low1M ∷ []) runs (λ f.
    refl) x

pub first_limit : (e : EarlyInputs) (map : List (RunOf ℕ)) (items : List Item) → carry_out_items (early_items e map) [] ≡ Ok items
    → limit_of items ≡ memory_end e.limit (value_at map)
first_limit e map items ends =
    let closing : List Item = items_after_map e.mirrors (memory_end e.limit (value_at map)) in
    limit_of-same items (early_items e map) (carried-memory (early_items e map) [] items ends)
    ∙ (begins e.kernel e.initrd e.upward (items_of_map e.limit map ++ closing)).1
    ∙ fold-append limit_after ISA_END_ADDRESS (items_of_map e.limit map) closing
    ∙ mirrors-limit e.mirrors (fold limit_after ISA_END_ADDRESS (items_of_map e.limit map)) _
