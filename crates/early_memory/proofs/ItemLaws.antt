-- No item of the list has an empty range.
use Rattle.std.proofs.Common.{◌≡◌, ℕ, suc, ◌<◌, Bool, true, false, ◌==◌, ◌&&◌, nat_lt, if◌then◌else◌, Option, Some, None, List, [], ◌∷◌, ◌++◌, refl, arith}
use Rattle.std.proofs.lemmas.Bool.Decides.{nat_tests}
use Rattle.std.specs.Prelude.{IfSome}
use Rattle.std.specs.List.{All}
use Rattle.bm_base.specs.Range.{RangeView}
use Rattle.address_runs.specs.Runs.{RunOf, AreRuns, range_of_run}
use Rattle.e820_model.specs.Usable.{is_memory}
use Rattle.memblock_model.specs.declared.item.Item.{Item}
use Rattle.memblock_model.specs.declared.item.Item.TheVariants as item
use Rattle.memblock_model.specs.declared.owner.Owner.TheVariants as owner
use Rattle.memblock_model.specs.Items.{ItemsHaveBytes, ItemHasBytes}
use Rattle.early_memory.specs.EarlyInputs.{EarlyInputs, FrameRange}
use Rattle.early_memory.specs.FirstItems.{direction_items, early_items, initrd_claims, items_of_map, items_of_run, mirror_items, part_below}

items-append : (is js : List Item) → ItemsHaveBytes is → ItemsHaveBytes js → ItemsHaveBytes (is ++ js)
items-append [] js first rest = rest
items-append (i ∷ is) js first rest = (first.0, items-append is js first.1 rest)

-- a run gives at most one item
if-items : (soft held : Bool) (i j : Item) → ItemHasBytes i → (held ≡ true → ItemHasBytes j)
    → ItemsHaveBytes (if soft then i ∷ [] else (if held then j ∷ [] else []))
if-items true held i j first second = (first, tt)
if-items false true i j first second = (second refl, tt)
if-items false false i j first second = tt

map-items : (limit : ℕ) (rs : List (RunOf ℕ)) → AreRuns rs → ItemsHaveBytes (items_of_map limit rs)
map-items limit [] runs = tt
map-items limit (r ∷ rs) runs =
    let some = runs.0 in
    items-append (items_of_run limit r) (items_of_map limit rs)
    (if-items (r.value == 0xEFFFFFFF) (is_memory (Some r.value) && nat_lt r.base limit) (item.Claim (range_of_run r) owner.Soft)
    (item.Mem (part_below limit r)) some (λ held. (let low : r.base < limit = grind (arith, nat_tests) in omega (arith, low, some))))
    (map-items limit rs runs.2)

initrd-items : (initrd : Option RangeView) → IfSome initrd (λ range. 0 < range.size) → ItemsHaveBytes (initrd_claims initrd)
initrd-items None some = tt
initrd-items (Some range) some = (some, tt)

-- no item of mirrored frames has an empty range, if no range of these frames is empty
mirrors-items : (mirrors : List FrameRange) → All (λ r. 0 < r.count) mirrors → ItemsHaveBytes (mirror_items mirrors)
mirrors-items [] some = tt
mirrors-items (r ∷ rs) some =
    let here : 0 < r.count = some 0 r (omega arith) in
    (omega arith, mirrors-items rs (λ k d lt. some (suc k) d (omega (arith, lt))))

direction-items : (upward : Bool) → ItemsHaveBytes (direction_items upward)
direction-items true = (tt, tt)
direction-items false = tt

pub first-items : (e : EarlyInputs) (map : List (RunOf ℕ)) → 0 < e.kernel.size → IfSome e.initrd (λ range. 0 < range.size)
    → All (λ r. 0 < r.count) e.mirrors → AreRuns map → ItemsHaveBytes (early_items e map)
first-items e map image some mirrors runs = (
  image,
  (
    omega arith,
    items-append (initrd_claims e.initrd) _ (initrd-items e.initrd some) (
      tt,
      items-append (direction_items e.upward) _ (direction-items e.upward)
          (items-append (items_of_map e.limit map) _ (map-items e.limit map runs)
          (tt, items-append (mirror_items e.mirrors) _ (mirrors-items e.mirrors mirrors) (tt, (omega arith, tt)))),
    ),
  ),
)
