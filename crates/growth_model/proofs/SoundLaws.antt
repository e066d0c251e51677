-- However a call of memblock ends, both tables are seated from the first claim on.
use Rattle.std.proofs.Common.{◌≡◌, ℕ, ◌^◌, ◌≤◌, Option, Some, None, List, [], ◌∷◌, ◌++◌, take, Bool, true, false, Result, Ok, Err, refl, sym, ◌∙◌, subst, inl, inr}
use Rattle.std.proofs.lemmas.Bool.{cases_Bool, true≢false}
use Rattle.bm_base.specs.Range.{RangeView, end_of}
use Rattle.memblock_model.specs.declared.owner.Which.TheVariants as which
use Rattle.memblock_model.specs.declared.owner.Owner.{Owner}
use Rattle.memblock_model.specs.declared.item.Item.{Item}
use Rattle.memblock_model.specs.declared.item.Item.TheVariants as item
use Rattle.growth_model.specs.declared.refusal.Refusal.{Refusal}
use Rattle.growth_model.specs.declared.refusal.Refusal.TheVariants as refusal
use Rattle.memblock_model.specs.declared.query.Request.{Request}
use Rattle.growth_model.specs.Change.{ChangeEffect, Change, items_of_steps, no_change, if_due}
use Rattle.growth_model.specs.Growth.{is_full, count_uncovered_pieces, claim_range, free_range, reserved_growth, memory_growth, add_range, set_range_node, set_range_mirror}
use Rattle.growth_model.specs.Request.{place_for}
use Rattle.growth_model.specs.Ends.{EndsAsEffect, EndsAsChange, Allocates}
use Rattle.growth_model.specs.Tables.{may_hold_table, TablesAreClaimed, IsKernelImage, HasFirstItem, OverlapsNoTable, MayClaim}
use Rattle.growth_model.proofs.CutLaws.{EachCut, cuts-ends, cuts-map, cuts-due}
use Rattle.growth_model.proofs.PlacedLaws.{aside-same, Going, trim-placed, limit-placed, upward-placed}
use Rattle.growth_model.proofs.PlacedReservedLaws.{reserved-cuts, claim_range-cuts, free_range-cuts}
use Rattle.growth_model.proofs.PlacedMemoryLaws.{memory-cuts, add_range-cuts, set_range_node-cuts, set_range_mirror-cuts, allocated-cuts}
use Rattle.growth_model.proofs.FirstLaws.{first-full, first-claimed, first-placed}

-- once there is an item, the tables are seated
abbrev pub Stands : RangeView → List Item → Type 0
Stands kernel items = HasFirstItem items → TablesAreClaimed kernel items

-- a change that keeps the tables seated throughout, after the first claim
stands-by : {T : Type 0} (kernel : RangeView) (r : Result T Refusal) (old new : List Item) (o : ChangeEffect)
    → (TablesAreClaimed kernel old → EachCut (TablesAreClaimed kernel) old o.steps) → Stands kernel old → HasFirstItem old
    → EndsAsEffect r old new o → Stands kernel new
stands-by kernel r old new o may_hold_table stands begun ends =
    λ _. cuts-ends (TablesAreClaimed kernel) r old new o (may_hold_table (stands begun)) ends

claim-cuts : (kernel : RangeView) (items : List Item) (r : RangeView) (o : Owner) → IsKernelImage kernel → end_of r ≤ 2 ^ 64
    → Stands kernel items → MayClaim kernel items r o → EachCut (Stands kernel) items (claim_range r o items).steps
claim-cuts kernel [] r o image small stands may =
    let first : TablesAreClaimed kernel (item.Claim r o ∷ []) = rw (may.0, may.1) (first-placed kernel image) in
    subst (λ (c : ChangeEffect). EachCut (Stands kernel) [] c.steps) (sym (first-claimed r o small)) (stands, λ _. first)
claim-cuts kernel (i ∷ is) r o image small stands may =
    cuts-map (TablesAreClaimed kernel) (Stands kernel) (i ∷ is) (claim_range r o (i ∷ is)).steps (λ t placed _. placed)
    (claim_range-cuts kernel (i ∷ is) r o may (stands tt))

-- the calls, one by one
pub claim-stands : {T : Type 0} (kernel : RangeView) (r : Result T Refusal) (old new : List Item) (range : RangeView) (who : Owner)
    → IsKernelImage kernel → end_of range ≤ 2 ^ 64 → Stands kernel old → MayClaim kernel old range who
    → EndsAsChange r old new (claim_range range who)
    → Stands kernel new
claim-stands kernel r old new range who image small stands may ends =
    cuts-ends (Stands kernel) r old new (claim_range range who old) (claim-cuts kernel old range who image small stands may) ends

pub free-stands : {T : Type 0} (kernel : RangeView) (r : Result T Refusal) (old new : List Item) (range : RangeView)
    → Stands kernel old → HasFirstItem old → OverlapsNoTable kernel range old → EndsAsChange r old new (free_range range)
    → Stands kernel new
free-stands kernel r old new range stands begun away ends =
    stands-by kernel r old new (free_range range old) (free_range-cuts kernel old range away) stands begun ends

pub add-stands : {T : Type 0} (kernel : RangeView) (r : Result T Refusal) (old new : List Item) (range : RangeView)
    → Stands kernel old → HasFirstItem old → EndsAsChange r old new (add_range range) → Stands kernel new
add-stands kernel r old new range stands begun ends =
    stands-by kernel r old new (add_range range old) (add_range-cuts kernel old range) stands begun ends

pub node-stands : {T : Type 0} (kernel : RangeView) (r : Result T Refusal) (old new : List Item) (range : RangeView) (node : ℕ)
    → Stands kernel old → HasFirstItem old → EndsAsChange r old new (set_range_node range node) → Stands kernel new
node-stands kernel r old new range node stands begun ends =
    stands-by kernel r old new (set_range_node range node old) (set_range_node-cuts kernel old range node) stands begun ends

pub mirror-stands : {T : Type 0} (kernel : RangeView) (r : Result T Refusal) (old new : List Item) (range : RangeView)
    → Stands kernel old → HasFirstItem old → EndsAsChange r old new (set_range_mirror range) → Stands kernel new
mirror-stands kernel r old new range stands begun ends =
    stands-by kernel r old new (set_range_mirror range old) (set_range_mirror-cuts kernel old range) stands begun ends

-- an allocation, for any owner
pub alloc-placed : (kernel : RangeView) (r : Result ℕ Refusal) (old new : List Item) (q : Request) (who : Owner)
    → TablesAreClaimed kernel old → (found : Option ℕ) → place_for q old ≡ found → Allocates r old new found q.size who
    → TablesAreClaimed kernel new
alloc-placed kernel r old new q who placed None is ends = subst (TablesAreClaimed kernel) (sym ends.1) placed
alloc-placed kernel r old new q who placed (Some place) is ends =
    cuts-ends (TablesAreClaimed kernel) r old new (claim_range (record { base = place; size = q.size }) who old)
    (allocated-cuts kernel old q place who is placed) ends.1

pub alloc-stands : (kernel : RangeView) (r : Result ℕ Refusal) (old new : List Item) (q : Request) (who : Owner)
    → Stands kernel old → HasFirstItem old → (found : Option ℕ) → place_for q old ≡ found → Allocates r old new found q.size who
    → Stands kernel new
alloc-stands kernel r old new q who stands begun found is ends =
    λ _. alloc-placed kernel r old new q who (stands begun) found is ends

-- items that are written without growth
pub trim-stands : (kernel : RangeView) (old new : List Item) → Stands kernel old → HasFirstItem old → new ≡ old ++ item.Trim ∷ []
    → Stands kernel new
trim-stands kernel old new stands begun is = λ _. subst (TablesAreClaimed kernel) (sym is) (trim-placed kernel old (stands begun))

pub limit-stands : (kernel : RangeView) (old new : List Item) (at : ℕ) → Stands kernel old → HasFirstItem old
    → new ≡ old ++ item.Limit at ∷ [] → Stands kernel new
limit-stands kernel old new at stands begun is = λ _. subst (TablesAreClaimed kernel) (sym is) (limit-placed kernel old at (stands begun))

pub upward-stands : (kernel : RangeView) (old new : List Item) (on : Bool) → Stands kernel old → HasFirstItem old
    → new ≡ old ++ item.Upward on ∷ [] → Stands kernel new
upward-stands kernel old new on stands begun is = λ _. subst (TablesAreClaimed kernel) (sym is) (upward-placed kernel old on (stands begun))

-- a list that has begun has begun with more items too
pub more-begun : (items more : List Item) → HasFirstItem items → HasFirstItem (items ++ more)
more-begun [] more begun = absurd begun
more-begun (i ∷ is) more begun = tt

-- a call adds items
pub ends-more : {T : Type 0} (r : Result T Refusal) (old new : List Item) (o : ChangeEffect) → EndsAsEffect r old new o
    → (more : List Item) × (new ≡ old ++ more)
ends-more (Ok x) old new o ends = (items_of_steps o.steps, ends.1)
ends-more (Err refusal.NoGap) old new o ends = absurd ends
ends-more (Err (refusal.NoGapForTable w room)) old new o ends = (items_of_steps o.steps, ends.1)
ends-more (Err refusal.Memory) old new o ends = (items_of_steps (take ends.count o.steps), ends.stands)

pub ends-begun : {T : Type 0} (r : Result T Refusal) (old new : List Item) (change : Change) → HasFirstItem old
    → EndsAsChange r old new change
    → HasFirstItem new
ends-begun r old new change begun ends =
    let more = ends-more r old new (change old) ends in subst HasFirstItem (sym more.1) (more-begun old more.0 begun)

-- what may be claimed after the first claim
pub may-keep : (kernel : RangeView) (items : List Item) (range : RangeView) (who : Owner) → HasFirstItem items
    → may_hold_table (Some who) ≡ true
    → MayClaim kernel items range who
may-keep kernel [] range who begun kept = absurd begun
may-keep kernel (i ∷ is) range who begun kept = inl kept

pub may-away : (kernel : RangeView) (items : List Item) (range : RangeView) (who : Owner) → HasFirstItem items
    → OverlapsNoTable kernel range items
    → MayClaim kernel items range who
may-away kernel [] range who begun away = absurd begun
may-away kernel (i ∷ is) range who begun away = inr away

-- a table is full only after the first claim
pub full-begun : (items : List Item) (range : RangeView) → end_of range ≤ 2 ^ 64
    → is_full which.Reserved (count_uncovered_pieces which.Reserved range) items ≡ true → HasFirstItem items
full-begun [] range small full = absurd (true≢false (sym full ∙ first-full range small))
full-begun (i ∷ is) range small full = tt

-- growths that are due
pub once-cuts : (kernel range : RangeView) (more : List Item → ℕ) (items : List Item) → TablesAreClaimed kernel items
    → EachCut (Going kernel range items) items (if_due (is_full which.Reserved more) (reserved_growth range) items).steps
once-cuts kernel range more items placed =
    let here : Going kernel range items items = record { placed = placed; aside = aside-same kernel range items } in
    cuts-due (Going kernel range items) items (is_full which.Reserved more) (reserved_growth range) here
    (reserved-cuts kernel range items items here)

pub once-going : {T : Type 0} (kernel range : RangeView) (r : Result T Refusal) (old new : List Item) (more : List Item → ℕ)
    → TablesAreClaimed kernel old → EndsAsChange r old new (if_due (is_full which.Reserved more) (reserved_growth range))
    → Going kernel range old new
once-going kernel range r old new more placed ends =
    cuts-ends (Going kernel range old) r old new (if_due (is_full which.Reserved more) (reserved_growth range) old)
    (once-cuts kernel range more old placed) ends

-- a growth that isn't due writes nothing
idle-stands : {T : Type 0} (kernel : RangeView) (r : Result T Refusal) (items new : List Item) (due : List Item → Bool) (change : Change)
    → Stands kernel items → due items ≡ false → EndsAsChange r items new (if_due due change) → Stands kernel new
idle-stands kernel r items new due change stands idle ends =
    let none : if_due due change items ≡ no_change items = rw idle refl in
    cuts-ends (Stands kernel) r items new (no_change items) stands (subst (λ (o : ChangeEffect). EndsAsEffect r items new o) none ends)

pub once-stands : {T : Type 0} (kernel range : RangeView) (r : Result T Refusal) (old new : List Item) (more : List Item → ℕ)
    → (is_full which.Reserved more old ≡ true → HasFirstItem old) → Stands kernel old
    → EndsAsChange r old new (if_due (is_full which.Reserved more) (reserved_growth range)) → Stands kernel new
once-stands kernel range r old new more begins stands ends =
    elim (cases_Bool (is_full which.Reserved more old)) as (λ _. Stands kernel new) [
      | inl full ↦ λ _. (once-going kernel range r old new more (stands (begins full)) ends).placed
      | inr idle ↦ idle-stands kernel r old new (is_full which.Reserved more) (reserved_growth range) stands idle ends
    ]

pub memory_once-stands : {T : Type 0} (kernel : RangeView) (r : Result T Refusal) (old new : List Item) (due : List Item → Bool)
    → Stands kernel old → HasFirstItem old → EndsAsChange r old new (if_due due memory_growth) → Stands kernel new
memory_once-stands kernel r old new due stands begun ends =
    stands-by kernel r old new (if_due due memory_growth old)
    (λ placed. cuts-due (TablesAreClaimed kernel) old due memory_growth placed (memory-cuts kernel old placed)) stands begun ends
