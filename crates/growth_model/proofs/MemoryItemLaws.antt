-- The items that change memory decide memory and the limit, whatever other items there are.
use Rattle.std.proofs.Common.{◌≡◌, ℕ, List, [], ◌∷◌, ◌++◌, take, zero, suc, refl, sym, ap, ◌∙◌}
use Rattle.std.specs.List.{fold}
use Rattle.memblock_model.specs.declared.item.Item.{Item}
use Rattle.memblock_model.specs.declared.item.Item.TheVariants as item
use Rattle.memblock_model.specs.Labels.{Labels}
use Rattle.memblock_model.specs.Items.{memory_after, no_memory, memory_of, limit_after, limit_of}
use Rattle.growth_model.specs.Change.{items_of_steps}
use Rattle.growth_model.specs.Requests.{memory_items, StepsKeepMemory}

pub fold-memory : (f : Labels) (is : List Item) → fold memory_after f is ≡ fold memory_after f (memory_items is)
fold-memory f [] = refl
fold-memory f (item.Trim ∷ is) = fold-memory (memory_after f item.Trim) is
fold-memory f (i ∷ is) = fold-memory (memory_after f i) is

pub fold-limit : (at : ℕ) (is : List Item) → fold limit_after at is ≡ fold limit_after at (memory_items is)
fold-limit at [] = refl
fold-limit at (item.Limit new ∷ is) = fold-limit new is
fold-limit at (i ∷ is) = fold-limit at is

pub memory_of-decided : (is : List Item) → memory_of is ≡ memory_of (memory_items is)
memory_of-decided is = fold-memory no_memory is

pub limit_of-decided : (is : List Item) → limit_of is ≡ limit_of (memory_items is)
limit_of-decided is = fold-limit 0 is

-- lists with the same items that change memory give the same memory
pub memory_of-same : (is js : List Item) → memory_items is ≡ memory_items js → memory_of is ≡ memory_of js
memory_of-same is js same = memory_of-decided is ∙ ap memory_of same ∙ sym (memory_of-decided js)

pub limit_of-same : (is js : List Item) → memory_items is ≡ memory_items js → limit_of is ≡ limit_of js
limit_of-same is js same = limit_of-decided is ∙ ap limit_of same ∙ sym (limit_of-decided js)

pub memory_items-append : (is js : List Item) → memory_items (is ++ js) ≡ memory_items is ++ memory_items js
memory_items-append [] js = refl
memory_items-append (item.Upward on ∷ is) js = memory_items-append is js
memory_items-append (item.Claim range who ∷ is) js = memory_items-append is js
memory_items-append (item.Free range ∷ is) js = memory_items-append is js
memory_items-append (item.Grown w place room ∷ is) js = memory_items-append is js
memory_items-append (i ∷ is) js = ap (λ (t : List Item). i ∷ t) (memory_items-append is js)

-- quiet steps have no item that changes memory, and neither have some of them
pub quiet-joined : (ss : List (List Item)) → StepsKeepMemory ss → memory_items (items_of_steps ss) ≡ []
quiet-joined [] quiet = refl
quiet-joined (s ∷ ss) quiet =
    memory_items-append s (items_of_steps ss) ∙ ap (λ (t : List Item). t ++ memory_items (items_of_steps ss)) quiet.0
    ∙ quiet-joined ss quiet.1

pub quiet-take : (n : ℕ) (ss : List (List Item)) → StepsKeepMemory ss → StepsKeepMemory (take n ss)
quiet-take zero ss quiet = tt
quiet-take (suc n) [] quiet = tt
quiet-take (suc n) (s ∷ ss) quiet = (quiet.0, quiet-take n ss quiet.1)

pub quiet-append : (ss ts : List (List Item)) → StepsKeepMemory ss → StepsKeepMemory ts → StepsKeepMemory (ss ++ ts)
quiet-append [] ts quiet then = then
quiet-append (s ∷ ss) ts quiet then = (quiet.0, quiet-append ss ts quiet.1 then)
