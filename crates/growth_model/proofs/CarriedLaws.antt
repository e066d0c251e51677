-- What is to be written appears among the items in its order, and no other item changes memory.
use Rattle.std.proofs.Common.{◌≡◌, List, [], ◌∷◌, ◌++◌, Option, Some, None, Result, Ok, Err, refl, sym, ap, ◌∙◌}
use Rattle.std.proofs.lemmas.List.{append-nil, append_assoc}
use Rattle.bm_base.specs.ResultSteps.{◌>>=◌}
use Rattle.memblock_model.specs.declared.owner.Which.TheVariants as which
use Rattle.memblock_model.specs.declared.item.Item.{Item}
use Rattle.memblock_model.specs.declared.item.Item.TheVariants as item
use Rattle.growth_model.specs.Change.{RefusedGrowth, ChangeEffect, Change, ◌>>◌, followed_by, items_after_change, items_of_steps, write_item}
use Rattle.growth_model.specs.Growth.{add_range, claim_range, free_range, set_range_mirror, set_range_node, count_uncovered_pieces, max_records_added_by_split}
use Rattle.growth_model.specs.Requests.{StepsKeepMemory, carry_out_items, change_writing_item, items_or_refusal, memory_items, unless_refused}
use Rattle.growth_model.proofs.EndLaws.{items_of_steps-append}
use Rattle.growth_model.proofs.MemoryItemLaws.{memory_items-append, quiet-joined}
use Rattle.growth_model.proofs.QuietLaws.{IsQuiet, quiet-grown, reserved_growth-quiet, memory_growth-quiet}

-- a result that wasn't an error, and the result of what followed
pub record GoesOn (answer : Result (List Item) RefusedGrowth) (others : List Item
    → Result (List Item) RefusedGrowth) (last : List Item) : Type 0 where
  pub next : List Item
  pub first : answer ≡ Ok next
  pub rest : others next ≡ Ok last

goes_on : (answer : Result (List Item) RefusedGrowth) (others : List Item → Result (List Item) RefusedGrowth) (last : List Item)
    → (answer >>= others) ≡ Ok last → GoesOn answer others last
goes_on (Ok next) others last ends = record { next = next; first = refl; rest = ends }
goes_on (Err refused) others last ends = absurd (cc)

pub first_carried : (i : Item) (is items last : List Item) → carry_out_items (i ∷ is) items ≡ Ok last
    → GoesOn (items_or_refusal items (change_writing_item i items)) (carry_out_items is) last
unfolding carry_out_items
first_carried i is items last ends = goes_on (items_or_refusal items (change_writing_item i items)) (carry_out_items is) last ends

-- after quiet steps and an item, the items that change memory are those before and this one, if it
-- changes memory
one_after : (items : List Item) (ss : List (List Item)) (i : Item) → StepsKeepMemory ss
    → memory_items (items ++ items_of_steps (ss ++ (i ∷ []) ∷ [])) ≡ memory_items items ++ memory_items (i ∷ [])
one_after items ss i quiet =
    memory_items-append items (items_of_steps (ss ++ (i ∷ []) ∷ []))
    ∙ ap (λ (t : List Item). memory_items items ++ memory_items t) (items_of_steps-append ss ((i ∷ []) ∷ []))
    ∙ ap (λ (t : List Item). memory_items items ++ t) (memory_items-append (items_of_steps ss) (i ∷ []))
    ∙ ap (λ (t : List Item). memory_items items ++ (t ++ memory_items (i ∷ []))) (quiet-joined ss quiet)

written_after : (first : ChangeEffect) (r : Option RefusedGrowth) (items next : List Item) (i : Item) → first.refused ≡ r
    → StepsKeepMemory first.steps
    → items_or_refusal items (followed_by first r (write_item i (items_after_change items first))) ≡ Ok next
    → memory_items next ≡ memory_items items ++ memory_items (i ∷ [])
written_after first None items next i is quiet ends =
    let same : items ++ items_of_steps (first.steps ++ (i ∷ []) ∷ []) ≡ next = cc in
    ap memory_items (sym same) ∙ one_after items first.steps i quiet
written_after first (Some r) items next i is quiet ends =
    let clash : unless_refused (Some r) (items_after_change items first) ≡ Ok next = rw is at ends in absurd (cc)

-- a change that writes its item after quiet growth
grown_after : (growth : Change) (i : Item) (items next : List Item) → IsQuiet growth
    → items_or_refusal items ((growth >> write_item i) items) ≡ Ok next
    → memory_items next ≡ memory_items items ++ memory_items (i ∷ [])
grown_after growth i items next quiet ends =
    written_after (growth items) (growth items).refused items next i refl (quiet.each items) ends

plainly_after : (i : Item) (items next : List Item) → items_or_refusal items (write_item i items) ≡ Ok next
    → memory_items next ≡ memory_items items ++ memory_items (i ∷ [])
plainly_after i items next ends =
    let same : items ++ (i ∷ [] ++ []) ≡ next = cc in
    ap memory_items (sym same) ∙ one_after items [] i tt

-- the items that change memory after one item has been written with its growth
pub change_writing_item-memory : (i : Item) (items next : List Item) → items_or_refusal items (change_writing_item i items) ≡ Ok next
    → memory_items next ≡ memory_items items ++ memory_items (i ∷ [])
unfolding add_range set_range_node set_range_mirror claim_range free_range
change_writing_item-memory (item.Mem range) items next ends =
    grown_after _ (item.Mem range) items next
    (quiet-grown which.Memory (count_uncovered_pieces which.Memory range) _ memory_growth-quiet) ends
change_writing_item-memory (item.Node range node) items next ends =
    grown_after _ (item.Node range node) items next (quiet-grown which.Memory max_records_added_by_split _ memory_growth-quiet) ends
change_writing_item-memory (item.Mirror range) items next ends =
    grown_after _ (item.Mirror range) items next (quiet-grown which.Memory max_records_added_by_split _ memory_growth-quiet) ends
change_writing_item-memory (item.Claim range who) items next ends =
    grown_after _ (item.Claim range who) items next
    (quiet-grown which.Reserved (count_uncovered_pieces which.Reserved range) _ (reserved_growth-quiet range)) ends
change_writing_item-memory (item.Free range) items next ends =
    grown_after _ (item.Free range) items next (quiet-grown which.Reserved max_records_added_by_split _ (reserved_growth-quiet range)) ends
change_writing_item-memory i items next ends = plainly_after i items next ends

-- the items that change memory after a list has been carried out: no item of growth is among them
pub carried-memory : (is items last : List Item) → carry_out_items is items ≡ Ok last
    → memory_items last ≡ memory_items items ++ memory_items is
unfolding carry_out_items
carried-memory [] items last ends =
    let same : items ≡ last = cc in ap memory_items (sym same) ∙ sym (append-nil (memory_items items))
carried-memory (i ∷ is) items last ends =
    let known = first_carried i is items last ends in
    carried-memory is known.next last known.rest
    ∙ ap (λ (t : List Item). t ++ memory_items is) (change_writing_item-memory i items known.next known.first)
    ∙ append_assoc (memory_items items) (memory_items (i ∷ [])) (memory_items is)
    ∙ ap (λ (t : List Item). memory_items items ++ t) (sym (memory_items-append (i ∷ []) is))

-- carrying out a list is carrying out a part of it, and then the rest
further : (answer : Result (List Item) RefusedGrowth) (first rest all : List Item → Result (List Item) RefusedGrowth)
    → ((next : List Item) → all next ≡ (first next >>= rest)) → (answer >>= all) ≡ ((answer >>= first) >>= rest)
further (Ok next) first rest all each = each next
further (Err refused) first rest all each = refl

pub carried-append : (is js items : List Item)
    → carry_out_items (is ++ js) items ≡ (carry_out_items is items >>= λ next. carry_out_items js next)
unfolding carry_out_items
carried-append [] js items = refl
carried-append (i ∷ is) js items =
    further (items_or_refusal items (change_writing_item i items)) (carry_out_items is) (λ next.
    carry_out_items js next) (carry_out_items (is ++ js))
    (carried-append is js)
