-- Items that are carried out in parts: how the whole list ends, from how its parts end.
use Rattle.std.proofs.Common.{◌≡◌, ◌<◌, length, Option, Some, None, List, [], ◌∷◌, ◌++◌, Result, Ok, Err, refl, sym, ◌∙◌, ap, subst}
use Rattle.std.proofs.lemmas.List.{append-nil, append_assoc}
use Rattle.std.specs.Prelude.{OnOk}
use Rattle.bm_base.specs.Range.{RangeView}
use Rattle.memblock_model.specs.declared.owner.Which.TheVariants as which
use Rattle.memblock_model.specs.declared.owner.Owner.{Owner}
use Rattle.memblock_model.specs.declared.item.Item.{Item}
use Rattle.memblock_model.specs.declared.item.Item.TheVariants as item
use Rattle.growth_model.specs.declared.refusal.Refusal.{Refusal}
use Rattle.growth_model.specs.declared.refusal.Refusal.TheVariants as refusal
use Rattle.growth_model.specs.Change.{RefusedGrowth, ChangeEffect, Change, items_after_change, followed_by, items_of_steps, write_item}
use Rattle.growth_model.specs.Growth.{claim_range, make_table_room, count_uncovered_pieces, reserved_growth}
use Rattle.growth_model.specs.Tables.{HasFirstItem}
use Rattle.growth_model.specs.Ends.{EndsAsChange, StopsBeforeStep}
use Rattle.growth_model.specs.Requests.{carry_out_items, change_writing_item}
use Rattle.growth_model.proofs.EndLaws.{items_of_steps-append}
use Rattle.stage_steps.specs.Causes.{refusal_for}
use Rattle.stage_steps.specs.Steps.{StageStep, StepEffect, EndsAsStage, append_groups, continue_if_ok, fold_steps, ◌>>=◌}
use Rattle.stage_steps.specs.Requests.{make_change}
use Rattle.stage_steps.proofs.DoingLaws.{append_groups-append, ends-first, ends-returns, ends-second}
use Rattle.stage_steps.proofs.RequestLaws.{ends-change}
use Rattle.boot_model.specs.First.{items_with_growths}
use Rattle.boot_model.proofs.CarriedLaws.{carried_said}

-- carrying out a list in two parts is carrying out the first part, and then the second
module _ {E S X : Type 0} (f : S → X → StageStep E S) where
  second_part : (before steps : List (List Item)) (answer : Result S E) (items : List Item) (ys : List X)
      → continue_if_ok {A = Unit {0}} before (Ok tt) (λ u.
      continue_if_ok steps answer (λ t. fold_steps f t ys (append_groups (append_groups items before) steps)))
      ≡ continue_if_ok (before ++ steps) answer (λ t. fold_steps f t ys (append_groups items (before ++ steps)))
  second_part before steps (Ok t) items ys =
      rw (append_groups-append items before steps, append_assoc before steps) refl
  second_part before steps (Err e) items ys = refl

  first_part : (steps : List (List Item)) (answer : Result S E) (items : List Item) (xs ys : List X)
      → ((s : S) (mid : List Item) → fold_steps f s (xs ++ ys) mid ≡ (fold_steps f s xs >>= λ t. fold_steps f t ys) mid)
      → continue_if_ok steps answer (λ s. fold_steps f s (xs ++ ys) (append_groups items steps))
      ≡ (let d : StepEffect E S = continue_if_ok steps answer (λ s. fold_steps f s xs (append_groups items steps)) in
      continue_if_ok d.steps d.answer (λ t. fold_steps f t ys (append_groups items d.steps)))
  first_part steps (Ok s) items xs ys rest =
      let d : StepEffect E S = fold_steps f s xs (append_groups items steps) in
      ap (λ (p : StepEffect E S). record { steps = steps ++ p.steps; answer = p.answer }) (rest s (append_groups items steps))
      ∙ second_part steps d.steps d.answer items ys
  first_part steps (Err e) items xs ys rest = refl

  turn-append : (s : S) (xs ys : List X) (items : List Item)
      → fold_steps f s (xs ++ ys) items ≡ (fold_steps f s xs >>= λ t. fold_steps f t ys) items
  turn-append s [] ys items = refl
  turn-append s (x ∷ xs) ys items =
      first_part (f s x items).steps (f s x items).answer items xs ys (λ t mid. turn-append t xs ys mid)

-- if the first part was carried out, the whole ends as the second part does
pub carries-second : (r : Result (Unit {0}) Refusal) (is js old mid new : List Item)
    → EndsAsStage {A = Unit {0}} (items_with_growths is) refusal_for (Ok tt) old mid
    → EndsAsStage (items_with_growths js) refusal_for r mid new
    → EndsAsStage (items_with_growths (is ++ js)) refusal_for r old new
unfolding items_with_growths
carries-second r is js old mid new first rest =
    subst (λ (f : StageStep RefusedGrowth (Unit {0})). EndsAsStage f refusal_for r old new)
    (λ i items. sym (turn-append (λ done one. make_change (change_writing_item one)) tt is js items) i)
    (ends-second tt r refusal_for old mid new (items_with_growths is) (λ done. items_with_growths js) first rest)

-- if `?` returns the error of the first part, the whole ends with that error
pub carries-exit : (e : Refusal) (r : Result (Unit {0}) Refusal) (is js old new : List Item) → r ≡ Err e
    → EndsAsStage {A = Unit {0}} (items_with_growths is) refusal_for (Err e) old new
    → EndsAsStage (items_with_growths (is ++ js)) refusal_for r old new
unfolding items_with_growths
carries-exit e r is js old new exits first =
    rw exits (subst (λ (f : StageStep RefusedGrowth (Unit {0})). EndsAsStage {A = Unit {0}} f refusal_for (Err e) old new)
    (λ i items. sym (turn-append (λ done one. make_change (change_writing_item one)) tt is js items) i)
    (ends-first e refusal_for old new (items_with_growths is) (λ done. items_with_growths js) first))

-- an empty list of items ends at once
pub carries-nothing : (items : List Item) → EndsAsStage {A = Unit {0}} (items_with_growths []) refusal_for (Ok tt) items items
unfolding items_with_growths
carries-nothing items = (refl, refl)

-- a list of one item ends as the item's change does
pub carries-change : (r : Result (Unit {0}) Refusal) (i : Item) (old new : List Item) → EndsAsChange r old new (change_writing_item i)
    → EndsAsStage (items_with_growths (i ∷ [])) refusal_for r old new
unfolding items_with_growths
carries-change (Ok done) i old new ends =
    ends-second tt (Ok tt) refusal_for old new new (make_change (change_writing_item i)) (λ u. items_with_growths [])
    (ends-change (Ok tt) old new (change_writing_item i) ends) (ends-returns tt refusal_for new)
carries-change (Err e) i old new ends =
    ends-first e refusal_for old new (make_change (change_writing_item i)) (λ u.
    items_with_growths []) (ends-change (Err e) old new (change_writing_item i) ends)

-- a stage with steps to come, none of which was made, stopped before one of its steps
pub split_once-none : (old new : List Item) (steps : List (List Item)) → new ≡ old → 0 < length steps → StopsBeforeStep old new steps
split_once-none old new steps stays some = record { count = 0; short = some; stands = stays ∙ sym (append-nil old) }

-- the stage ends as out of memory before its first item
pub carries-wanting : (r : Result (Unit {0}) Refusal) (i : Item) (js old new : List Item) → r ≡ Err refusal.Memory
    → 0 < length (change_writing_item i old).steps → new ≡ old → EndsAsStage (items_with_growths (i ∷ js)) refusal_for r old new
carries-wanting r i js old new exits some stays =
    carries-exit refusal.Memory r (i ∷ []) js old new exits
    (carries-change (Err refusal.Memory) i old new (split_once-none old new (change_writing_item i old).steps stays some))

-- if the first item was carried out, the whole ends as the rest does
pub change_writing_item-second : (r : Result (Unit {0}) Refusal) (i : Item) (js old mid new : List Item)
    → EndsAsChange {T = Unit {0}} (Ok tt) old mid (change_writing_item i) → EndsAsStage (items_with_growths js) refusal_for r mid new
    → EndsAsStage (items_with_growths (i ∷ js)) refusal_for r old new
change_writing_item-second r i js old mid new ends rest =
    carries-second r (i ∷ []) js old mid new (carries-change (Ok tt) i old mid ends) rest

pub change_writing_item-exit : (e : Refusal) (r : Result (Unit {0}) Refusal) (i : Item) (js old new : List Item) → r ≡ Err e
    → EndsAsChange {T = Unit {0}} (Err e) old new (change_writing_item i) → EndsAsStage (items_with_growths (i ∷ js)) refusal_for r old new
change_writing_item-exit e r i js old new exits ends = carries-exit e r (i ∷ []) js old new exits (carries-change (Err e) i old new ends)

-- if the stage succeeds, the new items are `carry_out_items` of the old ones
pub carried-by : (is old new : List Item) → EndsAsStage {A = Unit {0}} (items_with_growths is) refusal_for (Ok tt) old new
    → carry_out_items is old ≡ Ok new
carried-by is old new ends = carried_said is old ∙ rw (ends.0, ends.1) refl

-- some of the items were carried out, so however the rest `left` ends, the whole ends in that way
pub record Leaves (all left old here : List Item) : Type 0 where
  pub ends : (r : Result (Unit {0}) Refusal) (new : List Item) → EndsAsStage (items_with_growths left) refusal_for r here new
      → EndsAsStage (items_with_growths all) refusal_for r old new

pub leaves-all : (all old : List Item) → Leaves all all old old
leaves-all all old = record { ends = λ r new rest. rest }

pub leaves-next : (all is js left old here new : List Item) → left ≡ is ++ js
    → EndsAsStage {A = Unit {0}} (items_with_growths is) refusal_for (Ok tt) here new → Leaves all left old here → Leaves all js old new
leaves-next all is js left old here new same first before = record {
  ends = λ r last rest. before.ends r last (rw same (carries-second r is js here new last first rest));
}

-- a fact that holds anyway holds if the result is `Ok`
pub on_ok : (r : Result (Unit {0}) Refusal) (P : Type 0) → P → OnOk r P
on_ok (Ok x) P holds = holds
on_ok (Err e) P holds = tt

-- after an item, something has happened to memory
last_begun : (items : List Item) (i : Item) → HasFirstItem (items ++ i ∷ [])
last_begun [] i = tt
last_begun (j ∷ is) i = tt

after_begun : (first : ChangeEffect) (r : Option RefusedGrowth) (i : Item) (old new : List Item) → first.refused ≡ r
    → (followed_by first r (write_item i (items_after_change old first))).refused ≡ None
    → new ≡ items_after_change old (followed_by first r (write_item i (items_after_change old first))) → HasFirstItem new
after_begun first None i old new is unrefused same =
    let last = same ∙ ap (λ (t : List Item). old ++ t) (items_of_steps-append first.steps ((i ∷ []) ∷ []))
    ∙ sym (append_assoc old (items_of_steps first.steps) (i ∷ [])) in
    subst HasFirstItem (sym last) (last_begun (old ++ items_of_steps first.steps) i)
after_begun first (Some refused) i old new is unrefused same = let clash : Some refused ≡ None = sym is ∙ unrefused in absurd (cc)

pub claim-begun : (x : Unit {0}) (old new : List Item) (range : RangeView) (who : Owner)
    → EndsAsChange (Ok x) old new (claim_range range who)
    → HasFirstItem new
unfolding claim_range
claim-begun x old new range who ends =
    let growth : Change = make_table_room which.Reserved (count_uncovered_pieces which.Reserved range) (reserved_growth range) in
    after_begun (growth old) (growth old).refused (item.Claim range who) old new refl ends.0 ends.1
