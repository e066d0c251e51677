-- However a growth of the memory table ends, the table is in its old place, or in a new one that
-- ends at or below the limit.
use Rattle.std.proofs.Common.{◌≡◌, ◌⊎◌, ℕ, ◌+◌, ◌*◌, ◌≤◌, Option, Some, None, List, [], ◌∷◌, ◌++◌, Result, refl, sym, ◌∙◌, ap, inl, inr, arith}
use Rattle.std.proofs.lemmas.Option.{same_Some}
use Rattle.bm_base.specs.Range.{RangeView}
use Rattle.memblock_model.specs.declared.owner.Which.TheVariants as which
use Rattle.memblock_model.specs.declared.owner.Owner.{Owner}
use Rattle.memblock_model.specs.declared.owner.Owner.TheVariants as owner
use Rattle.memblock_model.specs.declared.item.Item.{Item}
use Rattle.memblock_model.specs.declared.item.Item.TheVariants as item
use Rattle.memblock_model.specs.Items.{limit_of}
use Rattle.memblock_model.specs.Tables.{room_of, moved_to}
use Rattle.memblock_model.specs.Search.{best_place}
use Rattle.growth_model.specs.declared.refusal.Refusal.{Refusal}
use Rattle.growth_model.specs.Change.{Change, items_after_change, write_item, ◌>>◌}
use Rattle.growth_model.specs.Growth.{round_up_to_frames, frames_for_bytes, table_query, place_beside_range, reserved_growth_items, reserved_growth_at, reserved_growth, count_uncovered_pieces, max_records_added_by_split, make_table_room, claim_range, free_range, old_frames, free_old_place, memory_growth_at, memory_growth}
use Rattle.growth_model.specs.Ends.{EndsAsChange}
use Rattle.growth_model.proofs.CutLaws.{EachCut, cuts-last, cuts-ends, cuts-then, cuts-grown, cuts-map}
use Rattle.growth_model.proofs.FoundLaws.{found-fits}
use Rattle.growth_model.proofs.PlacedLaws.{moves-of, rooms-of}
use Rattle.growth_model.proofs.PlacedReservedLaws.{reserved-moves, reserved-rooms}

-- the memory table's newest place and its room are these
abbrev pub LiesAt : Option ℕ → ℕ → List Item → Type 0
LiesAt m n t = (moved_to which.Memory t ≡ m) × (room_of which.Memory t ≡ n)

-- a growth of the reserved table doesn't move the memory table, so neither does a claim or a free
grew-stays : (m : Option ℕ) (n room : ℕ) (old : Option ℕ) (place : ℕ) (t : List Item) → LiesAt m n t
    → LiesAt m n (t ++ reserved_growth_items room old place)
grew-stays m n room old place t at =
    (reserved-moves which.Memory t room old place ∙ at.0, reserved-rooms which.Memory t room old place ∙ at.1)

at-stays : (m : Option ℕ) (n room : ℕ) (old found : Option ℕ) (t : List Item) → LiesAt m n t
    → EachCut (LiesAt m n) t (reserved_growth_at room old found t).steps
unfolding reserved_growth_at
at-stays m n room old None t at = at
at-stays m n room old (Some place) t at = (at, grew-stays m n room old place t at)

reserved-stays : (m : Option ℕ) (n : ℕ) (a : RangeView) (t : List Item) → LiesAt m n t → EachCut (LiesAt m n) t (reserved_growth a t).steps
unfolding reserved_growth
reserved-stays m n a t at =
    at-stays m n (room_of which.Reserved t) (moved_to which.Reserved t) (place_beside_range a (room_of which.Reserved t) t) t at

after-growths : (m : Option ℕ) (n : ℕ) (a : RangeView) (more : List Item → ℕ) (i : Item) (t : List Item)
    → ((u : List Item) → LiesAt m n u → LiesAt m n (u ++ i ∷ [])) → LiesAt m n t
    → EachCut (LiesAt m n) t ((make_table_room which.Reserved more (reserved_growth a) >> write_item i) t).steps
after-growths m n a more i t keep at =
    let growths : Change = make_table_room which.Reserved more (reserved_growth a) in
    let throughout : EachCut (LiesAt m n) t (growths t).steps =
    cuts-grown (LiesAt m n) which.Reserved more (reserved_growth a) t (λ u here. reserved-stays m n a u here) at in
    let here : LiesAt m n (items_after_change t (growths t)) = cuts-last (LiesAt m n) t (growths t).steps throughout in
    cuts-then (LiesAt m n) t growths (write_item i) throughout (λ _. (here, keep (items_after_change t (growths t)) here))

pub claim_range-stays : (m : Option ℕ) (n : ℕ) (a : RangeView) (o : Owner) (t : List Item) → LiesAt m n t
    → EachCut (LiesAt m n) t (claim_range a o t).steps
unfolding claim_range
claim_range-stays m n a o t at =
    after-growths m n a (count_uncovered_pieces which.Reserved a) (item.Claim a o) t
    (λ u here. (moves-of which.Memory u _ ∙ here.0, rooms-of which.Memory u _ ∙ here.1)) at

free_range-stays : (m : Option ℕ) (n : ℕ) (a : RangeView) (t : List Item) → LiesAt m n t → EachCut (LiesAt m n) t (free_range a t).steps
unfolding free_range
free_range-stays m n a t at =
    after-growths m n a max_records_added_by_split (item.Free a) t
    (λ u here. (moves-of which.Memory u _ ∙ here.0, rooms-of which.Memory u _ ∙ here.1)) at

pub free_old_place-stays : (m : Option ℕ) (n : ℕ) (old : Option RangeView) (t : List Item) → LiesAt m n t
    → EachCut (LiesAt m n) t (free_old_place old t).steps
free_old_place-stays m n None t at = at
free_old_place-stays m n (Some a) t at = free_range-stays m n a t at

-- the newest place is the one before the growth, or one that ends at or below the limit
abbrev Limited : List Item → List Item → Type 0
Limited items t = (moved_to which.Memory t ≡ moved_to which.Memory items)
    ⊎ ((place : ℕ) × (moved_to which.Memory t ≡ Some place)
    × (place + round_up_to_frames (48 * room_of which.Memory items) ≤ limit_of items))

growth-limited : (items : List Item) (found : Option ℕ)
    → best_place items (table_query (room_of which.Memory items) 0 (limit_of items)) ≡ found
    → EachCut (Limited items) items (memory_growth_at (room_of which.Memory items) (moved_to which.Memory items) found items).steps
unfolding memory_growth_at
growth-limited items None is = inl refl
growth-limited items (Some place) is =
    let room : ℕ = room_of which.Memory items in
    let old : Option ℕ = moved_to which.Memory items in
    let first : Change = claim_range (frames_for_bytes place (48 * room)) (owner.Table which.Memory) in
    let moves : Item = item.Grown which.Memory place (2 * room) in
    let last : Change = free_old_place (old_frames room old) in
    let high : place + round_up_to_frames (48 * room) ≤ limit_of items =
    (found-fits items (table_query room 0 (limit_of items)) place is).high in
    let throughout : EachCut (LiesAt old room) items (first items).steps =
    claim_range-stays old room (frames_for_bytes place (48 * room)) (owner.Table which.Memory) items (refl, refl) in
    let u : List Item = items_after_change items (first items) in
    let here : LiesAt old room u = cuts-last (LiesAt old room) items (first items).steps throughout in
    let moved : LiesAt (Some place) (2 * room) (u ++ moves ∷ []) =
    (moves-of which.Memory u (moves ∷ []), rooms-of which.Memory u (moves ∷ []) ∙ ap (λ (n : ℕ). 2 * n) here.1) in
    cuts-then (Limited items) items first (write_item moves >> last)
    (cuts-map (LiesAt old room) (Limited items) items (first items).steps (λ t at. inl at.0) throughout)
    (λ _. cuts-then (Limited items) u (write_item moves) last (inl here.0, inr (place, moved.0, high))
    (λ _. cuts-map (LiesAt (Some place) (2 * room)) (Limited items) (u ++ moves ∷ []) (last (u ++ moves ∷ [])).steps
    (λ t at. inr (place, at.0, high)) (free_old_place-stays (Some place) (2 * room) (old_frames room old) (u ++ moves ∷ []) moved)))

memory-limited : (items : List Item) → EachCut (Limited items) items (memory_growth items).steps
unfolding memory_growth
memory-limited items = growth-limited items (best_place items (table_query (room_of which.Memory items) 0 (limit_of items))) refl

pub memory-below : {T : Type 0} (result : Result T Refusal) (old new : List Item) (place : ℕ) → EndsAsChange result old new memory_growth
    → moved_to which.Memory new ≡ Some place
    → (moved_to which.Memory old ≡ Some place) ⊎ (place + round_up_to_frames (48 * room_of which.Memory old) ≤ limit_of old)
memory-below result old new place ends at =
    elim (cuts-ends (Limited old) result old new (memory_growth old) (memory-limited old) ends) as (λ _.
    (moved_to which.Memory old ≡ Some place) ⊎ (place + round_up_to_frames (48 * room_of which.Memory old) ≤ limit_of old)) [
      | inl stays ↦ inl (sym stays ∙ at)
      | inr there ↦
          let same : there.0 ≡ place = same_Some there.0 place (sym there.1 ∙ at) in
          let high = there.2 in
          inr (omega (arith, same, high))
    ]
