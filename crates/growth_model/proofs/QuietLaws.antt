-- Growth, claims and frees write no item that changes memory, at whichever step they end.
use Rattle.std.proofs.Common.{◌≡◌, ℕ, ◌*◌, Bool, List, [], ◌∷◌, ◌++◌, Option, Some, None, refl, ap, ◌∙◌, inl, inr}
use Rattle.std.proofs.lemmas.Bool.{cases_Bool}
use Rattle.std.proofs.lemmas.List.{append-nil}
use Rattle.bm_base.specs.Range.{RangeView}
use Rattle.memblock_model.specs.declared.owner.Which.{Which}
use Rattle.memblock_model.specs.declared.owner.Which.TheVariants as which
use Rattle.memblock_model.specs.declared.owner.Owner.{Owner}
use Rattle.memblock_model.specs.declared.owner.Owner.TheVariants as owner
use Rattle.memblock_model.specs.declared.item.Item.{Item}
use Rattle.memblock_model.specs.declared.item.Item.TheVariants as item
use Rattle.memblock_model.specs.Items.{memory_of, limit_of}
use Rattle.memblock_model.specs.Tables.{room_of, moved_to}
use Rattle.memblock_model.specs.Search.{best_place}
use Rattle.growth_model.specs.Change.{RefusedGrowth, ChangeEffect, Change, ◌>>◌, followed_by, items_after_change, items_of_steps, if_due, write_item}
use Rattle.growth_model.specs.Growth.{claim_range, free_range, frames_for_bytes, make_table_room, is_full, free_old_place, memory_growth, memory_growth_at, count_uncovered_pieces, old_frames, place_beside_range, reserved_growth, reserved_growth_at, reserved_growth_items, table_query, max_records_added_by_split}
use Rattle.growth_model.specs.Requests.{StepsKeepMemory, memory_items}
use Rattle.growth_model.proofs.MemoryItemLaws.{quiet-append, quiet-joined, memory_items-append, memory_of-same, limit_of-same}

-- a change that writes no item that changes memory
pub record IsQuiet (c : Change) : Type 0 where
  pub each : (items : List Item) → StepsKeepMemory (c items).steps

quiet-followed : (first : ChangeEffect) (r : Option RefusedGrowth) (second : ChangeEffect) → StepsKeepMemory first.steps
    → StepsKeepMemory second.steps
    → StepsKeepMemory (followed_by first r second).steps
quiet-followed first None second quiet then = quiet-append first.steps second.steps quiet then
quiet-followed first (Some r) second quiet then = quiet

pub quiet-then : (first second : Change) → IsQuiet first → IsQuiet second → IsQuiet (first >> second)
quiet-then first second quiet then = record {
  each = λ items. quiet-followed (first items) (first items).refused (second (items_after_change items (first items))) (quiet.each items)
      (then.each (items_after_change items (first items)));
}

written-quiet : (i : Item) → memory_items (i ∷ []) ≡ [] → IsQuiet (write_item i)
written-quiet i quiet = record { each = λ items. (quiet, tt) }

quiet-due : (due : List Item → Bool) (c : Change) → IsQuiet c → IsQuiet (if_due due c)
quiet-due due c quiet = record {
  each = λ items. elim (cases_Bool (due items)) as (λ _. StepsKeepMemory (if_due due c items).steps)
      [ inl now ↦ rw now (quiet.each items) | inr never ↦ rw never tt ];
}

pub quiet-grown : (w : Which) (more : List Item → ℕ) (growth : Change) → IsQuiet growth → IsQuiet (make_table_room w more growth)
quiet-grown w more growth quiet =
    let once : IsQuiet (if_due (is_full w more) growth) = quiet-due (is_full w more) growth quiet in
    quiet-then (if_due (is_full w more) growth) (if_due (is_full w more) growth) once once

reserved_at-quiet : (room : ℕ) (old place : Option ℕ) → IsQuiet (reserved_growth_at room old place)
unfolding reserved_growth_at reserved_growth_items
reserved_at-quiet room old None = record { each = λ items. tt }
reserved_at-quiet room None (Some place) = record { each = λ items. (refl, tt) }
reserved_at-quiet room (Some from) (Some place) = record { each = λ items. (refl, tt) }

pub reserved_growth-quiet : (avoid : RangeView) → IsQuiet (reserved_growth avoid)
unfolding reserved_growth
reserved_growth-quiet avoid = record {
  each = λ items. (reserved_at-quiet (room_of which.Reserved items) (moved_to which.Reserved items)
      (place_beside_range avoid (room_of which.Reserved items) items)).each items;
}

pub claim_range-quiet : (range : RangeView) (who : Owner) → IsQuiet (claim_range range who)
unfolding claim_range
claim_range-quiet range who =
    quiet-then _ _ (quiet-grown which.Reserved (count_uncovered_pieces which.Reserved range) _ (reserved_growth-quiet range))
    (written-quiet (item.Claim range who) refl)

pub free_range-quiet : (range : RangeView) → IsQuiet (free_range range)
unfolding free_range
free_range-quiet range =
    quiet-then _ _ (quiet-grown which.Reserved max_records_added_by_split _ (reserved_growth-quiet range))
    (written-quiet (item.Free range) refl)

free_old_place-quiet : (room : ℕ) (old : Option ℕ) → IsQuiet (free_old_place (old_frames room old))
free_old_place-quiet room None = record { each = λ items. tt }
free_old_place-quiet room (Some place) = record { each = (free_range-quiet (frames_for_bytes place (24 * room))).each }

memory_at-quiet : (room : ℕ) (old place : Option ℕ) → IsQuiet (memory_growth_at room old place)
unfolding memory_growth_at
memory_at-quiet room old None = record { each = λ items. tt }
memory_at-quiet room old (Some place) =
    quiet-then _ _ (claim_range-quiet (frames_for_bytes place (48 * room)) (owner.Table which.Memory))
    (quiet-then _ _ (written-quiet (item.Grown which.Memory place (2 * room)) refl) (free_old_place-quiet room old))

pub memory_growth-quiet : IsQuiet memory_growth
unfolding memory_growth
memory_growth-quiet = record {
  each = λ items. (memory_at-quiet (room_of which.Memory items) (moved_to which.Memory items)
      (best_place items (table_query (room_of which.Memory items) 0 (limit_of items)))).each items;
}

-- a quiet change leaves memory and the limit as they are
pub quiet-memory_items : (items : List Item) (o : ChangeEffect) → StepsKeepMemory o.steps
    → memory_items (items_after_change items o) ≡ memory_items items
quiet-memory_items items o quiet =
    memory_items-append items (items_of_steps o.steps) ∙ ap (λ (t : List Item). memory_items items ++ t) (quiet-joined o.steps quiet)
    ∙ append-nil (memory_items items)

pub quiet-memory : (items : List Item) (o : ChangeEffect) → StepsKeepMemory o.steps
    → memory_of (items_after_change items o) ≡ memory_of items
quiet-memory items o quiet = memory_of-same (items_after_change items o) items (quiet-memory_items items o quiet)

pub quiet-limit : (items : List Item) (o : ChangeEffect) → StepsKeepMemory o.steps → limit_of (items_after_change items o) ≡ limit_of items
quiet-limit items o quiet = limit_of-same (items_after_change items o) items (quiet-memory_items items o quiet)
