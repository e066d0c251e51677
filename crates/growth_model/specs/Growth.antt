-- The growth of the two tables (`memblock_double_array`), and the changes that may need it. A table
-- that grows claims its new place before it frees its old one, and its old bytes become 0. The
-- order of these items in the journal is this project's own choice.
use Rattle.std.specs.Prelude.{ℕ, ◌+◌, ◌-◌, ◌*◌, ◌/◌, Bool, nat_lt, min, Option, Some, None, List, [], ◌∷◌, length}
use Rattle.std.specs.Option.{option_map, option_or}
use Rattle.bm_base.specs.Range.{RangeView, end_of}
use Rattle.bm_base.specs.declared.range.TheConstants.{FRAME_SIZE}
use Rattle.memblock_model.specs.declared.owner.Which.{Which}
use Rattle.memblock_model.specs.declared.owner.Which.TheVariants as which
use Rattle.memblock_model.specs.declared.owner.Owner.{Owner}
use Rattle.memblock_model.specs.declared.owner.Owner.TheVariants as owner
use Rattle.memblock_model.specs.declared.query.Query.{Query}
use Rattle.memblock_model.specs.declared.item.Item.{Item}
use Rattle.memblock_model.specs.declared.item.Item.TheVariants as item
use Rattle.memblock_model.specs.Items.{limit_of}
use Rattle.memblock_model.specs.Tables.{table_of, records_of, room_of, moved_to, uncovered_run_count}
use Rattle.memblock_model.specs.Search.{best_place}
use Rattle.growth_model.specs.Change.{Change, ◌>>◌, no_change, write_items, write_item, refuse_growth, if_due, ignore_refusal}

-- `n` bytes, rounded up to whole frames, in bytes
abbrev pub round_up_to_frames : ℕ → ℕ
round_up_to_frames n = (n + (FRAME_SIZE - 1)) / FRAME_SIZE * FRAME_SIZE

-- the range of whole frames that `n` bytes need from address `place` on
abbrev pub frames_for_bytes : ℕ → ℕ → RangeView
frames_for_bytes place n = record { base = place; size = round_up_to_frames n }

-- the number of records that a table has after the items
abbrev pub record_count : Which → List Item → ℕ
record_count w items = length (records_of w items)

-- the search for the new memory of a table that has room for `room` records: frames for twice as
-- many records of 24 bytes, between the addresses `lo` and `hi`, on any node
abbrev pub table_query : ℕ → ℕ → ℕ → Query
table_query room lo hi = record { lo = lo; hi = hi; size = round_up_to_frames (48 * room); align = FRAME_SIZE; node = None }

-- the new address of the reserved table, whose new bytes must not overlap the range `avoid` that is
-- to be claimed or freed. It is the best address above that range, or else the best one below it.
-- In both cases the new bytes end at or below the limit.
abbrev pub place_beside_range : RangeView → ℕ → List Item → Option ℕ
place_beside_range avoid room items = option_or
    (best_place items (table_query room (end_of avoid) (limit_of items)))
    (best_place items (table_query room 0 (min avoid.base (limit_of items))))

-- the item that frees the frames that the table leaves; there is none if it leaves its built-in
-- place, which is never freed
abbrev pub items_freeing_old_place : ℕ → Option ℕ → List Item
items_freeing_old_place room None = []
items_freeing_old_place room (Some place) = item.Free (frames_for_bytes place (24 * room)) ∷ []

-- the items that a growth of the reserved table to address `place` writes, all in one step; `old`
-- is the address that the table had moved to before, if it had moved
unfoldable pub reserved_growth_items : ℕ → Option ℕ → ℕ → List Item
reserved_growth_items room old place =
    item.Grown which.Reserved place (2 * room)
    ∷ (item.Claim (frames_for_bytes place (48 * room)) (owner.Table which.Reserved)
    ∷ items_freeing_old_place room old)

-- the growth of the reserved table to the address that was found; it is refused if none was
unfoldable pub reserved_growth_at : ℕ → Option ℕ → Option ℕ → Change
reserved_growth_at room old None = refuse_growth which.Reserved room
reserved_growth_at room old (Some place) = write_items (reserved_growth_items room old place)

-- the growth of the reserved table before the range `avoid` is claimed or freed; the table's new
-- bytes don't overlap that range
unfoldable pub reserved_growth : RangeView → Change
reserved_growth avoid items =
    reserved_growth_at (room_of which.Reserved items) (moved_to which.Reserved items)
    (place_beside_range avoid (room_of which.Reserved items) items) items

-- whether the table has too little room for `more` records in addition to those that it has
abbrev pub is_full : Which → (List Item → ℕ) → List Item → Bool
is_full w more items = nat_lt (room_of w items) (record_count w items + more items)

-- the number of pieces of the range that the table doesn't cover, each as long as possible:
-- covering the range adds at most that many records
abbrev pub count_uncovered_pieces : Which → RangeView → List Item → ℕ
count_uncovered_pieces w range items = uncovered_run_count range (table_of w items)

-- the greatest number of records that a free, a node or a mirrored range may add to a table: two,
-- since each of these edits may split a record at both ends of its range
abbrev pub max_records_added_by_split : List Item → ℕ
max_records_added_by_split items = 2

-- the growths that make room in a table for `more` records: it grows if it is full, and once more
-- if it is still full. Two growths are always enough.
abbrev pub make_table_room : Which → (List Item → ℕ) → Change → Change
make_table_room w more growth = if_due (is_full w more) growth >> if_due (is_full w more) growth

-- the change that claims a range for an owner (`memblock_reserve`)
unfoldable pub claim_range : RangeView → Owner → Change
claim_range range who =
    make_table_room which.Reserved (count_uncovered_pieces which.Reserved range) (reserved_growth range)
    >> write_item (item.Claim range who)

-- the change that frees a range (`memblock_phys_free`)
unfoldable pub free_range : RangeView → Change
free_range range = make_table_room which.Reserved max_records_added_by_split (reserved_growth range) >> write_item (item.Free range)

-- the frames that the table leaves; none if it leaves its built-in place, which is never freed
abbrev pub old_frames : ℕ → Option ℕ → Option RangeView
old_frames room old = option_map (λ place. frames_for_bytes place (24 * room)) old

-- the change that frees the frames that the memory table has left. If it needs a growth that is
-- refused, these frames stay claimed, and the whole change isn't refused.
abbrev pub free_old_place : Option RangeView → Change
free_old_place None = no_change
free_old_place (Some frames) = ignore_refusal (free_range frames)

-- the growth of the memory table to the address that was found: it claims the new memory, which may
-- make the reserved table grow, then moves the table, then frees the old memory. It is refused if
-- no address was found.
unfoldable pub memory_growth_at : ℕ → Option ℕ → Option ℕ → Change
memory_growth_at room old None = refuse_growth which.Memory room
memory_growth_at room old (Some place) =
    claim_range (frames_for_bytes place (48 * room)) (owner.Table which.Memory)
    >> write_item (item.Grown which.Memory place (2 * room))
    >> free_old_place (old_frames room old)

-- the growth of the memory table, to the best address below the limit
unfoldable pub memory_growth : Change
memory_growth items =
    memory_growth_at (room_of which.Memory items) (moved_to which.Memory items)
    (best_place items (table_query (room_of which.Memory items) 0 (limit_of items))) items

-- the change that adds a range to memory (`memblock_add`)
unfoldable pub add_range : RangeView → Change
add_range range = make_table_room which.Memory (count_uncovered_pieces which.Memory range) memory_growth >> write_item (item.Mem range)

-- the change that gives a node to the memory of a range (`memblock_set_node`)
unfoldable pub set_range_node : RangeView → ℕ → Change
set_range_node range node = make_table_room which.Memory max_records_added_by_split memory_growth >> write_item (item.Node range node)

-- the change that marks the memory of a range as mirrored (`memblock_mark_mirror`)
unfoldable pub set_range_mirror : RangeView → Change
set_range_mirror range = make_table_room which.Memory max_records_added_by_split memory_growth >> write_item (item.Mirror range)
