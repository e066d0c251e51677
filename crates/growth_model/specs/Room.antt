-- How much room a growth gives a table, and when the table has enough.
use Rattle.std.specs.Prelude.{◌≡◌, ℕ, ◌+◌, ◌*◌, ◌^◌, ◌≤◌, false, None, List}
use Rattle.address_runs.specs.Edits.{IsEmptyFrom}
use Rattle.memblock_model.specs.declared.owner.Which.{Which}
use Rattle.memblock_model.specs.declared.item.Item.{Item}
use Rattle.memblock_model.specs.Items.{limit_of}
use Rattle.memblock_model.specs.Tables.{table_of, room_of}
use Rattle.growth_model.specs.Change.{Change, items_after_change}
use Rattle.growth_model.specs.Growth.{record_count, is_full, make_table_room}

-- no record of either table ends above 2^64, and the limit is at most 2^64
pub record IsInAddressSpace (items : List Item) : Type 0 where
  pub ends : (w : Which) → IsEmptyFrom (2 ^ 64) (table_of w items)
  pub limit : limit_of items ≤ 2 ^ 64

-- the table `w` has twice its old room and at most two more records. One may be for the claim of
-- its new place. The other one is needed if its old place, which is freed, was inside a record.
pub record DoublesRoom (w : Which) (old new : List Item) : Type 0 where
  pub room : room_of w new ≡ 2 * room_of w old
  pub few : record_count w new ≤ record_count w old + 2

-- if none of the growths of `make_table_room` is refused, the table then has room for `more`
-- records in addition to those that it has, so no third growth is needed
abbrev pub HasRoomAfter : Which → (List Item → ℕ) → Change → List Item → Type 0
HasRoomAfter w more growth items =
    (make_table_room w more growth items).refused ≡ None
    → is_full w more (items_after_change items (make_table_room w more growth items)) ≡ false
