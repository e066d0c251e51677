-- memblock's two tables after a list of journal items (`struct memblock_type`): their records,
-- their room (the number of records that fit) and their addresses.
use Rattle.std.specs.Prelude.{ℕ, ◌-◌, ◌*◌, if◌then◌else◌, Option, Some, None, List, fold, length, unwrap_or}
use Rattle.bm_base.specs.Range.{RangeView, end_of}
use Rattle.bm_base.specs.declared.range.TheConstants.{FRAME_SIZE}
use Rattle.address_runs.specs.Runs.{RunOf, runs_of}
use Rattle.address_runs.specs.Edits.{cover_range, uncover_range, gaps_in_range}
use Rattle.memblock_model.specs.Labels.{LabelView, Labels, plain_label}
use Rattle.memblock_model.specs.Same.{same_which, same_label}
use Rattle.memblock_model.specs.Items.{Owners, owner_of, memory_of, memory_after}
use Rattle.memblock_model.specs.declared.owner.Owner.{Owner}
use Rattle.memblock_model.specs.declared.owner.Which.{Which}
use Rattle.memblock_model.specs.declared.owner.Which.TheVariants as which
use Rattle.memblock_model.specs.declared.item.Item.{Item}
use Rattle.memblock_model.specs.declared.item.Item.TheVariants as item

-- the label that the reserved table gives a byte with this owner: it says that the byte is
-- claimed, but not for whom
abbrev pub without_owner : Option Owner → Option LabelView
without_owner None = None
without_owner (Some owner) = Some plain_label

abbrev pub reserved_labels : Owners → Labels
reserved_labels f x = without_owner (f x)

-- the label that a table gives each byte after the items
abbrev pub table_of : Which → List Item → Labels
table_of which.Memory items = memory_of items
table_of which.Reserved items = reserved_labels (owner_of items)

-- the labels of the reserved table after an item. A Claim covers its range, even if other owners
-- had claimed bytes of it before.
abbrev pub reserved_after : Labels → Item → Labels
reserved_after f (item.Claim range owner) = cover_range range plain_label f
reserved_after f (item.Free range) = uncover_range range f
reserved_after f i = f

-- the labels of a table after an item
abbrev pub table_after : Which → Labels → Item → Labels
table_after which.Memory f i = memory_after f i
table_after which.Reserved f i = reserved_after f i

-- the records of a table with these labels: one for each run of bytes with equal labels
-- (`memblock_add_range` merges neighbours)
unfoldable pub records_for : Labels → List (RunOf LabelView)
records_for f = runs_of same_label f

-- the records of a table after the items
unfoldable pub records_of : Which → List Item → List (RunOf LabelView)
records_of w items = records_for (table_of w items)

-- the number of parts of the range that the table doesn't cover: that many records are added before
-- any are merged (`nr_new` in `memblock_add_range`)
unfoldable pub uncovered_run_count : RangeView → Labels → ℕ
uncovered_run_count r f = length (records_for (gaps_in_range r plain_label f))

-- the number of records that a table has room for: 128 (`INIT_MEMBLOCK_REGIONS`) at first, and
-- twice as many after each growth of that table. The item's own field `room` is ignored.
abbrev pub room_after : Which → ℕ → Item → ℕ
room_after w n (item.Grown which place room) = if same_which w which then 2 * n else n
room_after w n i = n

abbrev pub room_of : Which → List Item → ℕ
room_of w items = fold (room_after w) 128 items

-- the address that the table last moved to, or None if it never moved
abbrev pub moved_after : Which → Option ℕ → Item → Option ℕ
moved_after w o (item.Grown which place room) = if same_which w which then Some place else o
moved_after w o i = o

abbrev pub moved_to : Which → List Item → Option ℕ
moved_to w items = fold (moved_after w) None items

-- the address of the table before it first moves: the kernel's image ends with two frames for the
-- tables, first that of the memory table. The kernel's arrays lie in its image too
-- (`memblock_memory_init_regions`, `memblock_reserved_init_regions`). The choice of the last two
-- frames is this project's.
abbrev pub built_in_place : Which → RangeView → ℕ
built_in_place which.Memory kernel = end_of kernel - 2 * FRAME_SIZE
built_in_place which.Reserved kernel = end_of kernel - FRAME_SIZE

-- the address of the table's first byte
abbrev pub table_place : Which → RangeView → List Item → ℕ
table_place w kernel items = unwrap_or (moved_to w items) (built_in_place w kernel)

-- the range of the table's array: 24 bytes for each record that there is room for
-- (`struct memblock_region`)
abbrev pub table_bytes : Which → RangeView → List Item → RangeView
table_bytes w kernel items = record { base = table_place w kernel items; size = 24 * room_of w items }
