-- How many records an edit may add at most, and whether a table has room for them.
use Rattle.std.specs.Prelude.{ℕ, ◌+◌, ◌^◌, ◌<◌, ◌≤◌, List, length}
use Rattle.bm_base.specs.Range.{end_of}
use Rattle.address_runs.specs.Runs.{value_at}
use Rattle.memblock_model.specs.declared.owner.Which.{Which}
use Rattle.memblock_model.specs.declared.item.Item.{Item}
use Rattle.memblock_model.specs.Tables.{uncovered_run_count}
use Rattle.memblock_ranges.specs.Tables.{TableView}
use Rattle.growth_model.specs.Growth.{count_uncovered_pieces, max_records_added_by_split}
use Rattle.memblock_grow.specs.declared.new_records.MaxNewRecords.{MaxNewRecords}
use Rattle.memblock_grow.specs.declared.new_records.MaxNewRecords.TheVariants as more

-- the greatest number of records that an edit may add to a table, computed from the journal's items
abbrev pub new_records_by_items : Which → MaxNewRecords → List Item → ℕ
new_records_by_items w (more.PiecesOf range) = count_uncovered_pieces w range
new_records_by_items w more.Two = max_records_added_by_split

-- the greatest number of records that an edit may add to a table, computed from the table
abbrev pub new_records_in_table : MaxNewRecords → TableView → ℕ
new_records_in_table (more.PiecesOf range) t = uncovered_run_count range (value_at t.records)
new_records_in_table more.Two t = 2

-- the table has room for all records that the edit may add
abbrev pub HasRoomFor : MaxNewRecords → TableView → Type 0
HasRoomFor m t = length t.records + new_records_in_table m t ≤ t.room

-- the range of the edit, if it has one, ends below 2^64
abbrev pub RangeEndsBelow2To64 : MaxNewRecords → Type 0
RangeEndsBelow2To64 (more.PiecesOf range) = end_of range < 2 ^ 64
RangeEndsBelow2To64 more.Two = Unit {0}
