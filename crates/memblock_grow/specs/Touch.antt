-- Ranges that overlap a table.
use Rattle.std.specs.Prelude.{List}
use Rattle.bm_base.specs.Range.{RangeView, Meet}
use Rattle.memblock_model.specs.declared.owner.Which.{Which}
use Rattle.memblock_model.specs.declared.item.Item.{Item}
use Rattle.memblock_model.specs.Tables.{table_bytes}

-- some address of the range lies in the array of a table, at the address and with the room that the
-- items give that table
abbrev pub OverlapsTableOfItems : RangeView → RangeView → List Item → Type 0
OverlapsTableOfItems kernel range items = (w : Which) × Meet (table_bytes w kernel items) range
