-- Tests of a range: whether one owner has all of it, and whether it overlaps a table of memblock.
use Rattle.std.specs.Prelude.{Bool, ◌||◌, nat_lt, min, max, Some, List}
use Rattle.bm_base.specs.Range.{RangeView, end_of}
use Rattle.bm_base.specs.Each.{each_in}
use Rattle.address_runs.specs.Edits.{agree}
use Rattle.memblock_model.specs.declared.owner.Owner.{Owner}
use Rattle.memblock_model.specs.declared.owner.Which.TheVariants as which
use Rattle.memblock_model.specs.declared.item.Item.{Item}
use Rattle.memblock_model.specs.Same.{same_owner}
use Rattle.memblock_model.specs.Items.{Owners}
use Rattle.memblock_model.specs.Tables.{table_bytes}

-- each byte of the range has the owner
unfoldable pub is_owned_by : Owners → Owner → RangeView → Bool
is_owned_by own who range = each_in range (λ x. agree same_owner (own x) (Some who))

-- the ranges have a byte in common
abbrev pub ranges_overlap : RangeView → RangeView → Bool
ranges_overlap r s = nat_lt (max r.base s.base) (min (end_of r) (end_of s))

-- whether the range has a byte in common with memblock's memory table or reserved table, in their
-- present places
abbrev pub is_over_table : RangeView → List Item → RangeView → Bool
is_over_table kernel items range =
    ranges_overlap range (table_bytes which.Memory kernel items) || ranges_overlap range (table_bytes which.Reserved kernel items)
