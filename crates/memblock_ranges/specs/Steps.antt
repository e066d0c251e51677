-- What must be true of a journal item before a table can be edited as the item says.
use Rattle.std.specs.Prelude.{◌^◌, ◌≤◌}
use Rattle.bm_base.specs.Range.{end_of}
use Rattle.memblock_model.specs.declared.item.Item.{Item}
use Rattle.memblock_model.specs.declared.item.Item.TheVariants as item

-- the item's range, if it has one, ends at or below 2^64
abbrev pub RangeEndsInAddressSpace : Item → Type 0
RangeEndsInAddressSpace (item.Mem range) = end_of range ≤ 2 ^ 64
RangeEndsInAddressSpace (item.Node range node) = end_of range ≤ 2 ^ 64
RangeEndsInAddressSpace (item.Mirror range) = end_of range ≤ 2 ^ 64
RangeEndsInAddressSpace (item.Claim range owner) = end_of range ≤ 2 ^ 64
RangeEndsInAddressSpace (item.Free range) = end_of range ≤ 2 ^ 64
RangeEndsInAddressSpace i = Unit {0}
