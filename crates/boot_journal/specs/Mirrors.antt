-- Whether the items mark memory as mirrored.
use Rattle.std.specs.Prelude.{Bool, true, false, List, fold}
use Rattle.memblock_model.specs.declared.item.Item.{Item}
use Rattle.memblock_model.specs.declared.item.Item.TheVariants as item

abbrev pub has_mirrors_after : Bool → Item → Bool
has_mirrors_after before (item.Mirror range) = true
has_mirrors_after before i = before

-- whether some item marks memory as mirrored (`memblock_mark_mirror`, which sets
-- `system_has_some_mirror`). Without such an item no byte is mirrored. With one there may still be
-- no mirrored byte, since its range may contain no memory.
abbrev pub has_mirrors : List Item → Bool
has_mirrors items = fold has_mirrors_after false items
