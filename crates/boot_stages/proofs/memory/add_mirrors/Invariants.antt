-- The items of all ranges before this one were carried out. The items that remain are those of the
-- remaining ranges.
use Rattle.std.proofs.Common.{drop, map}
use Rattle.growth_model.specs.Tables.{HasFirstItem}
use Rattle.early_memory.specs.FirstItems.{mirror_items}
use Rattle.memblock_grow.specs.Continues.{ContinuesMemblock}
use Rattle.boot_model.specs.Mirrors.{frame_range_of}
use Rattle.boot_stages.proofs.ItemsLaws.{Leaves}
use Rattle.boot_stages.proofs.memory.add_mirrors.Given as goal

abbrev pub invariant-loop-mirror : goal.invariant-loop-mirror
invariant-loop-mirror l = record {
  left : Leaves (mirror_items (map frame_range_of l.mirrors)) (mirror_items (map frame_range_of (drop l.mirror-index l.mirrors)))
      l.fn.memblock.journal.items l.memblock.journal.items;
  begun : HasFirstItem l.memblock.journal.items;
  goes_on : ContinuesMemblock l.fn.memblock l.memblock;
}
