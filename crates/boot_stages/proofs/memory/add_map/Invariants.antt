-- The items of all runs before this one were carried out. The items that remain are those of the
-- remaining runs.
use Rattle.std.proofs.Common.{drop}
use Rattle.address_runs.specs.Runs.{AreRuns}
use Rattle.growth_model.specs.Tables.{HasFirstItem}
use Rattle.early_memory.specs.FirstItems.{items_of_map}
use Rattle.memblock_grow.specs.Continues.{ContinuesMemblock}
use Rattle.boot_stages.proofs.ItemsLaws.{Leaves}
use Rattle.boot_stages.proofs.memory.add_map.Given as goal

abbrev pub invariant-loop-run : goal.invariant-loop-run
invariant-loop-run l = record {
  left : Leaves (items_of_map l.reach l.map) (items_of_map l.reach (drop l.run-index l.map)) l.fn.memblock.journal.items
      l.memblock.journal.items;
  runs : AreRuns (drop l.run-index l.map);
  begun : HasFirstItem l.memblock.journal.items;
  goes_on : ContinuesMemblock l.fn.memblock l.memblock;
}
