-- The sequence ends as the maps that remain end.
use Rattle.std.proofs.Common.{◌≡◌, ◌≤◌, ◌+◌, ◌*◌, drop, vec_len, vec_capacity}
use Rattle.growth_model.specs.Tables.{HasFirstItem}
use Rattle.memblock_grow.specs.Continues.{ContinuesMemblock}
use Rattle.section_maps.proofs.MapLaws.{Goes}
use Rattle.section_maps.proofs.each.place_each_map.Given as goal

abbrev pub invariant-loop-section : goal.invariant-loop-section
invariant-loop-section l = record {
  goes : Goes l.fn.memblock.journal.items l.usage l.fn.placed.items l.sections l.memblock.journal.items l.at l.placed.items (drop
      l.section-index l.sections);
  usages : l.at ≡ l.usage + 40 * l.section-index;
  len : vec_len l.placed ≤ vec_len l.fn.placed + l.section-index;
  capacity : vec_capacity l.fn.placed ≤ vec_capacity l.placed;
  begun : HasFirstItem l.memblock.journal.items;
  goes_on : ContinuesMemblock l.fn.memblock l.memblock;
}
