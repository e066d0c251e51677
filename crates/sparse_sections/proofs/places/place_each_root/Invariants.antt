-- The sequence ends as the roots of the remaining sections end.
use Rattle.std.proofs.Common.{◌≤◌, ◌+◌, drop, length, vec_len, vec_capacity}
use Rattle.growth_model.specs.Tables.{HasFirstItem}
use Rattle.memblock_grow.specs.Continues.{ContinuesMemblock}
use Rattle.sparse_sections.proofs.RootLaws.{Goes}
use Rattle.sparse_sections.proofs.places.place_each_root.Given as goal

abbrev pub invariant-loop-section : goal.invariant-loop-section
invariant-loop-section l = record {
  goes : Goes l.fn.memblock.journal.items l.sections l.memblock.journal.items l.roots.items l.last (drop l.section-index l.sections);
  room : vec_len l.roots + length l.sections ≤ vec_capacity l.roots + l.section-index;
  begun : HasFirstItem l.memblock.journal.items;
  goes_on : ContinuesMemblock l.fn.memblock l.memblock;
}
