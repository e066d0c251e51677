-- The sequence ends as the groups that remain end.
use Rattle.std.proofs.Common.{◌≤◌, ◌+◌, ◌^◌, length, vec_len, vec_capacity}
use Rattle.growth_model.specs.Tables.{HasFirstItem}
use Rattle.memblock_grow.specs.Continues.{ContinuesMemblock}
use Rattle.section_maps.proofs.GroupLaws.{Goes}
use Rattle.section_maps.proofs.maps.place_maps.Given as goal

abbrev pub invariant-loop-rest : goal.invariant-loop-rest
invariant-loop-rest l = record {
  goes : Goes l.fn.memblock.journal.items l.sections l.memblock.journal.items l.placed.items l.rest;
  few : length l.rest ≤ 2 ^ 32;
  room : vec_len l.placed + length l.rest ≤ vec_capacity l.placed;
  begun : HasFirstItem l.memblock.journal.items;
  goes_on : ContinuesMemblock l.fn.memblock l.memblock;
}

abbrev pub decreases-loop-rest : goal.decreases-loop-rest
decreases-loop-rest l = length l.rest
