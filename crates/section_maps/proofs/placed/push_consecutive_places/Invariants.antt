-- The sections so far follow those that were in the list.
use Rattle.std.proofs.Common.{◌≡◌, ◌≤◌, ◌+◌, ◌++◌, take, vec_len, vec_capacity}
use Rattle.section_maps.specs.Maps.{consecutive_places}
use Rattle.section_maps.proofs.placed.push_consecutive_places.Given as goal

abbrev pub invariant-loop-i : goal.invariant-loop-i
invariant-loop-i l = record {
  placed : l.placed.items ≡ l.fn.placed.items ++ consecutive_places l.usage l.map (take l.i l.sections);
  len : vec_len l.placed ≤ vec_len l.fn.placed + l.i;
  capacity : vec_capacity l.fn.placed ≤ vec_capacity l.placed;
}
