use Rattle.std.proofs.Common.{◌≤◌}
use Rattle.address_runs.specs.Runs.{value_at}
use Rattle.memblock_find.specs.Places.{NoPlaceEndsBetween}
use Rattle.memblock_find.specs.Walk.{IsWalkDownAt}
use Rattle.memblock_find.proofs.node.find_restricted_downward.Given as goal

-- no place ends above the cursor
abbrev pub invariant-loop-cursor : goal.invariant-loop-cursor
invariant-loop-cursor l = record {
  walk : IsWalkDownAt l.lists.memory l.lists.reserved l.cursor;
  window : l.cursor.at ≤ l.query.hi;
  past : NoPlaceEndsBetween l.mirror (value_at l.lists.memory) (value_at l.lists.reserved) l.query l.cursor.at l.query.hi;
}

abbrev pub decreases-loop-cursor : goal.decreases-loop-cursor
decreases-loop-cursor l = l.cursor.at
