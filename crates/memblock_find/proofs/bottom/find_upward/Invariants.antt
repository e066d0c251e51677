use Rattle.std.proofs.Common.{◌-◌, ◌^◌, ◌≤◌, max}
use Rattle.address_runs.specs.Runs.{value_at}
use Rattle.memblock_find.specs.Places.{NoPlaceBeginsBetween}
use Rattle.memblock_find.specs.Walk.{IsWalkUpAt}
use Rattle.memblock_find.proofs.bottom.find_upward.Given as goal

-- no place begins below the cursor
abbrev pub invariant-loop-cursor : goal.invariant-loop-cursor
invariant-loop-cursor l = record {
  walk : IsWalkUpAt l.lists.memory l.lists.reserved l.cursor;
  window : max l.query.lo 4096 ≤ l.cursor.at;
  past : NoPlaceBeginsBetween l.mirror (value_at l.lists.memory) (value_at l.lists.reserved) l.query (max l.query.lo 4096) l.cursor.at;
}

abbrev pub decreases-loop-cursor : goal.decreases-loop-cursor
decreases-loop-cursor l = 2 ^ 64 - l.cursor.at
