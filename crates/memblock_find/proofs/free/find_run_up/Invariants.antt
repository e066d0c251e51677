use Rattle.std.proofs.Common.{◌-◌, ◌^◌, ◌≤◌, None}
use Rattle.address_runs.specs.Runs.{value_at}
use Rattle.address_runs.specs.Sweep.{HasValueBetween}
use Rattle.memblock_find.specs.Unclaimed.{unclaimed_memory}
use Rattle.memblock_find.specs.Walk.{IsWalkUpAt}
use Rattle.memblock_find.proofs.free.find_run_up.Given as goal

-- nothing below the cursor is unclaimed memory
abbrev pub invariant-loop-cursor : goal.invariant-loop-cursor
invariant-loop-cursor l = record {
  walk : IsWalkUpAt l.lists.memory l.lists.reserved l.cursor;
  order : l.fn.from.at ≤ l.cursor.at;
  before : HasValueBetween (unclaimed_memory (value_at l.lists.memory) (value_at l.lists.reserved)) l.fn.from.at l.cursor.at None;
}

abbrev pub decreases-loop-cursor : goal.decreases-loop-cursor
decreases-loop-cursor l = 2 ^ 64 - l.cursor.at
