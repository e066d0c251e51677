use Rattle.std.proofs.Common.{◌≤◌, None}
use Rattle.address_runs.specs.Runs.{value_at}
use Rattle.address_runs.specs.Sweep.{HasValueBetween}
use Rattle.memblock_find.specs.Unclaimed.{unclaimed_memory}
use Rattle.memblock_find.specs.Walk.{IsWalkDownAt}
use Rattle.memblock_find.proofs.free.prev_free_in_readers.Given as goal

-- nothing above the cursor is unclaimed memory
abbrev pub invariant-loop-cursor : goal.invariant-loop-cursor
invariant-loop-cursor l = record {
  walk : IsWalkDownAt l.lists.memory l.lists.reserved l.cursor;
  order : l.cursor.at ≤ l.below;
  after : HasValueBetween (unclaimed_memory (value_at l.lists.memory) (value_at l.lists.reserved)) l.cursor.at l.below None;
}

abbrev pub decreases-loop-cursor : goal.decreases-loop-cursor
decreases-loop-cursor l = l.cursor.at
