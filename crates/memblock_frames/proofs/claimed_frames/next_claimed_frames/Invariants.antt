use Rattle.std.proofs.Common.{◌≤◌, ◌-◌}
use Rattle.memblock_ranges.specs.Tables.{records_of_head}
use Rattle.memblock_frames.specs.Frames.{OverlapOnlyBelow}
use Rattle.memblock_frames.proofs.claimed_frames.next_claimed_frames.Given as goal

abbrev pub invariant-loop-i : goal.invariant-loop-i
invariant-loop-i l = record {
  few : l.i ≤ l.head.count;
  forward : l.index ≤ l.i;
  passed : OverlapOnlyBelow (records_of_head l.store l.head) l.i l.at;
}

abbrev pub decreases-loop-i : goal.decreases-loop-i
decreases-loop-i l = l.head.count - l.i
