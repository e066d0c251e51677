use Rattle.std.proofs.Common.{◌≡◌, ◌≤◌, ◌-◌, ℕ}
use Rattle.address_runs.specs.Runs.{value_at}
use Rattle.memblock_ranges.specs.Tables.{records_of_head}
use Rattle.memblock_frames.specs.Frames.{OverlapOnlyBelow}
use Rattle.buddy_handover.specs.BuddyView.{node_of_free_frame}
use Rattle.buddy_handover.specs.Handover.{free_unclaimed_frames}
use Rattle.buddy_handover.proofs.handover.free_unclaimed.Given as goal

abbrev pub invariant-loop-at : goal.invariant-loop-at
invariant-loop-at l = record {
  above : l.first ≤ l.at;
  below : l.at ≤ l.end;
  few : l.next ≤ l.reserved.count;
  passed : OverlapOnlyBelow (records_of_head l.store l.reserved) l.next l.at;
  freed : (x : ℕ)
      → node_of_free_frame l.buddy x
      ≡ free_unclaimed_frames l.first l.at l.node (value_at (records_of_head l.store l.reserved)) (node_of_free_frame l.fn.buddy) x;
}

abbrev pub decreases-loop-at : goal.decreases-loop-at
decreases-loop-at l = l.end - l.at
