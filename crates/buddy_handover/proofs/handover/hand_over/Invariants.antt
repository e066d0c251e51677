use Rattle.std.proofs.Common.{◌≡◌, ◌≤◌, ◌<◌, ℕ, get_or, take}
use Rattle.address_runs.specs.Runs.{RunOf, value_at}
use Rattle.memblock_model.specs.Labels.{LabelView}
use Rattle.memblock_ranges.specs.Tables.{records_of_head}
use Rattle.memblock_frames.specs.Frames.{OverlapOnlyBelow, frames_of_record}
use Rattle.buddy_handover.specs.BuddyView.{node_of_free_frame}
use Rattle.buddy_handover.specs.Handover.{unclaimed_frames}
use Rattle.buddy_handover.proofs.handover.hand_over.Given as goal

abbrev pub invariant-loop-i : goal.invariant-loop-i
invariant-loop-i l = record {
  few : l.next ≤ l.heads.reserved.count;
  passed : (k : ℕ) (d : RunOf LabelView) → l.i ≤ k → k < l.heads.memory.count →
      OverlapOnlyBelow (records_of_head l.store l.heads.reserved) l.next
      (frames_of_record (get_or (records_of_head l.store l.heads.memory) k d)).first;
  handed : (x : ℕ) → node_of_free_frame l.buddy x ≡
      unclaimed_frames (value_at (take l.i (records_of_head l.store l.heads.memory)))
      (value_at (records_of_head l.store l.heads.reserved)) x;
}
