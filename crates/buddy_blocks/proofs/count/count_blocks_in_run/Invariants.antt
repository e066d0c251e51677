use Rattle.std.proofs.Common.{◌≡◌, ◌≤◌, ◌-◌, ℕ}
use Rattle.std.specs.List.{count_by}
use Rattle.buddy_blocks.specs.Frames.{Frames}
use Rattle.buddy_blocks.specs.BlockList.{blocks_from, is_block_of}
use Rattle.buddy_blocks.specs.Sets.{IsWholeNodeRun, FittingSetsBeginAt}
use Rattle.buddy_blocks.proofs.count.count_blocks_in_run.Given as goal

abbrev pub invariant-loop-at : goal.invariant-loop-at
invariant-loop-at l = record {
  above : l.first ≤ l.at;
  below : l.at ≤ l.end;
  few : l.total ≤ l.at - l.first;
  start : FittingSetsBeginAt l.first l.end l.at;
  counted : (f : Frames) (n : ℕ) → IsWholeNodeRun f l.first l.end n
      → l.total ≡ count_by (is_block_of n l.zone l.order) (blocks_from f l.first (l.at - l.first));
}

abbrev pub decreases-loop-at : goal.decreases-loop-at
decreases-loop-at l = l.end - l.at
