use Rattle.std.proofs.Common.{◌≡◌, ◌≤◌, ◌-◌, ◌++◌}
use Rattle.buddy_blocks.specs.Frames.{Frames}
use Rattle.buddy_blocks.specs.BlockList.{blocks_from}
use Rattle.buddy_blocks.specs.Sets.{IsWholeNodeRun, FittingSetsBeginAt}
use Rattle.buddy_blocks.proofs.list.push_blocks.Given as goal

abbrev pub invariant-loop-at : goal.invariant-loop-at
invariant-loop-at l = record {
  above : l.first ≤ l.at;
  below : l.at ≤ l.end;
  start : FittingSetsBeginAt l.first l.end l.at;
  listed : (f : Frames) → IsWholeNodeRun f l.first l.end l.node
      → l.blocks.items ≡ l.fn.blocks.items ++ blocks_from f l.first (l.at - l.first);
}

abbrev pub decreases-loop-at : goal.decreases-loop-at
decreases-loop-at l = l.end - l.at
