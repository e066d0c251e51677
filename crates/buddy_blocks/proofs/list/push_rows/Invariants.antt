use Rattle.std.proofs.Common.{◌≡◌, ◌≤◌, ◌-◌, ◌++◌}
use Rattle.buddy_blocks.specs.Frames.{Frames}
use Rattle.buddy_blocks.specs.BlockList.{blocks_from}
use Rattle.buddy_blocks.specs.Rows.{blocks_of_rows, AreCanonicalRows}
use Rattle.buddy_blocks.specs.Sets.{IsWholeNodeRun, FittingSetsBeginAt, LastRowFulfils, LastFrameIsFree}
use Rattle.buddy_blocks.proofs.LongLaws.{EndsAt}
use Rattle.buddy_blocks.proofs.list.push_rows.Given as goal

abbrev pub invariant-loop-at : goal.invariant-loop-at
invariant-loop-at l = record {
  above : l.first ≤ l.at;
  below : l.at ≤ l.end;
  start : FittingSetsBeginAt l.first l.end l.at;
  listed : (f : Frames) → IsWholeNodeRun f l.first l.end l.node
      → blocks_of_rows l.rows.items ≡ blocks_of_rows l.fn.rows.items ++ blocks_from f l.first (l.at - l.first);
  longest : (f : Frames) → IsWholeNodeRun f l.first l.end l.node → LastRowFulfils (LastFrameIsFree f) l.fn.rows.items
      → AreCanonicalRows l.fn.rows.items
      → LastRowFulfils (LastFrameIsFree f) l.rows.items × LastRowFulfils (EndsAt l.at l.end l.node) l.rows.items
      × AreCanonicalRows l.rows.items;
}

abbrev pub decreases-loop-at : goal.decreases-loop-at
decreases-loop-at l = l.end - l.at
