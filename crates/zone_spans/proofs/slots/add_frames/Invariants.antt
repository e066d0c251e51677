use Rattle.std.proofs.Common.{◌≤◌, ◌-◌, vec_len}
use Rattle.address_runs.specs.Edits.{IsEmptyFrom}
use Rattle.buddy_blocks.specs.Frames.{Frames}
use Rattle.zone_spans.specs.Slots.{SlotsHoldSpans, SpansHaveAtMost, frames_with_node_run}
use Rattle.zone_spans.proofs.slots.add_frames.Given as goal

abbrev pub invariant-loop-at : goal.invariant-loop-at
invariant-loop-at l = record {
  above : l.first ≤ l.at;
  below : l.at ≤ l.end;
  few : vec_len l.slots ≤ 3072;
  bounded : SpansHaveAtMost l.at l.slots.items;
  told : (f : Frames) → IsEmptyFrom l.first f → SlotsHoldSpans f l.fn.slots.items
      → SlotsHoldSpans (frames_with_node_run l.first l.at l.node f) l.slots.items;
}

abbrev pub decreases-loop-at : goal.decreases-loop-at
decreases-loop-at l = l.end - l.at
