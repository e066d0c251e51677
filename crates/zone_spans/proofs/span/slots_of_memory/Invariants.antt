use Rattle.std.proofs.Common.{◌≤◌, ◌<◌, ℕ, get_or, take, vec_len}
use Rattle.address_runs.specs.Runs.{RunOf, value_at}
use Rattle.memblock_model.specs.Labels.{LabelView}
use Rattle.memblock_ranges.specs.Tables.{records_of_head}
use Rattle.memblock_frames.specs.Frames.{node_of_frame, frames_of_record}
use Rattle.zone_spans.specs.Slots.{SlotsHoldSpans, SpansHaveAtMost}
use Rattle.zone_spans.proofs.span.slots_of_memory.Given as goal

abbrev pub invariant-loop-i : goal.invariant-loop-i
invariant-loop-i l = record {
  few : vec_len l.slots ≤ 3072;
  bounded : (k : ℕ) (d : RunOf LabelView) → l.i ≤ k → k < l.heads.memory.count →
      SpansHaveAtMost (frames_of_record (get_or (records_of_head l.store l.heads.memory) k d)).first l.slots.items;
  told : SlotsHoldSpans (node_of_frame (value_at (take l.i (records_of_head l.store l.heads.memory)))) l.slots.items;
}
