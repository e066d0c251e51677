use Rattle.std.proofs.Common.{◌≡◌, ◌++◌, ◌-◌}
use Rattle.buddy_blocks.specs.Frames.{Frames}
use Rattle.zone_spans.specs.Slots.{SlotsHoldSpans}
use Rattle.zone_spans.specs.Hull.{hull_spans_from, hull_spans_of}
use Rattle.zone_spans.proofs.hull.hull_spans_in_slots.Given as goal

abbrev pub invariant-loop-node : goal.invariant-loop-node
invariant-loop-node l =
    (f : Frames) → SlotsHoldSpans f l.slots → l.spans.items ++ hull_spans_from f l.node (1024 - l.node) ≡ hull_spans_of f
