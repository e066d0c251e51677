use Rattle.std.proofs.Common.{◌≡◌, ◌++◌, drop}
use Rattle.zone_spans.specs.Slots.{spans_in_slots}
use Rattle.zone_spans.proofs.slots.spans_in_slots.Given as goal

abbrev pub invariant-loop-slot : goal.invariant-loop-slot
invariant-loop-slot l = l.spans.items ++ spans_in_slots (drop l.slot-index l.slots) ≡ spans_in_slots l.slots
