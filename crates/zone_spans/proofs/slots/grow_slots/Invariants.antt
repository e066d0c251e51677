use Rattle.std.proofs.Common.{◌≡◌, ◌≤◌, ◌-◌, ℕ, None, get_or, max, vec_len}
use Rattle.zone_spans.proofs.slots.grow_slots.Given as goal

abbrev pub invariant-loop-slots : goal.invariant-loop-slots
invariant-loop-slots l = record {
  same : (i : ℕ) → get_or l.slots.items i None ≡ get_or l.fn.slots.items i None;
  few : vec_len l.slots ≤ max (vec_len l.fn.slots) l.count;
}

abbrev pub decreases-loop-slots : goal.decreases-loop-slots
decreases-loop-slots l = l.count - vec_len l.slots
