use Rattle.std.proofs.Common.{◌≤◌, length, arith}
use Rattle.address_runs.specs.Runs.{value_at}
use Rattle.memblock_ranges.specs.Tables.{records_of_head}
use Rattle.memblock_frames.specs.Frames.{node_of_frame}
use Rattle.zone_spans.proofs.SlotLaws.{listed}
use Rattle.zone_spans.proofs.span.spans_by.Goals as goal

pub returns-in-Frames : goal.returns-in-Frames
returns-in-Frames c =
    let f = node_of_frame (value_at (records_of_head c.args.store.now c.args.heads.now.memory)) in
    let slots = c.in_ok-slots.slots in
    let few : length slots.items ≤ 3072 = let size = slots.ok.0 in omega (arith, size, c.in_ok-slots.ensures.few) in
    rw (c.in-Frames.is, ← listed f slots.items c.in_ok-slots.ensures.spans few, ← c.deref.ensures.value) c.spans_in_slots.ensures
