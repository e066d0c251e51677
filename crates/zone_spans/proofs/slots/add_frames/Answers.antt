use Rattle.std.proofs.Common.{arith}
use Rattle.zone_spans.specs.Slots.{frames_with_node_run}
use Rattle.zone_spans.proofs.SlotLaws.{told_more, bounded_more, run_parts, nothing_after}
use Rattle.zone_spans.proofs.slots.add_frames.Goals as goal

pub loop-at-preserved : goal.loop-at-preserved
loop-at-preserved c =
    let n = c.args.node in
    let at = c.loop-at.at in
    let until = c.zone_until-until.result in
    let e = c.zone_until-until.ensures in
    let put = c.in_ok-add_zone_frames.ensures.slots in
    let old = c.loop-at.slots.items in
    let new = c.add_zone_frames.new.slots.items in
    record {
      above = omega arith;
      below = e.within;
      few = c.in_ok-add_zone_frames.ensures.few;
      bounded = bounded_more n at until c.zone_of.result old new (omega arith) c.loop-at.invariant.bounded put;
      told = λ f nothing told.
          rw (run_parts c.args.first at until n f (omega arith) (omega arith))
          at (told_more (frames_with_node_run c.args.first at n f) n at until c.zone_of.result old new
          (nothing_after c.args.first at n f (omega arith) nothing) e.some (omega arith) (rw c.zone_of.ensures e.zone)
          (c.loop-at.invariant.told f nothing told) put);
    }
