-- Each turn of the loop adds the frames of one more order.
use Rattle.std.proofs.Common.{◌≡◌, ◌+◌, ◌∙◌, sym, arith}
use Rattle.buddy_blocks.specs.BlockList.{blocks_of}
use Rattle.buddy_handover.specs.BuddyView.{node_of_free_frame}
use Rattle.report_stages.proofs.ZoneLaws.{all_counted, counted_few, next_frames, none_below}
use Rattle.report_stages.proofs.zones.free_frames_in_zone.Goals as goal

pub loop-order-init : goal.loop-order-init
loop-order-init c = sym (none_below c.args.node c.args.zone (blocks_of (node_of_free_frame c.args.buddy.now)))

pub overflow_add-frames : goal.overflow_add-frames
overflow_add-frames c =
    let f = node_of_free_frame c.args.buddy.now in
    let sum = next_frames f c.args.node c.args.zone c.loop-order.order _ _ c.loop-order.invariant c.count.ensures in
    let few = counted_few f c.args.node c.args.zone (c.loop-order.order + 1) in
    omega (arith, sum, few)

pub loop-order-preserved : goal.loop-order-preserved
loop-order-preserved c =
    next_frames (node_of_free_frame c.args.buddy.now) c.args.node c.args.zone c.loop-order.order _ _ c.loop-order.invariant c.count.ensures

pub returns : goal.returns
returns c =
    let f = node_of_free_frame c.args.buddy.now in
    let end : c.loop-order.order ≡ 11 = omega arith in
    c.loop-order.invariant ∙ rw end (all_counted f c.args.node c.args.zone)
