-- The number so far is that of the frames in blocks of the orders so far.
use Rattle.std.proofs.Common.{◌≡◌}
use Rattle.buddy_handover.specs.BuddyView.{node_of_free_frame}
use Rattle.buddy_blocks.specs.BlockList.{blocks_of}
use Rattle.report_stages.proofs.ZoneLaws.{frames_below}
use Rattle.report_stages.proofs.zones.free_frames_in_zone.Given as goal

abbrev pub invariant-loop-order : goal.invariant-loop-order
invariant-loop-order l = l.frames ≡ frames_below l.node l.zone l.order (blocks_of (node_of_free_frame l.buddy))
