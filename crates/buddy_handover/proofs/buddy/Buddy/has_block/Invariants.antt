-- None of the orders so far has a block.
use Rattle.std.proofs.Common.{◌≡◌, ◌-◌, ◌≤◌}
use Rattle.buddy_blocks.specs.PickedBlock.{picked_block_from}
use Rattle.buddy_handover.specs.BuddyView.{node_of_free_frame}
use Rattle.buddy_handover.proofs.buddy.Buddy.has_block.Given as goal

abbrev pub invariant-loop-at : goal.invariant-loop-at
invariant-loop-at l = record {
  until : l.at ≤ 11;
  passed : picked_block_from (node_of_free_frame l.self) l.node l.zone l.at (11 - l.at)
      ≡ picked_block_from (node_of_free_frame l.self) l.node l.zone l.order (11 - l.order);
}
