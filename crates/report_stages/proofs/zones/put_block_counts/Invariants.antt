-- The text so far, followed by the counts of the orders that are left, is the counts of all orders.
-- The text's room doesn't shrink.
use Rattle.std.proofs.Common.{◌≡◌, ◌≤◌, ◌-◌, ◌++◌, vec_capacity}
use Rattle.std.specs.List.{flat_map, range_with_len}
use Rattle.buddy_handover.specs.BuddyView.{node_of_free_frame}
use Rattle.buddy_blocks.specs.BlockList.{blocks_of}
use Rattle.report_stages.specs.ZonesText.{block_count_text}
use Rattle.report_stages.proofs.zones.put_block_counts.Given as goal

abbrev pub invariant-loop-order : goal.invariant-loop-order
invariant-loop-order l =
    let counts = block_count_text (blocks_of (node_of_free_frame l.buddy)) l.span.node l.span.zone in
    record {
      text : l.text.items ++ flat_map counts (range_with_len l.order (11 - l.order))
          ≡ l.fn.text.items ++ flat_map counts (range_with_len 0 11);
      room : vec_capacity l.fn.text ≤ vec_capacity l.text;
    }
