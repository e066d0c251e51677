-- The blocks of the free frames are aligned and below the limit, and their number fits in 64 bits.
use Rattle.std.proofs.Common.{◌≡◌, ◌∙◌, ℕ, length, refl, arith}
use Rattle.buddy_blocks.specs.BlockList.{blocks_of}
use Rattle.buddy_handover.specs.BuddyView.{node_of_free_frame}
use Rattle.report_stages.proofs.BlockLaws.{listed_few, listed_in_bounds}
use Rattle.report_stages.proofs.RowLaws.{bounds_placed}
use Rattle.report_stages.proofs.blocks.put_blocks.Goals as goal

pub count_blocks-requires : goal.count_blocks-requires
count_blocks-requires c =
    let few = listed_few (node_of_free_frame c.args.buddy.now) in
    rw (c.deref.ensures.value, c.in_ok-rows.ensures.blocks) (omega (arith, few))

pub overflow_mul-count_blocks : goal.overflow_mul-count_blocks
overflow_mul-count_blocks c =
    let few = listed_few (node_of_free_frame c.args.buddy.now) in
    let count : c.count_blocks.result ≡ length (blocks_of (node_of_free_frame c.args.buddy.now)) =
    c.count_blocks.ensures ∙ rw (c.deref.ensures.value, c.in_ok-rows.ensures.blocks) refl in
    omega (arith, few, count)

pub put_rows-requires : goal.put_rows-requires
put_rows-requires c =
    let placed = bounds_placed _ (listed_in_bounds (node_of_free_frame c.args.buddy.now)) in
    rw (c.deref-2.ensures.value, c.in_ok-rows.ensures.blocks) placed
