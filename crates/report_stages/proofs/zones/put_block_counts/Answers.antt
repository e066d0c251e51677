-- Each turn of the loop appends the count of one more order.
use Rattle.std.proofs.Common.{arith}
use Rattle.std.proofs.lemmas.Result.{err_from_is_err_and}
use Rattle.buddy_handover.specs.BuddyView.{node_of_free_frame}
use Rattle.report_memory.proofs.PutLaws.{text_more, too_small}
use Rattle.report_stages.specs.ZonesText.{block_counts_text}
use Rattle.report_stages.proofs.ZoneLaws.{next_number}
use Rattle.report_stages.proofs.zones.put_block_counts.Goals as goal

pub returns-in_err-put_block_count : goal.returns-in_err-put_block_count
unfolding block_counts_text
returns-in_err-put_block_count c =
    let span = c.args.span.now in
    let l = c.loop-order in
    rw (err_from_is_err_and c.from_residual.result c.from_residual.ensures.1).1
    (too_small _ _ _ _ _ _ _ _
    (next_number (node_of_free_frame c.args.buddy.now) span.node span.zone l.order _ (omega arith) c.count.ensures)
    l.invariant.text l.invariant.room c.in_err-put_block_count.ensures)

pub loop-order-preserved : goal.loop-order-preserved
loop-order-preserved c =
    let span = c.args.span.now in
    let l = c.loop-order in
    let put = c.in_ok-put_block_count.ensures in
    record {
      text = text_more _ _ _ _ _ _
          (next_number (node_of_free_frame c.args.buddy.now) span.node span.zone l.order _ (omega arith) c.count.ensures)
          l.invariant.text put.0;
      room = omega (arith, put.1);
    }
