-- The call appends the lines of 4 GiB, and then turns the lines in memory into those of the next 4
-- GiB.
use Rattle.std.proofs.Common.{◌≡◌, ◌∙◌, ◌++◌, ap, arith}
use Rattle.buddy_blocks.specs.declared.block.BlockRow.{BlockRow}
use Rattle.report_memory.proofs.PutLaws.{text_end, text_more}
use Rattle.report_stages.proofs.BatchLaws.{batch_size_of, batch_then, rest_batch, rest_fill}
use Rattle.report_stages.proofs.RowLaws.{no_lines}
use Rattle.report_stages.proofs.batches.put_row_in_batches.Goals as goal

pub overflow_add-first : goal.overflow_add-first
overflow_add-first c = let end = c.loop-left.invariant.fill.end in omega (arith, end)

pub overflow_sub-left : goal.overflow_sub-left
overflow_sub-left c = let whole = c.loop-left.invariant.fill.count in omega (arith, whole)

pub overwrite_batch_addresses-requires-clause-small : goal.overwrite_batch_addresses-requires-clause-small
overwrite_batch_addresses-requires-clause-small c = let end = c.loop-left.invariant.fill.end in omega (arith, end)

pub overwrite_batch_addresses-requires-clause-whole : goal.overwrite_batch_addresses-requires-clause-whole
overwrite_batch_addresses-requires-clause-whole c =
    let l = c.loop-left in
    (batch_size_of (record c.args.row.now { first = l.first; count = l.left }) l.lines.items l.invariant.fill l.invariant.lines).0

pub overwrite_batch_addresses-requires-clause-long : goal.overwrite_batch_addresses-requires-clause-long
overwrite_batch_addresses-requires-clause-long c =
    let l = c.loop-left in
    (batch_size_of (record c.args.row.now { first = l.first; count = l.left }) l.lines.items l.invariant.fill l.invariant.lines).1

pub loop-left-preserved : goal.loop-left-preserved
loop-left-preserved c =
    let l = c.loop-left in
    let row : BlockRow = record c.args.row.now { first = l.first; count = l.left } in
    record {
      fill = rest_fill row l.invariant.fill (omega arith);
      lines = rest_batch row l.lines.items c.overwrite_batch_addresses.new.batch.items l.invariant.fill
          (omega arith) l.invariant.lines c.overwrite_batch_addresses.ensures;
      text = text_more _ _ _ _ _ _ (batch_then row l.invariant.fill (omega arith)) l.invariant.text
          (c.in_ok-put_text.ensures.puts.0 ∙ ap (λ t. l.text.items ++ t) (c.deref.ensures.value ∙ l.invariant.lines));
    }

pub returns : goal.returns
returns c =
    let l = c.loop-left in
    text_end _ _ _ (no_lines _ _ _ _ _ (omega arith)) l.invariant.text
