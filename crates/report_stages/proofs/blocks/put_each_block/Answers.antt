use Rattle.std.proofs.Common.{◌≡◌, ◌+◌, ◌-◌, ◌*◌, ◌%◌, ◌^◌, refl, ap, arith}
use Rattle.std.proofs.lemmas.Result.{err_from_is_err_and}
use Rattle.buddy_blocks.specs.Rows.{row_from}
use Rattle.report_memory.proofs.PutLaws.{text_more, too_small}
use Rattle.report_stages.specs.BlocksText.{block_line}
use Rattle.report_stages.proofs.RowLaws.{first_placed, lines, next_line, none_more, rest_placed, size_is}
use Rattle.report_stages.proofs.blocks.put_each_block.Goals as goal

pub put_block_line-requires : goal.put_block_line-requires
put_block_line-requires c =
    let r = c.args.row.now in
    let l = c.loop-left in
    (first_placed r.order l.first r.node l.left r.zone l.invariant.low (omega arith)).1

pub returns-in_err-put_block_line : goal.returns-in_err-put_block_line
returns-in_err-put_block_line c =
    let r = c.args.row.now in
    let l = c.loop-left in
    rw (err_from_is_err_and c.from_residual.result c.from_residual.ensures.1).1
    (too_small _ _ (block_line 0 (record { order = r.order; first = l.first; node = r.node; zone = r.zone })) _
    (lines (row_from r.order (l.first + 2 ^ r.order) r.node r.zone (l.left - 1))) _ _ _
    (next_line r.order l.first r.node l.left (l.first + 2 ^ r.order) r.zone (omega arith) refl) l.invariant.text l.invariant.room
    c.in_err-put_block_line.ensures)

pub overflow_shl-first : goal.overflow_shl-first
overflow_shl-first c =
    let r = c.args.row.now in
    let l = c.loop-left in
    let at = first_placed r.order l.first r.node l.left r.zone l.invariant.low (omega arith) in
    omega (arith, at.0)

pub overflow_add-first : goal.overflow_add-first
overflow_add-first c =
    let r = c.args.row.now in
    let l = c.loop-left in
    let at = first_placed r.order l.first r.node l.left r.zone l.invariant.low (omega arith) in
    let size = size_is r.order at.0 in
    omega (arith, size.0, size.1, at.1)

pub loop-left-preserved : goal.loop-left-preserved
loop-left-preserved c =
    let r = c.args.row.now in
    let l = c.loop-left in
    let at = first_placed r.order l.first r.node l.left r.zone l.invariant.low (omega arith) in
    let next : l.first + 1 * 2 ^ r.order % 18446744073709551616 ≡ l.first + 2 ^ r.order = ap (λ s. l.first + s) (size_is r.order at.0).0 in
    let put = c.in_ok-put_block_line.ensures in
    record {
      low = rw next (rest_placed r.order l.first r.node l.left r.zone l.invariant.low (omega arith));
      text = text_more _ _ _ _ _ _ (next_line r.order l.first r.node l.left _ r.zone (omega arith) next) l.invariant.text put.0;
      room = omega (arith, put.1);
    }

pub returns : goal.returns
returns c =
    let r = c.args.row.now in
    let l = c.loop-left in
    (none_more r.order l.first r.node l.left r.zone _ _ (omega arith) l.invariant.text, l.invariant.room)
