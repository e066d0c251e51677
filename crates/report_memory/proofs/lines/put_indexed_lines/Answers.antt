-- The call appends the line of the next element, or there is no element left.
use Rattle.std.proofs.Common.{arith}
use Rattle.std.proofs.lemmas.Result.{err_from_is_err_and}
use Rattle.report_memory.proofs.LineLaws.{lines_at, lines_end}
use Rattle.report_memory.proofs.PutLaws.{text_end, text_more, too_small}
use Rattle.report_memory.proofs.lines.put_indexed_lines.Goals as goal

pub returns-in_err-put-clause-puts : goal.returns-in_err-put-clause-puts
returns-in_err-put-clause-puts g c = λ line says.
    let so_far = c.loop-index.invariant.puts line says in
    let item = c.index-items-index in
    rw (err_from_is_err_and c.from_residual.result c.from_residual.ensures.1).1
    (too_small _ _ _ _ _ _ _ _ (lines_at line c.args.items.now c.loop-index.index item.result _ item.is c.loop-index-test.true)
    so_far.0 so_far.1 (says _ _ _ _ _ c.in_err-put.ensures))

pub loop-index-preserved : goal.loop-index-preserved
loop-index-preserved g c =
    let item = c.index-items-index in
    record {
      lines = λ line says.
          text_more _ _ _ _ _ _ (lines_at line c.args.items.now c.loop-index.index item.result _ item.is c.loop-index-test.true)
          (c.loop-index.invariant.lines line says) (says _ _ _ _ _ c.in_ok-put.ensures);
      puts = λ line says.
          let so_far = c.loop-index.invariant.puts line says in
          let put = says _ _ _ _ _ c.in_ok-put.ensures in (
            text_more _ _ _ _ _ _ (lines_at line c.args.items.now c.loop-index.index item.result _ item.is c.loop-index-test.true)
                so_far.0 put.0,
            omega (arith, so_far.1, put.1),
          );
    }

pub returns-clause-lines : goal.returns-clause-lines
returns-clause-lines g c = λ line says.
    text_end _ _ _ (lines_end line c.args.items.now c.loop-index.index c.loop-index-test.false) (c.loop-index.invariant.lines line says)

pub returns-clause-puts : goal.returns-clause-puts
returns-clause-puts g c = λ line says.
    let so_far = c.loop-index.invariant.puts line says in
    (text_end _ _ _ (lines_end line c.args.items.now c.loop-index.index c.loop-index-test.false) so_far.0, so_far.1)
