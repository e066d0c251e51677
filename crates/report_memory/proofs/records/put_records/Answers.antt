-- No record is empty, and the line of a record is the next line of the report.
use Rattle.std.proofs.Common.{arith}
use Rattle.std.proofs.lemmas.Result.{err_from_is_err_and}
use Rattle.memblock_ranges.specs.Tables.{records_of_head}
use Rattle.memblock_ranges.proofs.LentLaws.{count_is}
use Rattle.memblock_frames.proofs.RecordLaws.{region_fits}
use Rattle.report_memory.specs.RecordsText.{record_line}
use Rattle.report_memory.proofs.LineLaws.{lines_end}
use Rattle.report_memory.proofs.PutLaws.{text_end, text_more, too_small}
use Rattle.report_memory.proofs.RecordLaws.{next_line}
use Rattle.report_memory.proofs.records.put_records.Goals as goal

pub put_record_line-requires-clause-some : goal.put_record_line-requires-clause-some
put_record_line-requires-clause-some c =
    (region_fits c.args.store.now c.args.head.now c.loop-index.index _ c.requires (omega arith) c.region_at.ensures).0

pub put_record_line-requires-clause-within : goal.put_record_line-requires-clause-within
put_record_line-requires-clause-within c =
    (region_fits c.args.store.now c.args.head.now c.loop-index.index _ c.requires (omega arith) c.region_at.ensures).1

pub returns-in_err-put_record_line : goal.returns-in_err-put_record_line
returns-in_err-put_record_line c =
    rw (err_from_is_err_and c.from_residual.result c.from_residual.ensures.1).1
    (too_small _ _ _ _ _ _ _ _ (next_line c.args.store.now c.args.head.now c.loop-index.index _ (omega arith) c.region_at.ensures)
    c.loop-index.invariant.lines c.loop-index.invariant.room c.in_err-put_record_line.ensures)

pub loop-index-preserved : goal.loop-index-preserved
loop-index-preserved c =
    let put = c.in_ok-put_record_line.ensures in
    record {
      lines = text_more _ _ _ _ _ _ (next_line c.args.store.now c.args.head.now c.loop-index.index _ (omega arith) c.region_at.ensures)
          c.loop-index.invariant.lines put.0;
      room = omega (arith, put.1);
    }

pub returns : goal.returns
returns c =
    let rs = records_of_head c.args.store.now c.args.head.now in
    let long = count_is c.args.store.now c.args.head.now in
    let none = lines_end record_line rs c.loop-index.index (omega (arith, long)) in
    (text_end _ _ _ none c.loop-index.invariant.lines, c.loop-index.invariant.room)
