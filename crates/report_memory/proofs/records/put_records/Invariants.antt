-- The text so far and the lines of the records that are left are together the whole text. The
-- text's room doesn't shrink.
use Rattle.std.proofs.Common.{◌≡◌, ◌≤◌, ◌++◌, drop, vec_capacity}
use Rattle.memblock_ranges.specs.Tables.{records_of_head}
use Rattle.report_memory.specs.Lines.{indexed_lines}
use Rattle.report_memory.specs.RecordsText.{record_line, records_text}
use Rattle.report_memory.proofs.records.put_records.Given as goal

abbrev pub invariant-loop-index : goal.invariant-loop-index
invariant-loop-index l = record {
  lines : l.text.items ++ indexed_lines record_line l.index (drop l.index (records_of_head l.store l.head))
      ≡ l.fn.text.items ++ records_text (records_of_head l.store l.head);
  room : vec_capacity l.fn.text ≤ vec_capacity l.text;
}
