-- The calls append the lines of both tables one after another.
use Rattle.memblock_model.specs.declared.owner.Which.TheVariants as which
use Rattle.report_memory.specs.TablesText.{table_line}
use Rattle.report_memory.proofs.PutLaws.{goes_on}
use Rattle.report_memory.proofs.tables.put_tables.Goals as goal

pub returns : goal.returns
returns c =
    let first = c.in_ok-put_table_line.ensures in
    goes_on c.args.text.now c.put_table_line.new.text c.put_table_line-2.new.text c.put_table_line-2.result
    (table_line which.Memory c.args.heads.now.memory) (table_line which.Reserved c.args.heads.now.reserved)
    c.put_table_line-2.ensures first.0 first.1
