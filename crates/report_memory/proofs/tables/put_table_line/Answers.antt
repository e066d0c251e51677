-- The calls append the parts of the line one after another.
use Rattle.std.proofs.Common.{◌++◌, codes, decimal, arith}
use Rattle.std.proofs.lemmas.Grind.{common_steps}
use Rattle.bm_base.specs.Text.{hex_text}
use Rattle.report_memory.specs.OwnersText.{memblock_table_name}
use Rattle.report_memory.proofs.PutLaws.{goes_on}
use Rattle.report_memory.proofs.tables.put_table_line.Goals as goal

pub returns : goal.returns
returns c =
    let head = c.args.head.now in
    goes_on c.args.text.now c.put_dec-2.new.out c.put_text-5.new.out c.put_text-5.result
    (memblock_table_name c.args.which ++ codes " place " ++ hex_text head.place ++ codes " room " ++ decimal head.room ++ codes " records "
    ++ decimal head.count) (codes "\n") c.put_text-5.ensures.puts (grind (arith, common_steps)) (grind (arith, common_steps))
