-- The calls append the lines one after another.
use Rattle.std.proofs.Common.{◌++◌, codes, arith}
use Rattle.std.proofs.lemmas.Grind.{common_steps}
use Rattle.memblock_model.specs.declared.owner.Which.TheVariants as which
use Rattle.report_memory.proofs.PutLaws.{goes_on}
use Rattle.report_stages.specs.SummaryText.{fullness_line, number_line}
use Rattle.report_stages.proofs.summary.put_summary.Goals as goal

pub returns : goal.returns
returns c =
    let s = c.args.summary.now in
    goes_on c.args.text.now c.put_fullness_line-2.new.text c.put_number_line-4.new.text c.put_number_line-4.result
    (number_line (codes "runs ") s.runs ++ number_line (codes "usable ") s.usable ++ number_line (codes "free ") s.free
    ++ fullness_line which.Memory s.memory ++ fullness_line which.Reserved s.reserved) (number_line (codes "blocks ") s.blocks)
    c.put_number_line-4.ensures (grind (arith, common_steps)) (grind (arith, common_steps))
