-- The calls append the parts of the line one after another.
use Rattle.std.proofs.Common.{◌++◌, codes, decimal, arith}
use Rattle.std.proofs.lemmas.Grind.{common_steps}
use Rattle.address_runs.specs.Runs.{range_of_run}
use Rattle.report_memory.specs.Lines.{range_text}
use Rattle.report_memory.specs.MapText.{e820_type_name}
use Rattle.report_memory.proofs.PutLaws.{goes_on}
use Rattle.report_memory.proofs.map.put_map_line.Goals as goal

pub returns : goal.returns
returns c =
    let run = c.args.run.now in
    goes_on c.args.text.now c.put_text-3.new.out c.put_text-4.new.out c.put_text-4.result
    (range_text (range_of_run run) ++ codes " " ++ decimal run.value ++ codes " " ++ e820_type_name run.value) (codes "\n")
    c.put_text-4.ensures.puts (grind (arith, common_steps)) (grind (arith, common_steps))
