-- The calls append the parts of the line one after another.
use Rattle.std.proofs.Common.{◌++◌, codes, arith}
use Rattle.std.proofs.lemmas.Grind.{common_steps}
use Rattle.address_runs.specs.Runs.{range_of_run}
use Rattle.report_memory.specs.Lines.{index_text, range_text}
use Rattle.report_memory.specs.OwnersText.{owner_text}
use Rattle.report_memory.proofs.PutLaws.{goes_on}
use Rattle.report_memory.proofs.owners.put_owner_line.Goals as goal

pub returns : goal.returns
returns c =
    let run = c.args.run.now in
    goes_on c.args.text.now c.put_owner.new.text c.put_text-2.new.out c.put_text-2.result
    (index_text c.args.index ++ range_text (range_of_run run) ++ codes " " ++ owner_text run.value) (codes "\n")
    c.put_text-2.ensures.puts (grind (arith, common_steps)) (grind (arith, common_steps))
