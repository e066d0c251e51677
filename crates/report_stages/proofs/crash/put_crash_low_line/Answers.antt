-- The calls append the parts of the line one after another.
use Rattle.std.proofs.Common.{◌++◌, codes, arith}
use Rattle.std.proofs.lemmas.Grind.{common_steps}
use Rattle.report_memory.specs.Lines.{range_text}
use Rattle.report_memory.proofs.PutLaws.{goes_on}
use Rattle.report_stages.proofs.crash.put_crash_low_line.Goals as goal

pub returns-in_ok-put_word_range-in-Some : goal.returns-in_ok-put_word_range-in-Some
returns-in_ok-put_word_range-in-Some c =
    rw c.in-Some.is (goes_on c.args.text.now c.put_word_range.new.text c.put_text.new.out c.put_text.result
    (codes "crash low " ++ range_text c.in-Some.low) (codes "\n") c.put_text.ensures.puts
    (grind (arith, common_steps)) (grind (arith, common_steps)))
