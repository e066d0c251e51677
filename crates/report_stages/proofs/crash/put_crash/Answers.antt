-- The calls append the line of the area, and the line of its low part.
use Rattle.std.proofs.Common.{◌++◌, codes, arith}
use Rattle.std.proofs.lemmas.Grind.{common_steps}
use Rattle.report_memory.specs.Lines.{range_text}
use Rattle.report_memory.proofs.PutLaws.{goes_on}
use Rattle.report_stages.specs.CrashText.{crash_low_line}
use Rattle.report_stages.proofs.crash.put_crash.Goals as goal

pub returns-in_ok-put_text-in-At : goal.returns-in_ok-put_text-in-At
returns-in_ok-put_text-in-At c =
    rw c.in-At.is (goes_on c.args.text.now c.put_text-in-At.new.out c.put_crash_low_line.new.text c.put_crash_low_line.result
    (codes "crash at " ++ range_text c.in-At.main ++ codes "\n") (crash_low_line c.in-At.low) c.put_crash_low_line.ensures
    (grind (arith, common_steps)) (grind (arith, common_steps)))
